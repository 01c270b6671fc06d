-- The walk over one tree, from its entry: an owner's walk is the walk over the rule or over a side of its node. Assumes nothing.
use Prim.Native.Nat.{ℕ}
use Rattle.event.specs.Event.{Word}
use Rattle.expression.specs.Tree.{Tree}
use Rattle.work.specs.Walk.{entry, RuleMove}

-- the places that the moves of t, whose records stand from x on, reach from its entry at number i
pub data TreeWalk (w : Word) (t : Tree) (x i : ℕ) : ℕ → ℕ → Type 0 where
  start : TreeWalk w t x i (entry t x) i
  step : {s j s' j' : ℕ} → TreeWalk w t x i s j → RuleMove w t x s j s' j' → TreeWalk w t x i s' j'
