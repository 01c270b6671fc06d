-- Parts and moves: where their records and states stand, and how a part's moves are the rule's. Assumes nothing.
use mathlib.Core.Path.{◌≡◌, refl}
use mathlib.Core.Logic.{◌⊎◌, inl, inr}
use Prim.Native.Nat.{ℕ, ◌+◌, ◌*◌, ◌≤◌, ◌<◌}
use native.Mathlib.Omega.{arith}
use lib.ListN.{length}
use Rattle.event.specs.Event.{Word}
use Rattle.expression.specs.Tree.{Tree, empty, epsilon, letter, union, intersection, concatenation, complement, star, size}
use Rattle.work.specs.Walk.{entry, exit, Part, itself, union_left, union_right, intersection_left, intersection_right, concatenation_left}
use Rattle.work.specs.Walk.{concatenation_right, complement_inner, star_inner, NodeMove, epsilon_through, letter_use, union_to_left}
use Rattle.work.specs.Walk.{union_to_right, union_left_out, union_right_out, concatenation_in, concatenation_over, concatenation_out, star_in}
use Rattle.work.specs.Walk.{star_skip, star_again, star_out, intersection_span, complement_span, RuleMove}

-- the states of the nodes with the records x to y - 1
abbrev pub Within : ℕ → ℕ → ℕ → Type 0
Within x y s = (2 * x ≤ s) × (s < 2 * y)

pub part_range : {t u : Tree} {x y : ℕ} → Part t x u y → (x ≤ y) × (y + size u ≤ x + size t)
part_range itself = omega arith
part_range (union_left p) = omega (arith, part_range p)
part_range (union_right p) = omega (arith, part_range p)
part_range (intersection_left p) = omega (arith, part_range p)
part_range (intersection_right p) = omega (arith, part_range p)
part_range (concatenation_left p) = omega (arith, part_range p)
part_range (concatenation_right p) = omega (arith, part_range p)
part_range (complement_inner p) = omega (arith, part_range p)
part_range (star_inner p) = omega (arith, part_range p)

-- a part of a part
pub part_part : {t u v : Tree} {x y z : ℕ} → Part t x u y → Part u y v z → Part t x v z
part_part itself q = q
part_part (union_left p) q = union_left (part_part p q)
part_part (union_right p) q = union_right (part_part p q)
part_part (intersection_left p) q = intersection_left (part_part p q)
part_part (intersection_right p) q = intersection_right (part_part p q)
part_part (concatenation_left p) q = concatenation_left (part_part p q)
part_part (concatenation_right p) q = concatenation_right (part_part p q)
part_part (complement_inner p) q = complement_inner (part_part p q)
part_part (star_inner p) q = star_inner (part_part p q)

module _ (w : Word) where
  -- the states from which a node's own moves lead
  abbrev pub Source : Tree → ℕ → ℕ → Type 0
  Source (empty o) x s = ⊥
  Source (epsilon o) x s = s ≡ entry (epsilon o) x
  Source (letter o c) x s = s ≡ entry (letter o c) x
  Source (union o a b) x s = (s ≡ entry (union o a b) x) ⊎ ((s ≡ exit a x) ⊎ (s ≡ exit b (x + size a)))
  Source (intersection o a b) x s = s ≡ entry (intersection o a b) x
  Source (concatenation o a b) x s = (s ≡ entry (concatenation o a b) x) ⊎ ((s ≡ exit a x) ⊎ (s ≡ exit b (x + size a)))
  Source (complement o a) x s = s ≡ entry (complement o a) x
  Source (star o a) x s = (s ≡ entry (star o a) x) ⊎ (s ≡ exit a x)

  pub source : {t : Tree} {x s j s' j' : ℕ} → NodeMove w t x s j s' j' → Source t x s
  source epsilon_through = refl
  source (letter_use h e) = refl
  source union_to_left = inl refl
  source union_to_right = inl refl
  source union_left_out = inr (inl refl)
  source union_right_out = inr (inr refl)
  source concatenation_in = inl refl
  source concatenation_over = inr (inl refl)
  source concatenation_out = inr (inr refl)
  source star_in = inl refl
  source star_skip = inl refl
  source star_again = inr refl
  source star_out = inr refl
  source (intersection_span h) = refl
  source (complement_span h) = refl

  source_range : (t : Tree) (x s : ℕ) → Source t x s → Within x (x + size t) s
  source_range (empty o) x s h = absurd h
  source_range (epsilon o) x s h = omega arith
  source_range (letter o c) x s h = omega arith
  source_range (union o a b) x s (inl h) = omega arith
  source_range (union o a b) x s (inr (inl h)) = omega arith
  source_range (union o a b) x s (inr (inr h)) = omega arith
  source_range (intersection o a b) x s h = omega arith
  source_range (concatenation o a b) x s (inl h) = omega arith
  source_range (concatenation o a b) x s (inr (inl h)) = omega arith
  source_range (concatenation o a b) x s (inr (inr h)) = omega arith
  source_range (complement o a) x s h = omega arith
  source_range (star o a) x s (inl h) = omega arith
  source_range (star o a) x s (inr h) = omega arith

  -- a move leaves from a state of the tree
  pub part_move_range : {t u : Tree} {x y s j s' j' : ℕ} → Part t x u y → NodeMove w u y s j s' j' → Within x (x + size t) s
  part_move_range {u = u} {y = y} {s = s} p m = omega (arith, part_range p, source_range u y s (source m))

  pub move_range : {t : Tree} {x s j s' j' : ℕ} → RuleMove w t x s j s' j' → Within x (x + size t) s
  move_range m = part_move_range m.within m.move

  -- a root's move is the tree's; a part's moves are the tree's
  pub by_root : {t : Tree} {x s j s' j' : ℕ} → NodeMove w t x s j s' j' → RuleMove w t x s j s' j'
  by_root {t} {x} m = record { part = t; first = x; within = itself; move = m }

  pub by_part : {t u : Tree} {x y s j s' j' : ℕ} → Part t x u y → RuleMove w u y s j s' j' → RuleMove w t x s j s' j'
  by_part p m = record { part = m.part; first = m.first; within = part_part p m.within; move = m.move }

  -- no move leads back, nor past the word's end
  pub node_number : {t : Tree} {x s j s' j' : ℕ} → NodeMove w t x s j s' j' → j ≤ length w → (j ≤ j') × (j' ≤ length w)
  node_number epsilon_through l = omega arith
  node_number (letter_use h e) l = omega arith
  node_number union_to_left l = omega arith
  node_number union_to_right l = omega arith
  node_number union_left_out l = omega arith
  node_number union_right_out l = omega arith
  node_number concatenation_in l = omega arith
  node_number concatenation_over l = omega arith
  node_number concatenation_out l = omega arith
  node_number star_in l = omega arith
  node_number star_skip l = omega arith
  node_number star_again l = omega arith
  node_number star_out l = omega arith
  node_number (intersection_span h) l = (h.order, h.inside)
  node_number (complement_span h) l = (h.order, h.inside)
