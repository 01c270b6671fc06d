-- Spans of a word, and which of them obey a rule. Assumes nothing.
use Rattle.std.specs.Prelude.{ℕ, ◌≤◌, length}
use Rattle.std.proofs.Math.Seq.{slice}
use Rattle.event.specs.Event.{Word}
use Rattle.expression.specs.Tree.{Tree}
use Rattle.expression.specs.Lang.{Lang}

-- 01, The span table: "Span (i, j), with 0 ≤ i ≤ j ≤ n, is the events after the first i up to and including the j-th"
-- 01, The walk: "A span obeys a rule, or the part of it that a node heads, if its events form a word in the language
-- that section 2.1 gives that rule or part; what a table holds never decides it."
pub record Obeys (w : Word) (t : Tree) (i j : ℕ) : Type 0 where
  pub order : i ≤ j
  pub inside : j ≤ length w
  pub word : Lang t (slice i j w)
