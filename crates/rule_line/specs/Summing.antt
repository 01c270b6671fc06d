-- What the functions that sum up the pieces of a rule do. Assumes nothing.
use Rattle.std.specs.Prelude.{ℕ, ◌+◌, ◌-◌, ◌*◌, ◌≤◌, ◌<◌, ◌≡◌, Option, None, Some, List, [], ◌∷◌, length, get_or, take}
use Rattle.rule_line.specs.Passed.{PassedLine}
use Rattle.rule_line.specs.declared.PassedRule.{PassedRule}
use Rattle.rule_line.specs.declared.shape.Origin.{Origin}
use Rattle.rule_line.specs.declared.sums.Sums.{Sums}
use Rattle.rule_line.specs.Coding.{rule_named}

-- what n pieces can come to
pub record SmallSums (w : Sums) (n : ℕ) : Type 0 where
  pub length_most : w.length ≤ n * 1000002
  pub nodes_most : w.nodes ≤ n * 1000000
  pub specials_most : w.specials ≤ n * 1000000

-- with one piece more, that names a rule or none
abbrev pub summed_one : Sums → Option PassedRule → Sums
summed_one w None = record { length = w.length + 1; nodes = w.nodes; specials = w.specials }
summed_one w (Some q) =
    record { length = w.length + q.text_length + 2; nodes = w.nodes + (q.records.m - 1); specials = w.specials + q.records.k }

unfoldable pub summed : List PassedLine → Sums → List Origin → Sums
summed lines w [] = w
summed lines w (o ∷ os) = summed lines (summed_one w (rule_named lines o)) os

abbrev pub no_sums : Sums
no_sums = record { length = 0; nodes = 0; specials = 0 }

-- the sums of the pieces, and each byte's place: the length of what stands before it
pub record Summed (lines : List PassedLine) (origins : List Origin) (places : List ℕ) (w : Sums) : Type 0 where
  pub sums : w ≡ summed lines no_sums origins
  pub placed : (j : ℕ) → j < length origins → get_or places j 0 ≡ (summed lines no_sums (take j origins)).length
