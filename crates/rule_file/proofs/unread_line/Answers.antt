-- `unread_line` is a line whose rule is `0`. Assumes nothing.
use native.Mathlib.Omega.{arith}
use mathlib.Core.Path.{refl}
use Rattle.rule_line.proofs.StoredLines.{unused_within}
use Rattle.rule_file.proofs.unread_line.Goals as goal

pub invariant_of-result-2 : goal.invariant_of-result-2
invariant_of-result-2 c =
    record { length_bound = omega arith; specials_bound = omega arith; some_node = omega arith; nodes_long = refl; offsets_bound = unused_within 1000000 64 }
