-- `cut` cuts a rule into its pieces. Assumes nothing.
use lib.ListN.{length}
use Rattle.rule_line.proofs.CodeLaws.{Cutting}
use Rattle.rule_line.proofs.shape.cut.Given as goal

abbrev pub invariant-loop-rest : goal.invariant-loop-rest
invariant-loop-rest l =
    Cutting l.lines l.s l.shape l.rest

abbrev pub decreases-loop-rest : goal.decreases-loop-rest
decreases-loop-rest l =
    length l.rest
