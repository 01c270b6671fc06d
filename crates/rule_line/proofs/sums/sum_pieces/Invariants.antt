-- `sum_pieces` is `summed`, and each place is what stands before. Assumes nothing.
use Rattle.rule_line.proofs.SumLaws.{Summing}
use Rattle.rule_line.proofs.sums.sum_pieces.Given as goal

abbrev pub invariant-loop-j : goal.invariant-loop-j
invariant-loop-j l =
    Summing l.lines l.origins l.places l.w l.j
