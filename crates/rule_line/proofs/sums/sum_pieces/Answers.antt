-- `sum_pieces` is `summed`, and each place is what stands before. Assumes nothing.
use Rattle.rule_line.proofs.SumLaws.{summing_start, summing_on}
use Rattle.rule_line.proofs.sums.sum_pieces.Goals as goal

pub loop-j-init : goal.loop-j-init
loop-j-init c =
    summing_start _ _ _ c.told-places

pub loop-j-preserved : goal.loop-j-preserved
loop-j-preserved c =
    summing_on c.loop-j.invariant _ c.requires c.loop-j-test.true c.add_piece-w.ensures
