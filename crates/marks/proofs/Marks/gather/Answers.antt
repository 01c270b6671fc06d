-- `gather` sets the bits of the numbers at which both exits are marked, one after another. Assumes nothing.
use native.Mathlib.Omega.{arith}
use Rattle.marks.proofs.RowLaws.{gather_start, gather_turn, gather_done}
use Rattle.marks.proofs.Marks.gather.Goals as goal

pub loop-k-init : goal.loop-k-init
loop-k-init c =
    gather_start _ _ _ _ c.max-k.ensures

pub loop-k-preserved : goal.loop-k-preserved
loop-k-preserved c =
    gather_turn _ _ _ _ c.loop-k.invariant (omega arith) c.both.ensures

pub returns : goal.returns
returns c =
    gather_done _ _ _ _ c.args.end c.requires.ends_before c.loop-k.invariant (omega arith)
