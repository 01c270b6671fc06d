-- `diagonal` pairs each state with itself. Assumes nothing.
use native.Mathlib.Omega.{arith}
use Rattle.moves.proofs.ClosingLaws.{diagonal_none, diagonal_turn}
use Rattle.moves.proofs.closure.diagonal.Goals as goal

pub loop-s-init : goal.loop-s-init
loop-s-init c = diagonal_none _

pub loop-s-preserved : goal.loop-s-preserved
loop-s-preserved c = diagonal_turn c.loop-s.s (omega arith) c.loop-s.invariant c.put.ensures.bits
