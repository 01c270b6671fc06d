-- `close` closes the moves. Assumes nothing.
use mathlib.Core.Path.{◌≡◌}
use native.Mathlib.Omega.{arith}
use Rattle.moves.proofs.ClosingLaws.{completed_start, completed_done}
use Rattle.moves.proofs.closure.close.Goals as goal

pub loop-s-init : goal.loop-s-init
loop-s-init c = λ m f. completed_start f

pub loop-s-preserved : goal.loop-s-preserved
loop-s-preserved c = λ m f. c.complete.ensures m (c.loop-s.invariant m f)

pub returns : goal.returns
returns c =
    let e : c.loop-s.s ≡ c.args.n = omega arith in
    completed_done c.args.n c.requires.1 (rw e at (c.loop-s.invariant c.args.c.now c.diagonal.ensures))
