-- `diagonal` pairs each state with itself. Assumes nothing.
use Rattle.bits.specs.Runs.{Adds}
use Rattle.moves.specs.Closing.{OnDiagonal}
use Rattle.moves.proofs.closure.diagonal.Given as goal

abbrev pub invariant-loop-s : goal.invariant-loop-s
invariant-loop-s l = Adds l.initial.c (OnDiagonal l.s) l.c
