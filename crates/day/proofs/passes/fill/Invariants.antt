-- `fill` stores the events line by line. Assumes nothing.
use Rattle.day.proofs.Turns.{Storing}
use Rattle.day.proofs.passes.fill.Given as goal

abbrev pub invariant-loop-i : goal.invariant-loop-i
invariant-loop-i l = Storing l.file l.rest l.n l.initial.letters l.initial.seconds l.letters l.seconds l.i
