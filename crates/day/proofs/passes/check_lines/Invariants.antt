-- `check_lines` finds what `day_lines` comes to. Assumes nothing.
use Rattle.std.proofs.Common.{length}
use Rattle.day.proofs.Turns.{Coming}
use Rattle.day.proofs.passes.check_lines.Given as goal

abbrev pub invariant-loop-rest : goal.invariant-loop-rest
invariant-loop-rest l = Coming l.file l.rest l.n l.last

abbrev pub decreases-loop-rest : goal.decreases-loop-rest
decreases-loop-rest l = length l.rest
