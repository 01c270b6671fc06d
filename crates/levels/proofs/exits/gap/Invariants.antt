-- `gap` looks through the numbers of a row. Assumes nothing.
use Rattle.levels.proofs.ExitLaws.{Gapless}
use Rattle.levels.proofs.exits.gap.Given as goal

abbrev pub invariant-loop-w : goal.invariant-loop-w
invariant-loop-w l = Gapless l.exits l.i l.k l.below l.w
