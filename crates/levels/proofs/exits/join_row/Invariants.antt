-- `join_row` stores the four numbers of a row. Assumes nothing.
use Rattle.levels.proofs.ExitLaws.{Joining}
use Rattle.levels.proofs.exits.join_row.Given as goal

abbrev pub invariant-loop-w : goal.invariant-loop-w
invariant-loop-w l = Joining l.keep l.row l.i l.initial.exits l.w l.exits
