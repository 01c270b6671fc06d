-- `join_row` stores the four numbers of a row. Assumes nothing.
use native.Mathlib.Omega.{arith}
use Rattle.levels.proofs.ExitLaws.{joining_start, joining_turn, joining_done}
use Rattle.levels.proofs.exits.join_row.Goals as goal

pub loop-w-init : goal.loop-w-init
loop-w-init c = joining_start _ _ _ _

pub loop-w-preserved : goal.loop-w-preserved
loop-w-preserved c = joining_turn _ _ _ _ c.loop-w.invariant c.loop-w-test.true (omega arith) c.kept.ensures

pub returns : goal.returns
returns c = joining_done _ _ _ _ c.loop-w.invariant (omega arith)
