-- `add_row` joins the row's numbers one after another. Assumes nothing.
use Rattle.bits.specs.Runs.{Adds}
use Rattle.table.proofs.Rows.{FromRow}
use Rattle.table.proofs.Block.add_row.Given as goal

abbrev pub invariant-loop-h : goal.invariant-loop-h
invariant-loop-h l = Adds l.initial.table (FromRow l.row l.at l.h) l.table
