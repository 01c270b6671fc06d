-- `read_row` has the four numbers of the row. Assumes nothing.
use mathlib.Core.Path.{refl}
use Rattle.table.proofs.Rows.{read_law}
use Rattle.table.proofs.Block.read_row.Goals as goal

pub returns : goal.returns
returns c = read_law _ _ _ _ _ refl refl refl refl refl
