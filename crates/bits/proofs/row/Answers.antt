-- `row` has the two numbers of the row. Assumes nothing.
use mathlib.Core.Path.{refl}
use Rattle.bits.proofs.Laws.{row_law}
use Rattle.bits.proofs.row.Goals as goal

pub returns : goal.returns
returns c = row_law _ _ _ refl refl
