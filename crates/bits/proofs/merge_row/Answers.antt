-- `merge_row` joins the two numbers of the row. Assumes nothing.
use Rattle.bits.proofs.Laws.{row_adds}
use Rattle.bits.proofs.merge_row.Goals as goal

pub returns : goal.returns
returns c = row_adds _ _ c.merge.ensures.bits c.merge-2.ensures.bits
