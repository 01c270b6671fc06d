-- `row_of` has four numbers. Assumes nothing.
use Rattle.marks.proofs.RowLaws.{row_law}
use Rattle.marks.proofs.Marks.row_of.Goals as goal

pub returns : goal.returns
returns c =
    row_law _ _ c.row_word.ensures c.row_word-2.ensures c.row_word-3.ensures c.row_word-4.ensures
