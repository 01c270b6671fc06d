-- `merge_row` pairs s with what k is paired with. Assumes nothing.
use Rattle.moves.proofs.ClosingLaws.{through_law}
use Rattle.moves.proofs.closure.merge_row.Goals as goal

pub returns : goal.returns
returns c = through_law _ _ _ c.row-row.ensures c.merge_row.ensures
