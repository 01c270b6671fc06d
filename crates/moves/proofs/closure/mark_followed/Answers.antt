-- `mark_followed` adds to the states followed. Assumes nothing.
use Rattle.moves.proofs.ClosingLaws.{followed_late, followed_early}
use Rattle.moves.proofs.closure.mark_followed.Goals as goal

pub returns-then-k-s : goal.returns-then-k-s
returns-then-k-s c = followed_early _ c.if-k-s.true c.put_in_two.ensures c.row.ensures c.merge_row.ensures

pub returns-else-k-s : goal.returns-else-k-s
returns-else-k-s c = followed_late _ c.if-k-s.false c.put_in_two.ensures
