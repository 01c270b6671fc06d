-- `states_at` has the two numbers of number j. Assumes nothing.
use Rattle.marks.proofs.MarkLaws.{pair_law}
use Rattle.marks.proofs.Marks.states_at.Goals as goal

pub returns : goal.returns
returns c = pair_law _ _
