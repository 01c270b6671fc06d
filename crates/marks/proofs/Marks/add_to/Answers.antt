-- `add_marked` joins the two numbers of number j to a set. Assumes nothing.
use Rattle.marks.proofs.MarkLaws.{marked_law}
use Rattle.marks.proofs.Marks.add_to.Goals as goal

pub returns : goal.returns
returns c =
    marked_law _ _ c.merge.ensures.bits c.merge-2.ensures.bits
