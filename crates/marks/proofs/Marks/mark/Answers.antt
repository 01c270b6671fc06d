-- `mark` joins the two numbers of a set to those of number j. Assumes nothing.
use Rattle.marks.proofs.MarkLaws.{place_law}
use Rattle.marks.proofs.Marks.mark.Goals as goal

pub returns : goal.returns
returns c =
    place_law _ _ c.merge.ensures.bits c.merge-2.ensures.bits
