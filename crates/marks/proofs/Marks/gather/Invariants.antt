-- `gather` sets the bits of the numbers at which both exits are marked, one after another. Assumes nothing.
use Rattle.marks.proofs.RowLaws.{Gathering}
use Rattle.marks.proofs.Marks.gather.Given as goal

abbrev pub invariant-loop-k : goal.invariant-loop-k
invariant-loop-k l =
    Gathering l.self.places l.target l.i l.w l.k l.row
