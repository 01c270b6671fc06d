-- `put_line` writes the letter, the fields one after another, and the newline. Assumes nothing.
use Rattle.std.proofs.Common.{drop}
use Rattle.listing.specs.Lines.{fields, line}
use Rattle.listing.proofs.WrittenLaws.{PartPut}
use Rattle.listing.proofs.fields.Writer.put_line.Given as goal

abbrev pub invariant-loop-x : goal.invariant-loop-x
invariant-loop-x l = PartPut l.fn.self (line l.letter l.fields) (fields (drop l.x-index l.fields)) l.self
