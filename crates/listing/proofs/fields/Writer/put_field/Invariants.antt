-- `put_field` writes the tab, and then the digits one after another. Assumes nothing.
use Rattle.std.proofs.Common.{drop}
use Rattle.listing.specs.Lines.{field}
use Rattle.listing.proofs.WrittenLaws.{PartPut}
use Rattle.listing.proofs.fields.Writer.put_field.Given as goal

abbrev pub invariant-loop-digit : goal.invariant-loop-digit
invariant-loop-digit l = PartPut l.fn.self (field l.x) (drop l.digit-index l.digit-items) l.self
