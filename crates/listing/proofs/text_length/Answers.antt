-- `text_length` adds the heading and the lines of the block. Assumes nothing.
use Rattle.std.proofs.Common.{arith, ap, length, ℕ, List}
use Rattle.listing.specs.Lines.{line}
use Rattle.listing.proofs.SpanLines.{listing_length}
use Rattle.listing.proofs.WrittenLaws.{head_short}
use Rattle.listing.proofs.text_length.Goals as goal

pub overflow_add-result : goal.overflow_add-result
overflow_add-result c =
    let e = ap (λ (l : List ℕ). length (line 72 l)) c.fields.ensures in
    omega (arith, c.line_length.ensures 72, head_short c.args.heading, c.spans_length.ensures.1)

pub returns : goal.returns
returns c =
    let e = ap (λ (l : List ℕ). length (line 72 l)) c.fields.ensures in
    omega (arith, c.line_length.ensures 72, c.spans_length.ensures.0, listing_length c.args.heading c.args.block.now)
