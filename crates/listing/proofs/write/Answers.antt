-- `write` writes the heading and then the lines of the block. Assumes nothing.
use Rattle.std.proofs.Common.{◌∙◌, sym, rules, arith, ap, length, ℕ, List, ◌++◌}
use Rattle.listing.specs.Lines.{line}
use Rattle.listing.specs.Marked.{is_marked, block_lines}
use Rattle.listing.proofs.SpanLines.{listing_is, listing_length}
use Rattle.listing.proofs.WrittenLaws.{puts_then, puts_as, written_front, written_long}
use Rattle.listing.proofs.write.Goals as goal

pub put_line-requires : goal.put_line-requires
put_line-requires c =
    let e = ap (λ (l : List ℕ). length (line 72 l)) c.fields.ensures in
    omega (arith, c.requires.block_in_bounds, listing_length c.args.heading c.args.block.now)

pub write_spans-requires-clause-room : goal.write_spans-requires-clause-room
write_spans-requires-clause-room c =
    let e = ap (λ (l : List ℕ). length (line 72 l)) c.fields.ensures in
    let w = c.put_line.ensures.written in
    omega (arith, c.requires.block_in_bounds, w.upto, written_long w, listing_length c.args.heading c.args.block.now)

pub returns : goal.returns
returns c =
    let h = c.args.heading in
    let b = c.args.block.now in
    let e = ap (λ (l : List ℕ). line 72 l ++ block_lines (is_marked h.n b) h.n 0) c.fields.ensures ∙ sym (listing_is h b) in
    let p = puts_as e (puts_then c.put_line.ensures c.write_spans.ensures) in
    search rules ∙ written_front p.written (omega (arith, c.requires.block_in_bounds))
