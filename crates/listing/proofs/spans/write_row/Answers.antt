-- `write_row` writes the lines of the ends of a row whose bit is 1. Assumes nothing.
use Rattle.std.proofs.Common.{arith, ◌+◌}
use Rattle.bits.specs.Bit.{bit_at}
use Rattle.listing.specs.Lines.{span_line}
use Rattle.listing.specs.Marked.{row_lines}
use Rattle.listing.proofs.SpanLines.{row_end, row_next}
use Rattle.listing.proofs.WrittenLaws.{part_start, part_more, part_piece_room, part_done}
use Rattle.listing.proofs.spans.write_row.Goals as goal

pub loop-j-init : goal.loop-j-init
loop-j-init c = (omega arith, part_start c.args.writer.now _)

pub put_line-requires : goal.put_line-requires
put_line-requires c =
    let a = c.args in
    let j = c.in-Some.j in
    part_piece_room c.loop-j.invariant.1 (span_line a.i j) (row_lines (bit_at a.row.now) a.i a.n (j + 1))
    (row_next (bit_at a.row.now) a.i a.n c.in-Some.ensures) c.requires.room

pub loop-j-preserved : goal.loop-j-preserved
loop-j-preserved c =
    let a = c.args in
    let w = c.in-Some.ensures.within in
    (omega arith, part_more c.loop-j.invariant.1 _ (row_next (bit_at a.row.now) a.i a.n c.in-Some.ensures) c.put_line.ensures)

pub returns : goal.returns
returns c =
    let a = c.args in
    part_done c.loop-j.invariant.1 (row_end (bit_at a.row.now) a.i a.n c.loop-j.from c.in_default.ensures)
