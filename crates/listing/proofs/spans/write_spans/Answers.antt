-- `write_spans` writes the lines of a block's rows one after another. Assumes nothing.
use Rattle.std.proofs.Common.{arith, ◌+◌}
use Rattle.bits.specs.Bit.{bit_at}
use Rattle.listing.specs.Marked.{is_marked, block_lines, row_lines}
use Rattle.listing.proofs.SpanLines.{block_over, block_row}
use Rattle.listing.proofs.WrittenLaws.{part_start, part_more, part_piece_room, part_done}
use Rattle.listing.proofs.spans.write_spans.Goals as goal

pub loop-i-init : goal.loop-i-init
loop-i-init c = part_start c.args.writer.now _

pub write_row-requires : goal.write_row-requires
write_row-requires c =
    let a = c.args in
    let l = c.loop-i in
    let r = c.read_row-row in
    let e = block_row a.block.now r.result a.n l.i c.requires.lies.short (omega arith) r.ensures in
    record {
      row_in_block = (omega arith, c.requires.lies.short);
      room = part_piece_room l.invariant (row_lines (bit_at r.result) l.i a.n l.i) (block_lines (is_marked a.n a.block.now) a.n (l.i + 1)) e c.requires.room;
    }

pub loop-i-preserved : goal.loop-i-preserved
loop-i-preserved c =
    let a = c.args in
    let l = c.loop-i in
    let r = c.read_row-row in
    let e = block_row a.block.now r.result a.n l.i c.requires.lies.short (omega arith) r.ensures in
    part_more l.invariant (block_lines (is_marked a.n a.block.now) a.n (l.i + 1)) e c.write_row.ensures

pub returns : goal.returns
returns c =
    let a = c.args in
    let l = c.loop-i in
    part_done l.invariant (block_over (is_marked a.n a.block.now) a.n l.i (omega arith))
