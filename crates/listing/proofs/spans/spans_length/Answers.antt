-- `spans_length` sums over the rows of a block. Assumes nothing.
use Rattle.std.proofs.Common.{arith, ap, length}
use Rattle.listing.specs.Marked.{is_marked}
use Rattle.listing.proofs.SpanLines.{block_over, block_length_lem, block_most}
use Rattle.listing.proofs.spans.spans_length.Goals as goal

pub overflow_add-sum : goal.overflow_add-sum
overflow_add-sum c =
    let a = c.args in
    let l = c.loop-i in
    let r = c.read_row-row in
    let e = block_length_lem a.block.now r.result a.n l.i c.requires.short (omega arith) r.ensures in
    let m = block_most (is_marked a.n a.block.now) a.n c.requires.short in
    omega (arith, l.invariant, c.row_length-sum.ensures.0)

pub loop-i-preserved : goal.loop-i-preserved
loop-i-preserved c =
    let a = c.args in
    let l = c.loop-i in
    let r = c.read_row-row in
    let e = block_length_lem a.block.now r.result a.n l.i c.requires.short (omega arith) r.ensures in
    omega (arith, l.invariant, c.row_length-sum.ensures.0)

pub returns : goal.returns
returns c =
    let a = c.args in
    let l = c.loop-i in
    let e = ap length (block_over (is_marked a.n a.block.now) a.n l.i (omega arith)) in
    let m = block_most (is_marked a.n a.block.now) a.n c.requires.short in
    (omega (arith, l.invariant), omega (arith, l.invariant))
