-- `row_length` sums over the ends of a row whose bit is 1. Assumes nothing.
use Rattle.std.proofs.Common.{arith, ap, length}
use Rattle.bits.specs.Bit.{bit_at}
use Rattle.listing.proofs.SpanLines.{row_end, row_added, row_most}
use Rattle.listing.proofs.spans.row_length.Goals as goal

pub overflow_add-sum : goal.overflow_add-sum
overflow_add-sum c =
    let a = c.args in
    let e = row_added (bit_at a.row.now) a.i a.n c.in-Some.ensures in
    let d = c.line_length-sum.ensures 83 in
    omega (arith, c.loop-j.invariant.1, row_most (bit_at a.row.now) a.i a.n c.requires.1)

pub loop-j-preserved : goal.loop-j-preserved
loop-j-preserved c =
    let a = c.args in
    let e = row_added (bit_at a.row.now) a.i a.n c.in-Some.ensures in
    let d = c.line_length-sum.ensures 83 in
    let w = c.in-Some.ensures.within in
    (omega arith, omega (arith, c.loop-j.invariant.1))

pub returns : goal.returns
returns c =
    let a = c.args in
    let e = ap length (row_end (bit_at a.row.now) a.i a.n c.loop-j.from c.in_default.ensures) in
    let m = row_most (bit_at a.row.now) a.i a.n c.requires.1 in
    (omega (arith, c.loop-j.invariant.1), omega (arith, c.loop-j.invariant.1))
