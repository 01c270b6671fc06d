-- `next_end` looks at number after number, from that of `from` on. Assumes nothing.
use Rattle.std.proofs.Common.{arith, ◌%◌}
use lib.Pow.{pow_pos}
use Rattle.listing.proofs.RowLaws.{none_on, none_left, next_found}
use Rattle.listing.proofs.spans.next_end.Goals as goal

pub overflow_sub-one : goal.overflow_sub-one
overflow_sub-one c = omega (arith, c.one.ensures, pow_pos (c.loop-j.j % 64))

pub returns-then-end-n : goal.returns-then-end-n
returns-then-end-n c =
    let l = c.loop-j in
    next_found c.args.row.now l.invariant.2 c.one.ensures c.args.n c.in-Some.b l.invariant.0 c.in-Some.ensures c.if-end-n.true

pub returns-else-end-n : goal.returns-else-end-n
returns-else-end-n c =
    let l = c.loop-j in
    none_left c.args.row.now l.invariant.2 c.one.ensures c.args.n c.in-Some.b c.in-Some.ensures c.if-end-n.false

pub loop-j-preserved : goal.loop-j-preserved
loop-j-preserved c = (omega arith, omega arith, none_on c.args.row.now c.loop-j.invariant.2 c.one.ensures c.in_default.ensures)

pub returns : goal.returns
returns c = λ k l m. c.loop-j.invariant.2 k l (omega arith)
