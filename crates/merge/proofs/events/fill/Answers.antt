-- `fill` stores the events of both in the order of the one day. Assumes nothing.
use Rattle.std.proofs.Common.{arith}
use Rattle.merge.proofs.Steps.{as_many}
use Rattle.merge.proofs.Turns.{storing_ends}
use Rattle.merge.proofs.events.fill.Goals as goal

pub take_next-letter-requires : goal.take_next-letter-requires
take_next-letter-requires c =
    let l = c.loop-i in
    omega (arith, l.invariant.counted, as_many c.args.first.aligned c.args.second.aligned, as_many l.left1.aligned l.left2.aligned)

pub returns : goal.returns
returns c =
    let both = storing_ends c.loop-i.invariant (omega (arith, as_many c.args.first.aligned c.args.second.aligned)) in
    record { letters_after = both.0; seconds_after = both.1 }
