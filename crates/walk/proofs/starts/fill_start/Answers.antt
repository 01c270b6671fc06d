-- `fill_start` walks, or has the initial states alone. Assumes nothing.
use Rattle.walk.proofs.Ready.{ready_of}
use Rattle.walk.proofs.EndLaws.{ended_started}
use Rattle.walk.proofs.starts.fill_start.Goals as goal

pub returns-then-ends_there-clause-started : goal.returns-then-ends_there-clause-started
returns-then-ends_there-clause-started c =
    let p = c.requires in
    ended_started c.args.target (ready_of c.args.automaton.now p.room) p.i_bound p.initial
    (c.ends_there.ensures.0 c.if-ends_there.true).1 c.fill_ended.ensures.ended
