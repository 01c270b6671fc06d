-- `fill` stores the events of both in the order of the one day. Assumes nothing.
use Rattle.merge.specs.MergeComputed.{joined, paired}
use Rattle.merge.proofs.Turns.{Storing}
use Rattle.merge.proofs.events.fill.Given as goal

abbrev pub invariant-loop-i : goal.invariant-loop-i
invariant-loop-i l =
    Storing (joined (paired l.first.letters.now l.first.seconds.now) (paired l.second.letters.now l.second.seconds.now))
    (joined (paired l.left1.letters.now l.left1.seconds.now) (paired l.left2.letters.now l.left2.seconds.now))
    l.initial.letters l.initial.seconds l.letters l.seconds l.i
