-- `take` takes the first event from a day. Assumes nothing.
use Rattle.merge.proofs.Turns.{paired_next}
use Rattle.merge.proofs.events.Day.take.Goals as goal

pub returns : goal.returns
returns c = let d = c.args.self.now in paired_next d.letters.now d.seconds.now c.requires d.aligned.as_many
