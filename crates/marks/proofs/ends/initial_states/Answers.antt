-- `initial_states` closes the entries. Assumes nothing.
use Rattle.bits.proofs.Laws.{put_adds, adds_then}
use Rattle.marks.proofs.EndLaws.{initial_law}
use Rattle.marks.proofs.ends.initial_states.Goals as goal

pub returns : goal.returns
returns c =
    let p = adds_then (put_adds c.put_in_two.ensures) (put_adds c.put_in_two-2.ensures) in
    initial_law c.args.target (rw (c.saturating_sub.ensures, c.saturating_sub-2.ensures) at p) c.closure.ensures
