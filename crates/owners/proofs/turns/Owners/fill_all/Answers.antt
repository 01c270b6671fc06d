-- `fill_all` gives the special nodes their turns, and then the whole rule. Assumes nothing.
use mathlib.Core.Path.{refl}
use Rattle.owners.proofs.Settings.{has_room, whole_exit}
use Rattle.owners.proofs.Turning.{whole_turn, specials_spent}
use Rattle.owners.proofs.Walkers.{whole_apart}
use Rattle.owners.proofs.turns.Owners.fill_all.Goals as goal

pub returns-in_err-work : goal.returns-in_err-work
returns-in_err-work c =
    rw c.from_residual.ensures (specials_spent refl c.in_err-work.ensures.turned)

pub fill_block-requires-clause-room : goal.fill_block-requires-clause-room
fill_block-requires-clause-room c =
    has_room c.requires.setting _ c.fill_specials.auto.table

pub fill_block-requires-clause-apart : goal.fill_block-requires-clause-apart
fill_block-requires-clause-apart c =
    let e = whole_exit c.requires.setting in
    whole_apart c.requires.setting _ _ _ e.1 e.1 c.requires.whole_apart

pub returns : goal.returns
returns c =
    let s = c.in_ok-work.ensures in
    whole_turn c.requires.setting _ refl s.turned c.requires.whole_apart _ _ (rw s.limit at c.fill_block.ensures.filled)
