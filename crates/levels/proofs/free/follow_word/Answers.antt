-- `follow_word` follows the states of a number, one after another. Assumes nothing.
use mathlib.Core.Path.{refl}
use Rattle.levels.proofs.Following.{following_start, following_turn, following_less, following_done}
use Rattle.levels.proofs.free.follow_word.Goals as goal

pub loop-b-init : goal.loop-b-init
loop-b-init c = (refl, following_start _ _ _ _)

pub loop-b-smaller : goal.loop-b-smaller
loop-b-smaller c =
    let i = c.loop-b.invariant in
    rw c.one-done.ensures (following_less _ _ _ _ i.1 c.requires.w_bound c.requires.reflexive i.0 c.in-Some.ensures)

pub loop-b-preserved : goal.loop-b-preserved
loop-b-preserved c =
    let i = c.loop-b.invariant in
    (i.0, rw c.one-done.ensures (following_turn _ _ _ _ i.1 c.requires.w_bound c.requires.reflexive i.0 c.in-Some.ensures c.lead.ensures))

pub returns : goal.returns
returns c = following_done _ _ _ c.loop-b.invariant.1 c.loop-b.invariant.0 c.in_default.ensures
