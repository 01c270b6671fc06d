-- `next` moves the entries of the nodes that fit an event up to their exits. Assumes nothing.
use Prim.Native.Nat.{◌+◌, ◌*◌}
use mathlib.Core.Path.{refl}
use lib.ListN.{get_or}
use native.Mathlib.Omega.{arith}
use Rattle.levels.proofs.EventLaws.{even_top, event_law}
use Rattle.levels.proofs.events.next.Goals as goal

pub move_up-requires : goal.move_up-requires
move_up-requires c =
    let a = c.args in
    even_top a.letters.now a.set.now a.event (c.requires.letter a.event) 0 (2 * a.event) (omega arith) (omega arith) (get_or a.set.now 0 0) _ refl

pub move_up-requires-2 : goal.move_up-requires-2
move_up-requires-2 c =
    let a = c.args in
    even_top a.letters.now a.set.now a.event (c.requires.letter a.event) 1 (2 * a.event + 1) (omega arith) refl (get_or a.set.now 1 0) _ refl

pub returns : goal.returns
returns c =
    let a = c.args in
    event_law a.letters.now a.set.now a.event (c.requires.letter a.event) _ _ c.move_up.ensures c.move_up-2.ensures
