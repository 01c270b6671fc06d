-- Words whose bytes are all events. Assumes nothing.
use Prim.Native.Nat.{suc, ◌≤◌}
use native.Mathlib.Omega.{arith}
use mathlib.Core.List.{[], ◌∷◌}
use lib.ListN.{length}
use Rattle.event.specs.Event.{Word, Events, is_event}
use Rattle.event.proofs.LeadingLaws.{leading_found, leading_is}
use Rattle.event.proofs.Tests.{T_of}
use Rattle.matcher.specs.MatchComputed.{foreign_at}
use Rattle.matcher.specs.MatchMeaning.{EventsBefore}

pub all_events : (w : Word) → EventsBefore w (length w) → Events w
all_events [] h = tt
all_events (x ∷ w) h = (T_of (is_event x) (h 0 (omega arith)), all_events w (λ i l. h (suc i) (omega arith)))

pub none_foreign : (w : Word) → length w ≤ foreign_at w → EventsBefore w (length w)
none_foreign w h i l = (leading_found is_event w).before i (omega arith)

pub foreign_none : (w : Word) → EventsBefore w (length w) → length w ≤ foreign_at w
foreign_none w h =
    let e = leading_is is_event w (length w) (record { within = omega arith; before = h; there = λ l. absurd (omega arith) }) in
    omega arith
