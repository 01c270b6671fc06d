-- The letters of a day that passes are a word that the judge takes. Assumes nothing.
use Prim.Native.Nat.{ℕ, zero, suc, ◌<◌}
use native.Mathlib.Omega.{arith}
use mathlib.Core.Path.{◌≡◌}
use mathlib.Core.Bool.{true}
use mathlib.Core.List.{List, map}
use lib.ListN.{length, get_or, length-map}
use Rattle.event.specs.Event.{is_event}
use Rattle.event.proofs.Tests.{of_T}
use Rattle.day.specs.DayFile.{DayEvent, letter_of, Lines, done, more}
use Rattle.day.specs.DayMeaning.{Whole}
use Rattle.matcher.specs.MatchMeaning.{LegalWord}

-- the letters of good lines are events
letters_events : {y : ℕ} {s rest : List ℕ} {l : List DayEvent} → Lines y s l rest → (i : ℕ) → i < length (map letter_of l)
    → is_event (get_or (map letter_of l) i 0) ≡ true
letters_events done i h = absurd (omega arith)
letters_events (more {e = e} at a b r) zero h = of_T (is_event e.letter) at.event
letters_events (more at a b r) (suc i) h = letters_events r i (omega arith)

pub legal_word : {file : List ℕ} {l : List DayEvent} → Whole file l → LegalWord (map letter_of l)
legal_word {l = l} w = record { fits = omega (arith, w.few, length-map l letter_of); events = letters_events w.good }
