-- The known days, worked out anew by the computed forms, come out as the table has them. Assumes nothing.
use mathlib.Core.Path.{◌≡◌, refl}
use mathlib.Core.List.{List, [], ◌∷◌, map}
use mathlib.Core.Option.{Option, none, some}
use mathlib.Core.Bool.{Bool, true, ◌&&◌}
use Prim.Native.Nat.{ℕ}
use lib.Dec.{T}
use Rattle.bits.specs.Bit.{has_bit}
use Rattle.event.specs.Event.{is_event}
use Rattle.event.specs.LetterSets.{holds, bit_of}
use Rattle.event.specs.Text.{bytes}
use Rattle.expression.specs.Accept.{accepts}
use Rattle.expression.specs.Leaves.{leaf_at}
use Rattle.expression.specs.Parse.{parse}
use Rattle.expression.specs.TreeOf.{tree_of}
use Rattle.expression.specs.Scan.{scan_from, is_sentence}
use Rattle.work.specs.SpansComputed.{obeying}
use Rattle.work.specs.Count.{full_count}
use Rattle.work.specs.KnownDays.{Day, days}

-- a day's spans, and its count where it says one, worked out anew
abbrev pub recount : Option ℕ → ℕ → Option ℕ
recount none n = none
recount (some m) n = some n

abbrev pub worked : Day → Day
worked d =
    let t = tree_of (bytes d.rule) in
    let w = bytes d.word in
    record { rule = d.rule; word = d.word; spans = obeying w t; count = recount d.count (full_count w t) }

abbrev pub sentences : List Day → Bool
sentences [] = true
sentences (d ∷ l) = is_sentence (bytes d.rule) && sentences l

pub days_sentences : T (sentences days)
unfolding scan_from is_event
days_sentences = tt

-- worked out anew, the days are as they were written
pub days_worked : map worked days ≡ days
unfolding tree_of parse leaf_at is_event holds bit_of has_bit obeying accepts full_count
days_worked = refl
