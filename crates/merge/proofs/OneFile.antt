-- The one day of two is a day: some day file has just its events, and a file with no lines adds none. Assumes nothing.
use Prim.Native.Nat.{ℕ, ◌*◌, ◌≤◌}
use native.Mathlib.Omega.{arith}
use mathlib.Core.Path.{◌≡◌, refl, sym, ap, subst, ◌∙◌}
use mathlib.Core.List.{List, [], ◌∷◌, ◌++◌, map}
use lib.Dec.{T}
use lib.ListN.{length, length-map, length-append}
use Rattle.event.specs.Event.{is_event}
use Rattle.day.specs.DayFile.{DayEvent, last_second, SecondNumeral, line_text, Lines, done, more}
use Rattle.day.specs.DayLines.{LinesResult, stopped, events, day_lines}
use Rattle.day.specs.DayComputed.{day_events, ComesTo, answered, day_answer}
use Rattle.day.specs.DayMeaning.{Whole}
use Rattle.day.proofs.Answered.{events_read, read_events, answer_of_lem}
use Rattle.merge.specs.Merged.{FileEvent, event_of}
use Rattle.merge.specs.MergeComputed.{merged, joined, after_files, after_first, merge_answer}
use Rattle.merge.specs.MergeMeaning.{OneDay}
use Rattle.merge.proofs.MergedLaws.{All, Climbs, Sorted, lines_climb, all_merged, sorted_merged, not_before, merged_only, number_together}
use Rattle.merge.proofs.Answered.{one_day}
use Rattle.merge.proofs.Steps.{few_enough}

-- ---- a file of the one day
-- how an event stands in a line
record Written (e : DayEvent) : Type 0 where
  digits : List ℕ
  decimal : SecondNumeral digits e.second
  event : T (is_event e.letter)
  last : e.second ≤ last_second

lines_written : {y : ℕ} {s rest : List ℕ} {l : List DayEvent} → Lines y s l rest → All Written l
lines_written done = tt
lines_written (more h low high g) =
    (record { digits = h.digits; decimal = h.decimal; event = h.event; last = high }, lines_written g)

abbrev AllWritten : List FileEvent → Type 0
AllWritten l = All (λ (x : FileEvent). Written (event_of x)) l

abbrev text : (l : List FileEvent) → AllWritten l → List ℕ
text [] w = []
text (x ∷ l) w = line_text w.0.digits (event_of x).letter ++ text l w.1

text_lines : (y : ℕ) (l : List FileEvent) (w : AllWritten l) → Climbs y (map event_of l) → Lines y (text l w) (map event_of l) []
text_lines y [] w c = done
text_lines y (x ∷ l) w c =
    let v = w.0 in
    more (record { digits = v.digits; decimal = v.decimal; event = v.event; text = refl }) c.0 v.last
    (text_lines (event_of x).second l w.1 c.1)

-- a line has at most ten bytes
text_length_lem : (l : List FileEvent) (w : AllWritten l) → length (text l w) ≤ 10 * length l
text_length_lem [] w = omega arith
text_length_lem (x ∷ l) w =
    let v = w.0 in
    let few = v.decimal.few in
    let c = (event_of x).letter in
    let n = length-append (line_text v.digits c) (text l w.1) in
    let m = length-append v.digits (9 ∷ c ∷ 10 ∷ []) in
    omega (arith, text_length_lem l w.1)

weaker : {P Q : FileEvent → Type 0} → ((x : FileEvent) → P x → Q x) → (l : List FileEvent) → All P l → All Q l
weaker f [] h = tt
weaker f (x ∷ l) h = (f x h.0, weaker f l h.1)

sorted_climbs : (y : ℕ) (l : List FileEvent) → All (λ (x : FileEvent). y ≤ (event_of x).second) l → Sorted l → Climbs y (map event_of l)
sorted_climbs y [] h s = tt
sorted_climbs y (x ∷ l) h s = (h.0, sorted_climbs (event_of x).second l (weaker (not_before x) l s.0) s.1)

above_none : (l : List FileEvent) → All (λ (x : FileEvent). 0 ≤ (event_of x).second) l
above_none [] = tt
above_none (x ∷ l) = (omega arith, above_none l)

one_file : {s t : List ℕ} {l : List FileEvent} → OneDay s t l → (file : List ℕ) × Whole file (map event_of l)
one_file {l = l} d =
    let u = d.whole.first_whole.good in
    let v = d.whole.second_whole.good in
    let e = merged_only d.whole.first_whole d.whole.second_whole d.in_order in
    let w : AllWritten l = subst AllWritten (sym e) (all_merged (λ (x : FileEvent). Written (event_of x)) d.a d.b (lines_written u) (lines_written v)) in
    let o : Sorted l = subst Sorted (sym e) (sorted_merged 0 0 d.a d.b (lines_climb u) (lines_climb v)) in
    let n = number_together d.in_order.interleaved in
    let k = text_length_lem l w in
    let j = length-map l event_of in (
      text l w,
      record {
        fits = omega (arith, d.few);
        good = text_lines 0 l w (sorted_climbs 0 l (above_none l) o);
        few = omega (arith, d.few);
      },
    )

-- 02 g): "with its n, as the day reader's": some day file has just these events, and merging answers what the day reader answers of it
pub as_one_file : {s t : List ℕ} {l : List FileEvent} → OneDay s t l
    → (file : List ℕ) × Whole file (map event_of l) × ((ls ss : List ℕ) → merge_answer s t ls ss ≡ day_answer file ls ss)
as_one_file {s} {t} {l} d =
    let (file, w) = one_file d in
    (file, w, λ ls ss. sym (one_day s t ls ss d) ∙ answer_of_lem file ls ss (events (map event_of l)) (read_events w))

-- ---- a file with no lines
joined_none : (a : List DayEvent) → joined a [] ≡ a
unfolding merged
joined_none [] = refl
joined_none (e ∷ a) = ap (λ (l : List DayEvent). e ∷ l) (joined_none a)

none_joined : (b : List DayEvent) → joined [] b ≡ b
unfolding merged
none_joined [] = refl
none_joined (f ∷ b) = ap (λ (l : List DayEvent). f ∷ l) (none_joined b)

no_lines : day_events [] ≡ events []
unfolding day_events day_lines
no_lines = refl

pub empty_second : (s ls ss : List ℕ) → merge_answer s [] ls ss ≡ day_answer s ls ss
unfolding merge_answer
empty_second s ls ss =
    ap (λ (y : LinesResult). after_files (day_events s) y ls ss) no_lines ∙ go (day_events s) (events_read s) ∙ answer_of_lem s ls ss (day_events s) refl
  where
    go : (x : LinesResult) → ComesTo s x → after_files x (events []) ls ss ≡ answered x ls ss
    go (stopped r) m = refl
    go (events a) w =
        sym (few_enough a [] ls ss (omega (arith, w.few))) ∙ ap (λ (l : List DayEvent). answered (events l) ls ss) (joined_none a)

pub empty_first : (t ls ss : List ℕ) → merge_answer [] t ls ss ≡ day_answer t ls ss
unfolding merge_answer
empty_first t ls ss =
    ap (λ (x : LinesResult). after_files x (day_events t) ls ss) no_lines ∙ go (day_events t) (events_read t) ∙ answer_of_lem t ls ss (day_events t) refl
  where
    go : (y : LinesResult) → ComesTo t y → after_first [] y ls ss ≡ answered y ls ss
    go (stopped r) m = refl
    go (events b) w =
        sym (few_enough [] b ls ss (omega (arith, w.few))) ∙ ap (λ (l : List DayEvent). answered (events l) ls ss) (none_joined b)
