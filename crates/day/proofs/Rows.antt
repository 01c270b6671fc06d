-- What a call that reads a day first makes of the row "Day file": a refusal of the row, or a day that passes. Assumes nothing.
use Prim.Native.Nat.{ℕ, ◌≤◌}
use native.Mathlib.Omega.{arith}
use mathlib.Core.Path.{◌≡◌, refl, sym, ap, ◌∙◌}
use mathlib.Core.Bool.{◌||◌}
use Rattle.std.specs.Prelude.{Ok, Err}
use mathlib.Core.List.{List, map}
use lib.Dec.{ltb}
use lib.ListN.{length, take, drop, length-map}
use lib.Seq.{take_at}
use borrow.Author.Tests.{le-ltb}
use Rattle.event.proofs.Tests.{choose}
use Rattle.verdict.specs.declared.Verdict.{Verdict}
use Rattle.verdict.proofs.ByReader.{ByReader, above_judge}
use Rattle.day.specs.DayFile.{DayEvent, letter_of, second_of}
use Rattle.day.specs.DayLines.{LinesResult, stopped, events}
use Rattle.day.specs.DayAnswer.{DayAnswer, refusal_verdict, acceptance, day_values}
use Rattle.day.specs.DayComputed.{day_events, ComesTo, answered, day_answer}
use Rattle.day.specs.DayMeaning.{DayMeaning, DayRefused, file_refused, short_buffer, accepted}
use Rattle.day.specs.declared.Refusal.{Refusal}
use Rattle.day.specs.declared.Refusal.TheVariants.{LongFile, Malformed, WrongSecond, ManyLines, ShortBuffer}
use Rattle.day.proofs.Answered.{read_refused, answer_of_lem, events_read}

pub in_row : (r : Refusal) → ByReader (refusal_verdict r)
in_row LongFile = above_judge 11 0 (omega arith)
in_row (Malformed p) = above_judge 12 p (omega arith)
in_row (WrongSecond p) = above_judge 13 p (omega arith)
in_row ManyLines = above_judge 14 256 (omega arith)
in_row ShortBuffer = above_judge 15 0 (omega arith)

-- the number of a refusal, as the code's
number_of : {s : List ℕ} {number place : ℕ} → DayRefused s number place → (r : Refusal) × (number ≡ (refusal_verdict r).number)
number_of m = let (r, comes, says) = read_refused m in (r, sym (ap (λ (v : Verdict). v.number) says))

-- a refusal is no acceptance
pub refused_number : {s : List ℕ} {number place : ℕ} → DayRefused s number place → number ≡ 0 → ⊥
refused_number m e = let (r, q) = number_of m in (in_row r).number (sym q ∙ e)

-- no number of the row is one of the judge's own
pub row_apart : {s : List ℕ} {number place : ℕ} → DayRefused s number place → 7 ≤ number → number ≤ 10 → ⊥
row_apart m h l = let (r, q) = number_of m in (in_row r).apart (omega arith) (omega arith)

-- n of every answer
pub events_few : {s ls ss : List ℕ} {a : DayAnswer} → DayMeaning s ls ss a → a.n ≤ 255
events_few (file_refused m) = omega arith
events_few (short_buffer w h) = omega arith
events_few (accepted w h g) = w.few

-- ---- what a call with buffers us and vs tells of the file, by what it leaves there
number_is : {a b : DayAnswer} → a ≡ b → a.number ≡ b.number
number_is e = ap (λ (x : DayAnswer). x.number) e

-- the file is refused as the call's answer says
pub record Refuses (s : List ℕ) (r : Refusal) : Type 0 where
  pub why : Refusal
  pub comes : day_events s ≡ stopped why
  pub says : refusal_verdict why ≡ refusal_verdict r

-- the buffers hold the file's events at their front
pub record Holds (s : List ℕ) (n : ℕ) (ls ss : List ℕ) : Type 0 where
  pub l : List DayEvent
  pub comes : day_events s ≡ events l
  pub few : n ≤ 255
  pub letters : take n ls ≡ map letter_of l
  pub seconds : take n ss ≡ map second_of l

module _ (s us vs ls ss : List ℕ) where
  -- where the buffers have room for every day, the refusal is the file's
  pub refuses : {r : Refusal} → (255 ≤ length us) × (255 ≤ length vs) → day_values (Err r) ls ss ≡ day_answer s us vs → Refuses s r
  refuses {r} room e = go (day_events s) refl (events_read s)
    where
      go : (d : LinesResult) → day_events s ≡ d → ComesTo s d → Refuses s r
      go (stopped w) q m =
          record { why = w; comes = q; says = sym (ap (λ (a : DayAnswer). record { number = a.number; place = a.place; found = a.found; count = a.count }) (e ∙ sym (answer_of_lem s us vs (stopped w) q))) }
      go (events l) q m =
          let f : answered (events l) us vs ≡ acceptance l us vs
          = simp (le-ltb (length us) (length l) (omega (arith, m.few)), le-ltb (length vs) (length l) (omega (arith, m.few))) in
          absurd ((in_row r).number (number_is (e ∙ sym (answer_of_lem s us vs (events l) q) ∙ f)))

  -- an acceptance has stored the file's events
  pub holds : {n : ℕ} → day_values (Ok n) ls ss ≡ day_answer s us vs → Holds s n ls ss
  holds {n} e = go (day_events s) refl (events_read s)
    where
      go : (d : LinesResult) → day_events s ≡ d → ComesTo s d → Holds s n ls ss
      go (stopped w) q m = absurd ((in_row w).number (sym (number_is (e ∙ sym (answer_of_lem s us vs (stopped w) q)))))
      go (events l) q m =
          choose (λ (a : DayAnswer). day_values (Ok n) ls ss ≡ a → Holds s n ls ss) (ltb (length us) (length l) || ltb (length vs) (length l))
          (λ f g. absurd (let z = number_is g in omega arith))
          (λ f g.
          let many : n ≡ length l = ap (λ (a : DayAnswer). a.n) g in
          record {
            l = l;
            comes = q;
            few = omega (arith, m.few);
            letters = ap (take n) (ap (λ (a : DayAnswer). a.letters) g)
                ∙ take_at (map letter_of l) (drop (length l) us) n (length-map l letter_of ∙ sym many);
            seconds = ap (take n) (ap (λ (a : DayAnswer). a.seconds) g)
                ∙ take_at (map second_of l) (drop (length l) vs) n (length-map l second_of ∙ sym many);
          })
          (e ∙ sym (answer_of_lem s us vs (events l) q))
