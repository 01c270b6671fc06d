-- What each step of the merging call answers. Assumes nothing.
use Prim.Native.Nat.{ℕ, ◌+◌, ◌≤◌, ◌<◌}
use native.Mathlib.Omega.{arith}
use mathlib.Core.Path.{◌≡◌, sym, ap, ap₂, subst, ◌∙◌}
use mathlib.Core.Logic.{◌⊎◌}
use Rattle.std.specs.Prelude.{Ok, Err}
use mathlib.Core.List.{List, map}
use lib.ListN.{length, take, length-map}
use lib.Seq.{sets}
use borrow.Author.Tests.{lt-ltb, le-ltb}
use Rattle.verdict.specs.declared.Verdict.{Verdict}
use Rattle.day.specs.DayFile.{DayEvent, letter_of, second_of}
use Rattle.day.specs.DayLines.{LinesResult, events}
use Rattle.day.specs.DayAnswer.{day_values, told}
use Rattle.day.specs.DayComputed.{day_events, day_answer, answered}
use Rattle.day.specs.declared.Refusal.{Refusal}
use Rattle.day.specs.declared.Refusal.TheVariants.{ShortBuffer}
use Rattle.day.proofs.Answered.{too_short, accepts}
use Rattle.day.proofs.Rows.{refuses, holds}
use Rattle.merge.specs.Merged.{event_of}
use Rattle.merge.specs.MergeAnswer.{merge_values}
use Rattle.merge.specs.MergeComputed.{merged, joined, after_both, after_files, paired, IsRefused, Aligned}
use Rattle.merge.specs.declared.Refusal.TheVariants.{Day, ManyEvents}
use Rattle.merge.proofs.MergedLaws.{merged_interleaved, number_together}
use Rattle.merge.proofs.Turns.{paired_events, paired_length}

-- the number of events is the sum
pub joined_length : (a b : List DayEvent) → length (joined a b) ≡ length a + length b
joined_length a b = length-map (merged a b) event_of ∙ number_together (merged_interleaved a b)

-- ---- the events of both
module _ (a b : List DayEvent) (ls ss : List ℕ) where
  pub too_many : 255 < length a + length b → merge_values (Err ManyEvents) ls ss ≡ after_both a b ls ss
  too_many h = simp (lt-ltb 255 (length a + length b) h)

  pub few_enough : length a + length b ≤ 255 → answered (events (joined a b)) ls ss ≡ after_both a b ls ss
  few_enough h = simp (le-ltb 255 (length a + length b) h)

module _ {cs xs ds ys : List ℕ} (aligned1 : Aligned cs xs) (aligned2 : Aligned ds ys) where
  abbrev a : List DayEvent
  a = paired cs xs

  abbrev b : List DayEvent
  b = paired ds ys

  together : length cs + length ds ≡ length a + length b
  together = omega (arith, paired_length cs xs aligned1.as_many, paired_length ds ys aligned2.as_many)

  pub as_many : length cs + length ds ≡ length (joined a b)
  as_many = together ∙ sym (joined_length a b)

  pub answers_many : (ls ss : List ℕ) → 255 < length cs + length ds → merge_values (Err ManyEvents) ls ss ≡ after_both a b ls ss
  answers_many ls ss h = too_many a b ls ss (omega (arith, together))

  module _ (few : length cs + length ds ≤ 255) where
    pub answers_short : (ls ss : List ℕ) → (length ls < length cs + length ds) ⊎ (length ss < length cs + length ds)
        → merge_values (Err (Day ShortBuffer)) ls ss ≡ after_both a b ls ss
    answers_short ls ss h =
        too_short (joined a b) ls ss (subst (λ (n : ℕ). (length ls < n) ⊎ (length ss < n)) as_many h)
        ∙ few_enough a b ls ss (omega (arith, together))

    pub answers_events : (ls ss ls' ss' : List ℕ) → length cs + length ds ≤ length ls → length cs + length ds ≤ length ss
        → ls' ≡ sets ls 0 (map letter_of (joined a b)) → ss' ≡ sets ss 0 (map second_of (joined a b))
        → merge_values (Ok (length cs + length ds)) ls' ss' ≡ after_both a b ls ss
    answers_events ls ss ls' ss' h g p q =
        accepts (joined a b) (length cs + length ds) ls ss ls' ss' as_many h g p q ∙ few_enough a b ls ss (omega (arith, together))

-- ---- a file that was read into the buffers us and vs, which have room for every day
module _ (s us vs ls ss : List ℕ) where
  pub read_refused : (r : Refusal) → (255 ≤ length us) × (255 ≤ length vs) → day_values (Err r) ls ss ≡ day_answer s us vs → IsRefused s r
  read_refused r room e = let f = refuses s us vs ls ss room e in (f.why, f.comes, f.says)

  pub read_events : {n : ℕ} → day_values (Ok n) ls ss ≡ day_answer s us vs → day_events s ≡ events (paired (take n ls) (take n ss))
  read_events e = let h = holds s us vs ls ss e in h.comes ∙ ap events (sym (ap₂ paired h.letters h.seconds ∙ paired_events h.l))

-- ---- what the merging call answers of two files
module _ (s t ls ss : List ℕ) where
  pub first_stops : (r : Refusal) → IsRefused s r → merge_values (Err (Day r)) ls ss ≡ after_files (day_events s) (day_events t) ls ss
  first_stops r (w, comes, says) =
      ap (λ (v : Verdict). told v 0 ls ss) (sym says) ∙ ap (λ (x : LinesResult). after_files x (day_events t) ls ss) (sym comes)

  module _ {a : List DayEvent} (first : day_events s ≡ events a) where
    pub second_stops : (r : Refusal) → IsRefused t r → merge_values (Err (Day r)) ls ss ≡ after_files (day_events s) (day_events t) ls ss
    second_stops r (w, comes, says) =
        ap (λ (v : Verdict). told v 0 ls ss) (sym says)
        ∙ ap₂ (λ (x y : LinesResult). after_files x y ls ss) (sym first) (sym comes)

    pub both_read : {b : List DayEvent} → day_events t ≡ events b → after_both a b ls ss ≡ after_files (day_events s) (day_events t) ls ss
    both_read second = ap₂ (λ (x y : LinesResult). after_files x y ls ss) (sym first) (sym second)
