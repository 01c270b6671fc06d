-- `merge_answer` is the one answer that says of two files what document 02 asks. Assumes nothing.
use Prim.Native.Nat.{ℕ, ◌+◌, ◌<◌}
use native.Mathlib.Omega.{arith}
use mathlib.Core.Path.{◌≡◌, sym, ap, subst, ◌∙◌}
use mathlib.Core.Logic.{◌⊎◌}
use mathlib.Core.Bool.{◌||◌}
use mathlib.Core.List.{List, map}
use lib.Dec.{ltb}
use lib.ListN.{length, length-map}
use borrow.Author.Tests.{ltb-true, ltb-false}
use Rattle.event.proofs.Tests.{either, neither, choose}
use Rattle.verdict.specs.declared.Verdict.{Verdict}
use Rattle.day.specs.DayFile.{DayEvent}
use Rattle.day.specs.DayLines.{LinesResult, stopped, events}
use Rattle.day.specs.DayAnswer.{DayAnswer, told}
use Rattle.day.specs.DayComputed.{day_events, ComesTo, answered}
use Rattle.day.specs.DayMeaning.{Whole}
use Rattle.day.proofs.Answered.{less, events_read, read_events, read_refused, told_refusal, too_short, with_room}
use Rattle.merge.specs.Merged.{FileEvent, event_of}
use Rattle.merge.specs.MergeComputed.{merged, joined, after_both, after_first, after_files, merge_answer}
use Rattle.merge.specs.MergeMeaning.{BothWhole, OneDay}
use Rattle.merge.specs.MergeMeaning.{MergeMeaning, first_refused, second_refused, many_events, short_buffer, accepted}
use Rattle.merge.proofs.MergedLaws.{merged_means, merged_only}
use Rattle.merge.proofs.Steps.{too_many, few_enough}

-- ---- what the files come to holds by their events
module _ {s t : List ℕ} (ls ss : List ℕ) where
  both_mean : (a b : List DayEvent) → Whole s a → Whole t b → MergeMeaning s t ls ss (after_both a b ls ss)
  both_mean a b u v =
      let w : BothWhole s t a b = record { first_whole = u; second_whole = v } in
      let n : length (joined a b) ≡ length (merged a b) = length-map (merged a b) event_of in
      choose (MergeMeaning s t ls ss) (ltb 255 (length a + length b))
      (λ f. many_events w (ltb-true _ _ f))
      (λ f.
      let d : OneDay s t (merged a b) = record { a = a; b = b; whole = w; few = ltb-false _ _ f; in_order = merged_means u v } in
      choose (MergeMeaning s t ls ss) (ltb (length ls) (length (joined a b)) || ltb (length ss) (length (joined a b)))
      (λ g. short_buffer d (subst (λ (k : ℕ). (length ls < k) ⊎ (length ss < k)) n (less (either _ _ g))))
      (λ g.
      let h = neither (ltb (length ls) (length (joined a b))) (ltb (length ss) (length (joined a b))) g in
      let k = ltb-false (length ls) (length (joined a b)) h.0 in
      let m = ltb-false (length ss) (length (joined a b)) h.1 in
      accepted d (omega arith) (omega arith)))

  files_mean : (x y : LinesResult) → ComesTo s x → ComesTo t y → MergeMeaning s t ls ss (after_files x y ls ss)
  files_mean (stopped r) y m n = subst (MergeMeaning s t ls ss) (sym (told_refusal r ls ss)) (first_refused m)
  files_mean (events a) (stopped r) u n = subst (MergeMeaning s t ls ss) (sym (told_refusal r ls ss)) (second_refused u n)
  files_mean (events a) (events b) u v = both_mean a b u v

pub answer_means : (s t ls ss : List ℕ) → MergeMeaning s t ls ss (merge_answer s t ls ss)
unfolding merge_answer
answer_means s t ls ss = files_mean ls ss (day_events s) (day_events t) (events_read s) (events_read t)

-- ---- no other answer says so
module _ (s t ls ss : List ℕ) where
  after_first_lem : {a : List DayEvent} → Whole s a → after_first a (day_events t) ls ss ≡ merge_answer s t ls ss
  unfolding merge_answer
  after_first_lem u = ap (λ (x : LinesResult). after_files x (day_events t) ls ss) (sym (read_events u))

  pub after_both_lem : {a b : List DayEvent} → BothWhole s t a b → after_both a b ls ss ≡ merge_answer s t ls ss
  after_both_lem {a} {b} w = ap (λ (y : LinesResult). after_first a y ls ss) (sym (read_events w.second_whole)) ∙ after_first_lem w.first_whole

  pub one_day : {l : List FileEvent} (d : OneDay s t l) → answered (events (map event_of l)) ls ss ≡ merge_answer s t ls ss
  one_day d =
      ap (λ (k : List FileEvent). answered (events (map event_of k)) ls ss) (merged_only d.whole.first_whole d.whole.second_whole d.in_order)
      ∙ few_enough d.a d.b ls ss d.few ∙ after_both_lem d.whole

pub answer_is : {s t ls ss : List ℕ} {x : DayAnswer} → MergeMeaning s t ls ss x → x ≡ merge_answer s t ls ss
unfolding merge_answer
answer_is {s} {t} {ls} {ss} (first_refused m) =
    let (r, comes, says) = read_refused m in
    ap (λ (v : Verdict). told v 0 ls ss) (sym says) ∙ ap (λ (x : LinesResult). after_files x (day_events t) ls ss) (sym comes)
answer_is {s} {t} {ls} {ss} (second_refused {a = a} u m) =
    let (r, comes, says) = read_refused m in
    ap (λ (v : Verdict). told v 0 ls ss) (sym says) ∙ ap (λ (y : LinesResult). after_first a y ls ss) (sym comes) ∙ after_first_lem s t ls ss u
answer_is {s} {t} {ls} {ss} (many_events {a = a} {b = b} w h) = too_many a b ls ss h ∙ after_both_lem s t ls ss w
answer_is {s} {t} {ls} {ss} (short_buffer {l = l} d h) =
    too_short (map event_of l) ls ss (subst (λ (n : ℕ). (length ls < n) ⊎ (length ss < n)) (sym (length-map l event_of)) h) ∙ one_day s t ls ss d
answer_is {s} {t} {ls} {ss} (accepted {l = l} d h g) =
    let n = length-map l event_of in
    with_room (map event_of l) ls ss (omega arith) (omega arith) ∙ one_day s t ls ss d

-- both clauses of the contract
pub answers : (s t ls ss : List ℕ) (x : DayAnswer) → x ≡ after_files (day_events s) (day_events t) ls ss
    → (x ≡ merge_answer s t ls ss) × MergeMeaning s t ls ss x
unfolding merge_answer
answers s t ls ss x e = (e, subst (MergeMeaning s t ls ss) (sym e) (answer_means s t ls ss))
