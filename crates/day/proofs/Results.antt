-- What each return of `read` answers: its values are those of `day_answer`, and so have its meaning. Assumes nothing.
use Prim.Native.Nat.{ℕ, ◌+◌, ◌≤◌, ◌<◌}
use native.Mathlib.Omega.{arith}
use mathlib.Core.Path.{◌≡◌, refl, sym, ap, subst, ◌∙◌}
use mathlib.Core.Logic.{◌⊎◌}
use Rattle.std.specs.Prelude.{Result, Ok, Err}
use mathlib.Core.List.{List, ◌∷◌, map}
use lib.ListN.{length}
use lib.Seq.{sets}
use borrow.Author.Tests.{lt-ltb}
use Rattle.day.specs.DayFile.{DayEvent, letter_of, second_of, Lines, done, more}
use Rattle.day.specs.DayLines.{LinesResult, stopped, events, day_lines, checked, with_line, events_of}
use Rattle.day.specs.DayAnswer.{DayAnswer, day_values}
use Rattle.day.specs.DayComputed.{day_events, answered, day_answer}
use Rattle.day.specs.DayMeaning.{DayMeaning}
use Rattle.day.specs.declared.Refusal.{Refusal}
use Rattle.day.specs.declared.Refusal.TheVariants.{LongFile, ShortBuffer}
use Rattle.day.proofs.LineForm.{line_found}
use Rattle.day.proofs.Answered.{answer_means, answer_of_lem, by_lines, too_short, accepts, good_lines}

-- both clauses of the contract
abbrev Answers : List ℕ → List ℕ → List ℕ → DayAnswer → Type 0
Answers s ls ss a = (a ≡ day_answer s ls ss) × DayMeaning s ls ss a

both : (s ls ss : List ℕ) (a : DayAnswer) → a ≡ day_answer s ls ss → Answers s ls ss a
both s ls ss a e = (e, subst (DayMeaning s ls ss) (sym e) (answer_means s ls ss))

pub too_long : (s ls ss : List ℕ) → 2550 < length s → Answers s ls ss (day_values (Err LongFile) ls ss)
unfolding day_answer day_events
too_long s ls ss h = both s ls ss (day_values (Err LongFile) ls ss) (simp (lt-ltb 2550 (length s) h))

-- the answer of a file that fits, by what its lines come to
by_file : (s ls ss : List ℕ) (d : LinesResult) → length s ≤ 2550 → day_lines 255 0 s ≡ d → answered d ls ss ≡ day_answer s ls ss
by_file s ls ss d h e = answer_of_lem s ls ss d (by_lines s d h e)

refused : (o : Refusal) (ls ss : List ℕ) (d : LinesResult) → Err o ≡ checked 0 d → day_values (Err o) ls ss ≡ answered d ls ss
refused o ls ss (stopped r) e = let q : o ≡ r = cc in ap (λ (x : Refusal). day_values (Err x) ls ss) q
refused o ls ss (events l) e = cc

pub bad_line : (s ls ss : List ℕ) (r : Result ℕ Refusal) (o : Refusal) → length s ≤ 2550 → r ≡ checked 0 (day_lines 255 0 s) → r ≡ Err o
    → Answers s ls ss (day_values (Err o) ls ss)
bad_line s ls ss r o h e g =
    both s ls ss (day_values (Err o) ls ss) (refused o ls ss (day_lines 255 0 s) (sym g ∙ e) ∙ by_file s ls ss (day_lines 255 0 s) h refl)

-- n good lines
record Day-of (s : List ℕ) (n : ℕ) : Type 0 where
  l : List DayEvent
  lines : day_lines 255 0 s ≡ events l
  many : n ≡ length l

day_of_lem : (s : List ℕ) (n : ℕ) (d : LinesResult) → day_lines 255 0 s ≡ d → Ok n ≡ checked 0 d → Day-of s n
day_of_lem s n (stopped r) q e = cc
day_of_lem s n (events l) q e = let z : n ≡ 0 + length l = cc in record { l = l; lines = q; many = omega arith }

-- the second pass meets the same lines
met : {y : ℕ} {s rest : List ℕ} {l : List DayEvent} → Lines y s l rest → events_of (length l) s ≡ l
unfolding events_of
met done = refl
met {s = s} (more {e = e} {l = l} h low high g) =
    let f = line_found s e _ h in
    ap (with_line (events_of (length l)) s) f.1
    ∙ ap (λ (t : List ℕ). e ∷ events_of (length l) t) f.2 ∙ ap (λ (m : List DayEvent). e ∷ m) (met g)

module _ (s : List ℕ) (r : Result ℕ Refusal) (n : ℕ) (e : r ≡ checked 0 (day_lines 255 0 s)) (g : r ≡ Ok n) where
  day : Day-of s n
  day = day_of_lem s n (day_lines 255 0 s) refl (sym g ∙ e)

  pub short : (ls ss : List ℕ) → length s ≤ 2550 → (length ls < n) ⊎ (length ss < n) → Answers s ls ss (day_values (Err ShortBuffer) ls ss)
  short ls ss h b =
      let t = too_short day.l ls ss (subst (λ (k : ℕ). (length ls < k) ⊎ (length ss < k)) day.many b) in
      both s ls ss (day_values (Err ShortBuffer) ls ss) (t ∙ by_file s ls ss (events day.l) h day.lines)

  events_are : events_of n s ≡ day.l
  events_are = ap (λ (k : ℕ). events_of k s) day.many ∙ met (good_lines s day.l day.lines)

  pub all_formed : length (events_of n s) ≡ n
  all_formed = ap length events_are ∙ sym day.many

  pub filled : (ls ss ls' ss' : List ℕ) → length s ≤ 2550 → n ≤ length ls → n ≤ length ss
      → ls' ≡ sets ls 0 (map letter_of (events_of n s)) → ss' ≡ sets ss 0 (map second_of (events_of n s))
      → Answers s ls ss (day_values (Ok n) ls' ss')
  filled ls ss ls' ss' h a b p q =
      let l = day.l in
      let as_events : (f : DayEvent → ℕ) (u : List ℕ) → sets u 0 (map f (events_of n s)) ≡ sets u 0 (map f l)
      = λ f u. ap (λ (x : List DayEvent). sets u 0 (map f x)) events_are in
      both s ls ss (day_values (Ok n) ls' ss')
      (accepts l n ls ss ls' ss' day.many a b (p ∙ as_events letter_of ls) (q ∙ as_events second_of ss)
      ∙ by_file s ls ss (events l) h day.lines)
