-- What a job comes to, row by row, by what its texts mean. Assumes nothing.
use Prim.Native.Nat.{ℕ, ◌≤◌}
use native.Mathlib.Omega.{arith}
use mathlib.Core.Path.{◌≡◌, refl, sym, ap, ap₂, subst, ◌∙◌}
use mathlib.Core.Bool.{Bool, true, false, true≢false}
use mathlib.Core.Logic.{⊎_elim}
use mathlib.Core.List.{List, ◌++◌, map}
use lib.ListN.{length, take, drop, replicate, length-replicate, length-map}
use lib.Seq.{take_at}
use borrow.Author.Tests.{ne_eqb}
use Rattle.bits.proofs.Digits.{same_or_not}
use Rattle.event.specs.Event.{Word}
use Rattle.expression.specs.Tree.{Tree, size, specials}
use Rattle.rule.specs.RuleAnswer as reader
use Rattle.rule.specs.RuleComputed.{rule_answer}
use Rattle.rule.specs.RuleMeaning.{Passed, RuleMeaning}
use Rattle.rule.specs.RuleMeaning as rule-meaning
use Rattle.rule.proofs.Answered as rule-answered
use Rattle.rule.proofs.Rows.{accepting, refusing, refused_number}
use Rattle.day.specs.DayFile.{DayEvent, letter_of}
use Rattle.day.specs.DayLines.{LinesResult, stopped, events}
use Rattle.day.specs.DayComputed.{day_events, ComesTo, day_answer}
use Rattle.day.specs.DayMeaning.{Whole, DayRefused}
use Rattle.day.specs.DayMeaning as day-meaning
use Rattle.day.proofs.Answered as day-answered
use Rattle.day.proofs.Rows as day-rows
use Rattle.work.specs.Count.{full_count}
use Rattle.work.specs.Table.{need_of}
use Rattle.work.specs.TableComputed.{block}
use Rattle.work.proofs.WorkBound.{full_bound}
use Rattle.matcher.specs.MatchComputed.{acceptance}
use Rattle.matcher.specs.MatchMeaning.{LegalWord}
use Rattle.matcher.proofs.Tested.{need_most, at_acceptance}
use Rattle.judge.specs.JudgeAnswer.{JudgeAnswer}
use Rattle.judge.specs.JudgeComputed.{judge_answer}
use Rattle.judge.proofs.Determined.{to_limit}
use Rattle.job.specs.JobComputed.{refused, listed, limit_of, after_judge, after_day, after_rule, is_job, rule_of, day_of, job_result}
use Rattle.job.specs.JobMeaning.{Parted, BothPassed, JobRefused, no_rule_line, rule_refused, day_refused}
use Rattle.job.proofs.Days.{legal_word}
use Rattle.job.specs.FirstBlock.{heading}
use Rattle.job.proofs.Listed.{first_block}
use Rattle.job.proofs.Parting.{parted_job, parted_is_job, parted_rule, parted_day}

-- ---- what the rows come to
none_parted : (s : List ℕ) → ((rule file : List ℕ) → Parted s rule file → ⊥) → is_job s ≡ false
none_parted s h = either (is_job s) refl
  where
    either : (b : Bool) → is_job s ≡ b → is_job s ≡ false
    either false e = e
    either true e = absurd (h (rule_of s) (day_of s) (parted_job s e))

result_none : {s : List ℕ} → ((rule file : List ℕ) → Parted s rule file → ⊥) → job_result s ≡ refused 16 0
unfolding job_result
result_none {s} h = simp (none_parted s h)

parted_result : {s rule file : List ℕ} → Parted s rule file → job_result s ≡ after_rule rule file (rule_answer rule)
unfolding job_result
parted_result p = rw (parted_is_job p) (ap₂ (λ (x y : List ℕ). after_rule x y (rule_answer x)) (parted_rule p) (parted_day p))

result_rule : {s rule file : List ℕ} {n p : ℕ} → Parted s rule file → RuleMeaning rule (reader.refusal n p) → job_result s ≡ refused n p
result_rule {rule = rule} {file = file} {n = n} {p = p} d m =
    parted_result d ∙ ap (after_rule rule file) (sym (rule-answered.answer_is m)) ∙ simp (ne_eqb n 0 (refused_number m))

-- the rule passes
rule_passed : {s rule file : List ℕ} {t : Tree} → Parted s rule file → Passed rule t
    → job_result s ≡ after_day rule (size t) (specials t) (day_answer file (replicate 255 0) (replicate 255 0))
rule_passed {rule = rule} {file = file} d p = parted_result d ∙ ap (after_rule rule file) (sym (rule-answered.answer_is (rule-meaning.accepted p)))

zeros_long : (n : ℕ) → n ≤ 255 → n ≤ length {A = ℕ} (replicate 255 0)
zeros_long n h = omega (arith, length-replicate {A = ℕ} 255 0)

result_day : {s rule file : List ℕ} {t : Tree} {n p : ℕ} → Parted s rule file → Passed rule t → DayRefused file n p
    → job_result s ≡ refused n p
result_day {rule = rule} {file = file} {t = t} {n = n} {p = p} d r m =
    rule_passed d r ∙ ap (after_day rule (size t) (specials t)) (sym (day-answered.answer_is (day-meaning.file_refused m)))
    ∙ simp (ne_eqb n 0 (day-rows.refused_number m))

-- ---- the judge
-- 01, The program: with the limit m × (n + 1) × (n + 2) the work is never above it
pub limit_enough : (w : Word) (t : Tree) → full_count w t ≤ limit_of (size t) (length w)
limit_enough w t = omega (arith, full_bound w t)

-- the judge accepts every job that comes to it
pub judge_accepts : {rule : List ℕ} {t : Tree} {w : Word} → Passed rule t → LegalWord w
    → judge_answer rule w (limit_of (size t) (length w)) (replicate 8192 0) ≡ acceptance t w (replicate 8192 0)
judge_accepts {rule} {t} {w} p l =
    let z = length-replicate {A = ℕ} 8192 0 in
    let m = need_most (specials t) (length w) p.special l.fits in
    let room : need_of (specials t) (length w) ≤ length {A = ℕ} (replicate 8192 0) = omega arith in
    sym (to_limit rule w (limit_of (size t) (length w)) (replicate 8192 0) t p l room)
    ∙ at_acceptance t w (limit_of (size t) (length w)) (replicate 8192 0) (limit_enough w t)

-- what is left of the judge's answer: found, count and the text
after_acceptance : (w : Word) (t : Tree) (old : List ℕ)
    → after_judge (acceptance t w old) (length w) (size t) (specials t) ≡ listed (heading w t) (block w t)
after_acceptance w t old = ap (listed (heading w t)) (first_block w t (drop (need_of (specials t) (length w)) old))

-- the judge's row, for a day that passes
day_passed : {rule file : List ℕ} {t : Tree} {l : List DayEvent} → Passed rule t → Whole file l
    → after_day rule (size t) (specials t) (day_answer file (replicate 255 0) (replicate 255 0))
    ≡ listed (heading (map letter_of l) t) (block (map letter_of l) t)
day_passed {rule} {file} {t} {l} p h =
    let w = map letter_of l in
    let n = length-map l letter_of in
    let a = day-answered.answer_is (day-meaning.accepted h (zeros_long (length l) h.few) (zeros_long (length l) h.few)) in
    let e : take (length l) (w ++ drop (length l) (replicate 255 0)) ≡ w = take_at w (drop (length l) (replicate 255 0)) (length l) n in
    ap (after_day rule (size t) (specials t)) (sym a)
    ∙ ap₂ (λ (x : List ℕ) (k : ℕ). after_judge (judge_answer rule x (limit_of (size t) k) (replicate 8192 0)) k (size t) (specials t)) e (sym n)
    ∙ ap (λ (j : JudgeAnswer). after_judge j (length w) (size t) (specials t)) (judge_accepts p (legal_word h))
    ∙ after_acceptance w t (replicate 8192 0)

pub result_judged : {s : List ℕ} {t : Tree} {w : Word} → BothPassed s t w → job_result s ≡ listed (heading w t) (block w t)
result_judged {t = t} j =
    rule_passed j.parted j.passed ∙ day_passed j.passed j.whole
    ∙ ap (λ (w : Word). listed (heading w t) (block w t)) (sym j.word)

-- ---- one of the rows refuses a job, or its day is judged
pub result_refused : {s : List ℕ} {n p : ℕ} → JobRefused s n p → job_result s ≡ refused n p
result_refused (no_rule_line h) = result_none h
result_refused (rule_refused d m) = result_rule d m
result_refused (day_refused d r m) = result_day d r m

pub refused_above : {s : List ℕ} {n p : ℕ} → JobRefused s n p → n ≡ 0 → ⊥
refused_above (no_rule_line h) e = omega arith
refused_above (rule_refused d m) e = refused_number m e
refused_above (day_refused d r m) e = day-rows.refused_number m e

pub data Comes (s : List ℕ) : Type 0 where
  at_row : {n p : ℕ} → JobRefused s n p → Comes s
  at_judge : {t : Tree} {w : Word} → BothPassed s t w → Comes s

comes_day : {s rule file : List ℕ} {t : Tree} → Parted s rule file → Passed rule t → Comes s
comes_day {s} {rule = rule} {file = file} d p = go (day_events file) (day-answered.events_read file)
  where
    go : (r : LinesResult) → ComesTo file r → Comes s
    go (stopped r) m = at_row (day_refused d p m)
    go (events l) w = at_judge (record { rule = rule; file = file; parted = d; passed = p; events = l; whole = w; word = refl })

comes_rule : {s rule file : List ℕ} → Parted s rule file → Comes s
comes_rule {rule = rule} d =
    let a = rule_answer rule in
    let m = rule-answered.answer_means rule in
    ⊎_elim (λ (e : a.number ≡ 0). comes_day d (accepting m e).passed)
    (λ (e : a.number ≡ 0 → ⊥). at_row (rule_refused d (subst (RuleMeaning rule) (refusing m e) m)))
    (same_or_not a.number 0)

pub comes : (s : List ℕ) → Comes s
comes s = either (is_job s) refl
  where
    either : (b : Bool) → is_job s ≡ b → Comes s
    either true e = comes_rule (parted_job s e)
    either false e = at_row (no_rule_line (λ rule file p. true≢false (sym (parted_is_job p) ∙ e)))
