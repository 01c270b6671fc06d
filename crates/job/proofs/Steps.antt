-- What the outcome of each row comes to in the job's answer. Assumes nothing.
use Prim.Native.Nat.{ℕ, ◌≤◌, ◌<◌}
use mathlib.Core.Path.{◌≡◌, ap, ap₂, ◌∙◌}
use mathlib.Core.List.{List, [], ◌∷◌}
use lib.ListN.{length, take, replicate}
use lib.Seq.{length-take-le}
use borrow.Author.Tests.{eqb-false, ne_eqb, lt-ltb, le-ltb}
use Rattle.expression.specs.declared.Node.{Node}
use Rattle.rule.specs.RuleAnswer as rule
use Rattle.rule.specs.RuleAnswer.{RuleAnswer, rule_values}
use Rattle.rule.specs.RuleComputed.{rule_answer}
use Rattle.std.proofs.Common.{Err}
use Rattle.rule.specs.declared.Refusal.{Refusal}
use Rattle.rule.proofs.Rows as rule-rows
use Rattle.day.specs.DayAnswer as day
use Rattle.day.specs.DayAnswer.{DayAnswer, day_values}
use Rattle.day.specs.DayComputed.{day_answer}
use Rattle.std.specs.Prelude.{Err}
use Rattle.day.specs.declared.Refusal as day-type
use Rattle.day.proofs.Rows as day-rows
use Rattle.matcher.specs.MatchAnswer as matcher
use Rattle.matcher.proofs.Joined as match-rows
use Rattle.judge.specs.JudgeAnswer as judge
use Rattle.judge.specs.JudgeAnswer.{JudgeAnswer, judge_values}
use Rattle.judge.specs.JudgeComputed.{judge_answer}
use Rattle.judge.specs.declared.Refusal as judge-type
use Rattle.judge.specs.declared.Refusal.TheVariants as judge-refusal
use Rattle.listing.specs.declared.Heading.{Heading}
use Rattle.listing.specs.Marked.{listing}
use Rattle.verdict.specs.declared.Verdict.{Verdict}
use Rattle.work.specs.Table.{block_length}
use Rattle.job.specs.declared.Refusal as job-type
use Rattle.job.specs.declared.Refusal.TheVariants as why
use Rattle.job.specs.JobAnswer.{refusal, acceptance, row_verdict}
use Rattle.job.specs.JobComputed.{JobResult, refused, listed, limit_of, after_judge, after_day, after_rule, written}

-- a refusal is no text
pub refused_written : (r : JobResult) (n p : ℕ) (old : List ℕ) → r ≡ refused n p → (n ≡ 0 → ⊥) → refusal n p old ≡ written r old
refused_written r n p old e h = rw e (simp (ne_eqb n 0 h))

-- ---- the rule text's row
-- the row refuses
pub rule_stop : (s file old : List ℕ) (why : Refusal) (v : Verdict) → rule_values (Err why) ≡ rule_answer s → v ≡ rule.refusal_verdict why
    → refusal v.number v.place old ≡ written (after_rule s file (rule_answer s)) old
rule_stop s file old why v e w =
    let a : v.number ≡ (rule_answer s).number = ap (λ (x : Verdict). x.number) w ∙ ap (λ (x : RuleAnswer). x.number) e in
    let b : v.place ≡ (rule_answer s).place = ap (λ (x : Verdict). x.place) w ∙ ap (λ (x : RuleAnswer). x.place) e in
    let h : (rule_answer s).number ≡ 0 → ⊥ = λ z. (rule-rows.in_row why).number (ap (λ (x : RuleAnswer). x.number) e ∙ z) in
    ap₂ (λ (n p : ℕ). refusal n p old) a b
    ∙ refused_written (after_rule s file (rule_answer s)) (rule_answer s).number (rule_answer s).place old
    (simp (ne_eqb (rule_answer s).number 0 h)) h

-- the row lets the rule pass
pub rule_pass : (s file : List ℕ) (m k : ℕ) (ns : List Node) → rule.values 0 0 m k ns ≡ rule_answer s
    → after_day s m k (day_answer file (replicate 255 0) (replicate 255 0)) ≡ after_rule s file (rule_answer s)
rule_pass s file m k ns e = ap (after_rule s file) e

-- ---- the day file's row
-- the row refuses
pub day_stop : (s : List ℕ) (m k : ℕ) (old : List ℕ) (d : DayAnswer) (r : day-type.Refusal) (ls ss : List ℕ) (v : Verdict)
    → day_values (Err r) ls ss ≡ d → v ≡ day.refusal_verdict r
    → refusal v.number v.place old ≡ written (after_day s m k d) old
day_stop s m k old d r ls ss v e w =
    let a : v.number ≡ d.number = ap (λ (x : Verdict). x.number) w ∙ ap (λ (x : DayAnswer). x.number) e in
    let b : v.place ≡ d.place = ap (λ (x : Verdict). x.place) w ∙ ap (λ (x : DayAnswer). x.place) e in
    let h : d.number ≡ 0 → ⊥ = λ z. (day-rows.in_row r).number (ap (λ (x : DayAnswer). x.number) e ∙ z) in
    ap₂ (λ (n p : ℕ). refusal n p old) a b ∙ refused_written (after_day s m k d) d.number d.place old (simp (ne_eqb d.number 0 h)) h

-- the row lets the day pass
pub day_pass : (s : List ℕ) (m k : ℕ) (d : DayAnswer) (n : ℕ) (ls ss : List ℕ) → day.values 0 0 n ls ss ≡ d → n ≤ length ls
    → after_judge (judge_answer s (take n ls) (limit_of m (length (take n ls))) (replicate 8192 0)) (length (take n ls)) m k ≡ after_day s m k d
day_pass s m k d n ls ss e h =
    let l : length (take n ls) ≡ n = length-take-le n ls h in
    ap (λ (x : ℕ). after_judge (judge_answer s (take n ls) (limit_of m x) (replicate 8192 0)) x m k) l ∙ ap (after_day s m k) e

-- ---- the judge's row
judge_number : (r : judge-type.Refusal Refusal) → (judge.refusal_verdict rule.refusal_verdict r).number ≡ 0 → ⊥
judge_number (judge-refusal.Reading r) = (rule-rows.in_row r).number
judge_number (judge-refusal.Matching r) = eqb-false _ _ (match-rows.refusal_number_lem r)

-- the row refuses
pub judge_stop : (n m k : ℕ) (old : List ℕ) (j : JudgeAnswer) (r : judge-type.Refusal Refusal) (b : List ℕ) (v : Verdict)
    → judge_values (Err r) b ≡ j → v ≡ judge.refusal_verdict rule.refusal_verdict r
    → refusal v.number v.place old ≡ written (after_judge j n m k) old
judge_stop n m k old j r b v e w =
    let a : v.number ≡ j.number = ap (λ (x : Verdict). x.number) w ∙ ap (λ (x : JudgeAnswer). x.number) e in
    let p : v.place ≡ j.place = ap (λ (x : Verdict). x.place) w ∙ ap (λ (x : JudgeAnswer). x.place) e in
    let h : j.number ≡ 0 → ⊥ = λ z. judge_number r (ap (λ (x : JudgeAnswer). x.number) e ∙ z) in
    ap₂ (λ (x y : ℕ). refusal x y old) a p ∙ refused_written (after_judge j n m k) j.number j.place old (simp (ne_eqb j.number 0 h)) h

-- the row lets the job pass
pub judge_pass : {first : ℕ} (n m k f c : ℕ) (b : List ℕ) (j : JudgeAnswer) → first ≡ block_length n → matcher.values 0 0 f c b ≡ j
    → listed (record { n = n; m = m; k = k; found = f; count = c }) (take first b) ≡ after_judge j n m k
judge_pass n m k f c b j l e = rw l (ap (λ (x : JudgeAnswer). after_judge x n m k) e)

-- ---- the text
-- the buffer is shorter
pub text_stop : (h : Heading) (block old : List ℕ) → length old < length (listing h block) → refusal 15 0 old ≡ written (listed h block) old
text_stop h block old l = simp (lt-ltb (length old) (length (listing h block)) l)

pub text_pass : (h : Heading) (block old : List ℕ) → length (listing h block) ≤ length old
    → acceptance h.found h.count (listing h block) old ≡ written (listed h block) old
text_pass h block old l = simp (le-ltb (length old) (length (listing h block)) l)

-- ---- the refusals
-- none has the number of an acceptance
pub refusal_number : (r : job-type.Refusal) → (row_verdict r).number ≡ 0 → ⊥
refusal_number why.NoRuleLine = λ z. cc
refusal_number (why.Rule r) = (rule-rows.in_row r).number
refusal_number (why.Day r) = (day-rows.in_row r).number
refusal_number (why.Judge r) = judge_number r
refusal_number why.ShortBuffer = λ z. cc
