-- The job's first line: which texts have one, and how it parts them. Assumes nothing.
use Prim.Native.Nat.{ℕ, suc, ◌+◌, ◌-◌, ◌≤◌, ◌<◌}
use native.Mathlib.Omega.{arith}
use mathlib.Core.Path.{◌≡◌, refl, sym, ap, ap₂, ◌∙◌}
use mathlib.Core.Bool.{Bool, true, false, cond, ◌&&◌}
use mathlib.Core.Logic.{⊎_elim}
use mathlib.Core.List.{List}
use lib.Dec.{eqb, ltb}
use lib.ListN.{length, get_or, take, drop, length-drop, get_or-eq_default}
use lib.Seq.{drop-drop}
use borrow.Author.Tests.{eq-eqb, ne_eqb, lt-ltb, le-ltb, ltb-true}
use Rattle.bits.proofs.Digits.{below_or_not}
use Rattle.event.specs.Leading.{leading}
use Rattle.event.proofs.LeadingLaws.{leading_found}
use Rattle.event.proofs.Tails.{tail, tail_is}
use Rattle.event.proofs.Tests.{T_of, of_T, and_split}
use Rattle.rule.specs.RuleComputed.{rule_answer}
use Rattle.event.specs.Text.{not_newline}
use Rattle.job.specs.JobAnswer.{refusal}
use Rattle.job.specs.JobComputed.{rule_length, is_job, rule_of, day_of, after_rule, job_result, written, job_answer}

-- ---- what is no job
both_false : (a b : Bool) → a ≡ false → (a && b) ≡ false
both_false a b e = rw e refl

last_false : (a b : Bool) → b ≡ false → (a && b) ≡ false
last_false true b e = e
last_false false b e = refl

module _ (s : List ℕ) where
  abbrev tag : Bool
  tag = eqb (get_or s 0 0) 82

  abbrev tab : Bool
  tab = eqb (get_or s 1 0) 9

  abbrev ended : Bool
  ended = ltb (rule_length s) (length (drop 2 s))

  pub no_tag : (get_or s 0 0 ≡ 82 → ⊥) → is_job s ≡ false
  no_tag h = both_false (tag && tab) ended (both_false tag tab (ne_eqb (get_or s 0 0) 82 h))

  pub no_tab : (get_or s 1 0 ≡ 9 → ⊥) → is_job s ≡ false
  no_tab h = both_false (tag && tab) ended (last_false tag tab (ne_eqb (get_or s 1 0) 9 h))

  -- a tab stands at the second byte
  pub two_long : get_or s 1 0 ≡ 9 → 2 ≤ length s
  two_long h =
      ⊎_elim (λ (z : 1 < length s). omega arith)
      (λ (z : length s ≤ 1). let e = get_or-eq_default s 0 {n = 1} z in absurd (omega arith))
      (below_or_not 1 (length s))

  module _ (r : ℕ) (e : r ≡ leading not_newline (tail 2 s)) where
    pub end_within : r ≤ length (tail 2 s)
    end_within = let w = (leading_found not_newline (tail 2 s)).within in omega arith

    rule_ends : r ≡ rule_length s
    rule_ends = e ∙ ap (leading not_newline) (tail_is 2 s)

    pub no_end : r ≡ length (tail 2 s) → is_job s ≡ false
    no_end h =
        let l = ap length (tail_is 2 s) in
        let f = rule_ends in
        last_false (tag && tab) ended (le-ltb (rule_length s) (length (drop 2 s)) (omega arith))

    pub formed : get_or s 0 0 ≡ 82 → get_or s 1 0 ≡ 9 → (r ≡ length (tail 2 s) → ⊥) → is_job s ≡ true
    formed a b h =
        let l = ap length (tail_is 2 s) in
        let f = rule_ends in
        let w = end_within in
        simp (eq-eqb (get_or s 0 0) 82 a, eq-eqb (get_or s 1 0) 9 b, lt-ltb (rule_length s) (length (drop 2 s)) (omega arith))

    pub rule_part : take r (tail 2 s) ≡ rule_of s
    rule_part = ap₂ take rule_ends (tail_is 2 s)

    pub day_part : tail (r + 1) (tail 2 s) ≡ day_of s
    day_part =
        let f : r + 1 ≡ suc (rule_length s) = omega (arith, rule_ends) in
        tail_is (r + 1) (tail 2 s) ∙ ap₂ drop f (tail_is 2 s)

-- ---- the answer
module _ (s old : List ℕ) where
  pub line_stop : is_job s ≡ false → refusal 16 0 old ≡ job_answer s old
  unfolding job_answer job_result
  line_stop e = simp e

  pub line_pass : is_job s ≡ true → written (after_rule (rule_of s) (day_of s) (rule_answer (rule_of s))) old ≡ job_answer s old
  unfolding job_answer job_result
  line_pass e = simp e
