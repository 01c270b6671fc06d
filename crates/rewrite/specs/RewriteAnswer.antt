-- The values of the rewriter's answers, with what stands in the buffer, by documents 01 and 02 f). Assumes nothing.
use Rattle.std.specs.Prelude.{ℕ, List, ◌++◌, length, drop, Result, Ok, Err}
use Rattle.rule.specs.RuleAnswer as reader
use Rattle.verdict.specs.Verdicts as verdict
use Rattle.verdict.specs.declared.Verdict.{Verdict}
use Rattle.rewrite.specs.declared.Refusal.{Refusal}
use Rattle.rewrite.specs.declared.Refusal.TheVariants as why

-- 01: "An answer carries number (0 if accepted), place, found and count"; "A later call that writes text reports its length as n";
-- and the whole buffer at exit
pub record RewriteAnswer : Type 0 where
  pub number : ℕ
  pub place : ℕ
  pub found : ℕ
  pub count : ℕ
  pub n : ℕ
  pub out : List ℕ

-- 02 b): "any new call that doesn't judge has found and count 0"
abbrev pub values : ℕ → ℕ → ℕ → List ℕ → RewriteAnswer
values number place n out = record { number = number; place = place; found = 0; count = 0; n = n; out = out }

-- 01: "On every refusal but 10, those of later requests included .., no lent buffer changes."
abbrev pub refusal : ℕ → ℕ → List ℕ → RewriteAnswer
refusal number place old = values number place 0 old

-- the text r; 01: "On acceptance a buffer or list keeps what lies beyond the part written."
abbrev pub acceptance : List ℕ → List ℕ → RewriteAnswer
acceptance r old = values 0 0 (length r) (r ++ drop (length r) old)

-- 02 f): number and place of each refusal
abbrev pub refusal_verdict : Refusal → Verdict
refusal_verdict (why.Rule r) = reader.refusal_verdict r
refusal_verdict why.ShortBuffer = verdict.refused 15 0

-- number, place, found and count of what the code answers
abbrev pub outcome_verdict : Result ℕ Refusal → Verdict
outcome_verdict (Ok n) = verdict.accepted 0 0
outcome_verdict (Err r) = refusal_verdict r

-- a verdict, with n and the buffer
abbrev pub told : Verdict → ℕ → List ℕ → RewriteAnswer
told v n out = record { number = v.number; place = v.place; found = v.found; count = v.count; n = n; out = out }

-- the values of what the code answers, with the buffer at exit: a refusal has no n
abbrev pub rewrite_values : Result ℕ Refusal → List ℕ → RewriteAnswer
rewrite_values (Ok n) out = told (verdict.accepted 0 0) n out
rewrite_values (Err r) out = told (refusal_verdict r) 0 out
