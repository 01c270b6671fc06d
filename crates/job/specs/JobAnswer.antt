-- The values of the answers to a job, with what stands in the buffer, by document 01. Assumes nothing.
use Rattle.std.specs.Prelude.{ℕ, List, Result, Ok, Err, ◌++◌, length, drop}
use Rattle.verdict.specs.Verdicts as verdict
use Rattle.verdict.specs.declared.Verdict.{Verdict}
use Rattle.rule.specs.RuleAnswer as rule
use Rattle.day.specs.DayAnswer as day
use Rattle.judge.specs.JudgeAnswer as judge
use Rattle.job.specs.declared.Accepted.{Accepted}
use Rattle.job.specs.declared.Refusal.{Refusal}
use Rattle.job.specs.declared.Refusal.TheVariants as why

-- 01: "An answer carries number (0 if accepted), place, found and count"; n, and the whole buffer at exit
pub record JobAnswer : Type 0 where
  pub number : ℕ
  pub place : ℕ
  pub found : ℕ
  pub count : ℕ
  pub n : ℕ
  pub out : List ℕ

-- 01: "On every refusal but 10 .. no lent buffer changes"
abbrev pub refusal : ℕ → ℕ → List ℕ → JobAnswer
refusal number place old = record { number = number; place = place; found = 0; count = 0; n = 0; out = old }

-- 01: "A later call that writes text reports its length as n"; "On acceptance a buffer or list keeps what lies beyond the part written."
abbrev pub acceptance : ℕ → ℕ → List ℕ → List ℕ → JobAnswer
acceptance found count text old =
    record { number = 0; place = 0; found = found; count = count; n = length text; out = text ++ drop (length text) old }

-- 01: number and place of what the row refuses that a job comes to; 16 and 15 are its own
abbrev pub row_verdict : Refusal → Verdict
row_verdict why.NoRuleLine = verdict.refused 16 0
row_verdict (why.Rule r) = rule.refusal_verdict r
row_verdict (why.Day r) = day.refusal_verdict r
row_verdict (why.Judge r) = judge.refusal_verdict rule.refusal_verdict r
row_verdict why.ShortBuffer = verdict.refused 15 0

-- 01: "on refusal found and count are 0 unless said"
abbrev pub refusal_verdict : Refusal → Verdict
refusal_verdict r = verdict.refused (row_verdict r).number (row_verdict r).place

-- the values of what the code answers, with the buffer at exit
abbrev pub job_values : Result Accepted Refusal → List ℕ → JobAnswer
job_values (Ok l) b = record { number = 0; place = 0; found = l.found; count = l.count; n = l.n; out = b }
job_values (Err r) b = refusal (refusal_verdict r).number (refusal_verdict r).place b
