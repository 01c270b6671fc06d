-- The values of the judge's answers on a rule text, with what stands in the table, by document 01. Assumes nothing.
use Rattle.std.specs.Prelude.{ℕ, ◌≡◌, List, Result, Ok, Err}
use Rattle.rule.specs.RuleAnswer as reader
use Rattle.verdict.specs.Verdicts.{accepted}
use Rattle.rule.specs.declared.Refusal.{Refusal as RuleRefusal}
use Rattle.verdict.specs.declared.Judged.{Judged}
use Rattle.verdict.specs.declared.Verdict.{Verdict}
use Rattle.matcher.specs.MatchAnswer as matcher
use Rattle.matcher.specs.MatchAnswer.{MatchAnswer, told}
use Rattle.judge.specs.declared.Refusal.{Refusal}
use Rattle.judge.specs.declared.Refusal.TheVariants as why

-- number, place, found and count, and the whole table at exit
abbrev pub JudgeAnswer : Type 0
JudgeAnswer = MatchAnswer

-- number, place, found and count of each refusal, where `reader` gives those of a reader's own
abbrev pub refusal_verdict : {R : Type 0} → (R → Verdict) → Refusal R → Verdict
refusal_verdict reader (why.Reading r) = reader r
refusal_verdict reader (why.Matching r) = matcher.refusal_verdict r

-- the verdict is what the refusal says, where `tells` relates a reader's own refusals and what they say
abbrev pub TellsRefusal : {R : Type 0} → (R → Verdict → Type 0) → Refusal R → Verdict → Type 0
TellsRefusal tells (why.Reading r) v = tells r v
TellsRefusal tells (why.Matching r) v = v ≡ matcher.refusal_verdict r

-- number, place, found and count of what the code answers, where `reader` gives those of a reader's refusal
abbrev pub outcome_verdict : {R : Type 0} → (R → Verdict) → Result Judged (Refusal R) → Verdict
outcome_verdict reader (Ok j) = accepted j.found j.count
outcome_verdict reader (Err r) = refusal_verdict reader r

-- the values of what the code answers, with the table at exit
abbrev pub judge_values : Result Judged (Refusal RuleRefusal) → List ℕ → JudgeAnswer
judge_values o b = told (outcome_verdict reader.refusal_verdict o) b
