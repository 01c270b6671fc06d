-- The values of the judge's answers on a rule file, with what stands in the table, by documents 01 and 02. Assumes nothing.
use Rattle.std.specs.Prelude.{ℕ, List, Result}
use Rattle.rule_file.specs.FileAnswer as reader
use Rattle.rule_file.specs.declared.LineRefusal.{LineRefusal}
use Rattle.verdict.specs.declared.Judged.{Judged}
use Rattle.verdict.specs.declared.Verdict.{Verdict}
use Rattle.matcher.specs.MatchAnswer.{told}
use Rattle.judge.specs.JudgeAnswer.{JudgeAnswer, outcome_verdict}
use Rattle.judge.specs.declared.Refusal.{Refusal}

-- number, place, found and count of what the code answers
abbrev pub file_outcome_verdict : Result Judged (Refusal LineRefusal) → Verdict
file_outcome_verdict o = outcome_verdict (λ r. reader.refusal_verdict r.refusal r.line) o

-- the values of what the code answers, with the table at exit
abbrev pub judge_file_values : Result Judged (Refusal LineRefusal) → List ℕ → JudgeAnswer
judge_file_values o b = told (file_outcome_verdict o) b
