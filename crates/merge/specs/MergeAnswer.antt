-- The values of the merging call's answers, with what stands in the two buffers, by documents 01 and 02. Assumes nothing.
use Rattle.std.specs.Prelude.{ℕ, List, Result, Ok, Err}
use Rattle.std.specs.Result.{result_unwrap_or}
use Rattle.verdict.specs.Verdicts as verdict
use Rattle.verdict.specs.declared.Verdict.{Verdict}
use Rattle.day.specs.DayAnswer as day
use Rattle.day.specs.DayAnswer.{DayAnswer, told}
use Rattle.merge.specs.declared.Refusal.{Refusal}
use Rattle.merge.specs.declared.Refusal.TheVariants as why

-- number and place of each refusal, the day reader's and one more; 02 g): "22, over 255 events together"
abbrev pub refusal_verdict : Refusal → Verdict
refusal_verdict (why.Day r) = day.refusal_verdict r
refusal_verdict why.ManyEvents = verdict.refused 22 0

-- number, place, found and count of what the code answers; 02 b): "any new call that doesn't judge has found and count 0 unless it says
-- otherwise"
abbrev pub outcome_verdict : Result ℕ Refusal → Verdict
outcome_verdict (Ok n) = verdict.accepted 0 0
outcome_verdict (Err r) = refusal_verdict r

-- n of what the code answers; 01: n is "0 or absent on refusal"
abbrev pub event_count : Result ℕ Refusal → ℕ
event_count o = result_unwrap_or o 0

-- the values of what the code answers, with the two buffers at exit; 02 g): "with its n, as the day reader's"
abbrev pub merge_values : Result ℕ Refusal → List ℕ → List ℕ → DayAnswer
merge_values o ls ss = told (outcome_verdict o) (event_count o) ls ss
