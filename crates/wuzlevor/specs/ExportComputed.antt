-- What each call of the C interface returns and leaves in the buffers lent to it, computed. Assumes nothing.
-- That nothing else has `RuleExport`, `FileExport`, `DayExport`, `JudgeExport`, `JudgeFileExport`, `JobExport`, `RewriteExport`, `MergeExport`
-- is `rule_is`, `file_is`, `day_is`, `judge_is`, `judge_file_is`, `job_is`, `rewrite_is`, `merge_is` in proofs/Determined.
use Rattle.std.specs.Prelude.{ℕ, ◌≡◌, cond, ◌||◌, List, [], ◌∷◌, ◌++◌, Result, Ok, Err, ltb, length}
use Rattle.verdict.specs.Verdicts.{accepted}
use Rattle.verdict.specs.declared.Verdict.{Verdict}
use Rattle.wuzlevor.specs.Told.{over}
use Rattle.rule.specs.RuleComputed.{rule_answer}
use Rattle.rule_file.specs.FileComputed.{file_answer}
use Rattle.day.specs.DayComputed.{day_answer}
use Rattle.judge.specs.JudgeComputed.{judge_answer}
use Rattle.judge.specs.JudgeFileComputed.{judge_file_answer}
use Rattle.job.specs.JobComputed.{job_answer}
use Rattle.rewrite.specs.RewriteComputed.{rewrite_answer}
use Rattle.merge.specs.MergeComputed.{merge_answer}
use Rattle.wuzlevor.specs.Exported.{unanswered, rule_told, file_told, day_told, judge_told, job_told, rewrite_told}

-- of a text and the two buffers at entry
unfoldable pub read_rule : List ℕ → List ℕ → List ℕ → ℕ × List ℕ × List ℕ
read_rule text answer nodes =
    cond (ltb (length answer) 6 || ltb (length nodes) 128) (unanswered, answer, nodes) (rule_told (rule_answer text) answer nodes)

-- of a rule file and the three buffers at entry
unfoldable pub read_rule_file : List ℕ → List ℕ → List ℕ → List ℕ → ℕ × List ℕ × List ℕ × List ℕ
read_rule_file file answer lines nodes =
    cond (ltb (length answer) 5 || (ltb (length lines) 32 || ltb (length nodes) 2048)) (unanswered, answer, lines, nodes)
    (file_told (file_answer file) answer lines nodes)

-- of a file and the three buffers at entry
unfoldable pub read_day : List ℕ → List ℕ → List ℕ → List ℕ → ℕ × List ℕ × List ℕ × List ℕ
read_day file letters seconds answer =
    cond (ltb (length answer) 5) (unanswered, letters, seconds, answer) (day_told (day_answer file letters seconds) answer)

-- of a rule, a word, a limit and the two buffers at entry
unfoldable pub judge_spans : List ℕ → List ℕ → ℕ → List ℕ → List ℕ → ℕ × List ℕ × List ℕ
judge_spans rule word limit table answer =
    cond (ltb (length answer) 4) (unanswered, table, answer) (judge_told (judge_answer rule word limit table) answer)

-- of a rule file, a word, a limit and the two buffers at entry
unfoldable pub judge_rule_file : List ℕ → List ℕ → ℕ → List ℕ → List ℕ → ℕ × List ℕ × List ℕ
judge_rule_file file word limit table answer =
    cond (ltb (length answer) 4) (unanswered, table, answer) (judge_told (judge_file_answer file word limit table) answer)

-- of a job and the two buffers at entry
unfoldable pub run_job : List ℕ → List ℕ → List ℕ → ℕ × List ℕ × List ℕ
run_job job out answer = cond (ltb (length answer) 5) (unanswered, out, answer) (job_told (job_answer job out) answer)

-- of a rule text and the two buffers at entry
unfoldable pub rewrite_rule : List ℕ → List ℕ → List ℕ → ℕ × List ℕ × List ℕ
rewrite_rule text out answer = cond (ltb (length answer) 5) (unanswered, out, answer) (rewrite_told (rewrite_answer text out) answer)

-- of two files and the three buffers at entry
unfoldable pub merge_days : List ℕ → List ℕ → List ℕ → List ℕ → List ℕ → ℕ × List ℕ × List ℕ × List ℕ
merge_days first second letters seconds answer =
    cond (ltb (length answer) 5) (unanswered, letters, seconds, answer) (day_told (merge_answer first second letters seconds) answer)

-- ---- what the functions write

-- number, place, found and count
abbrev pub verdict_row : Verdict → List ℕ
verdict_row v = v.number ∷ v.place ∷ v.found ∷ v.count ∷ []

-- the answer of a call that reads, with how much it has read, or its refusal, of which `tells` says what it says
abbrev pub ReadWritten : {E : Type 0} → (E → Verdict → Type 0) → Result ℕ E → List ℕ → ℕ → List ℕ → Type 0
ReadWritten tells (Ok n) old number new = (number ≡ 0) × (new ≡ over (verdict_row (accepted 0 0) ++ n ∷ []) old)
ReadWritten tells (Err e) old number new = (v : Verdict) × tells e v × (number ≡ v.number) × (new ≡ over (verdict_row v ++ 0 ∷ []) old)
