-- What each call of the C interface returns and leaves in the buffers lent to it, by the meanings of the answers.
-- wuzlevor.h: "If `answer`, `nodes` or `lines` is shorter than the call asks for, the call returns WUZ_UNANSWERED and writes nothing".
-- Assumes nothing.
use Rattle.std.specs.Prelude.{ℕ, ◌≤◌, ◌<◌, ◌⊎◌, List, length}
use Rattle.rule.specs.RuleAnswer.{RuleAnswer}
use Rattle.rule.specs.RuleMeaning.{RuleMeaning}
use Rattle.rule_file.specs.FileAnswer.{FileAnswer}
use Rattle.rule_file.specs.FileMeaning.{FileMeaning}
use Rattle.day.specs.DayAnswer.{DayAnswer}
use Rattle.day.specs.DayMeaning.{DayMeaning}
use Rattle.judge.specs.JudgeAnswer.{JudgeAnswer}
use Rattle.judge.specs.JudgeMeaning.{JudgeMeaning}
use Rattle.judge.specs.JudgeFileMeaning.{JudgeFileMeaning}
use Rattle.job.specs.JobAnswer.{JobAnswer}
use Rattle.job.specs.JobMeaning.{JobMeaning}
use Rattle.rewrite.specs.RewriteAnswer.{RewriteAnswer}
use Rattle.rewrite.specs.RewriteMeaning.{RewriteMeaning}
use Rattle.merge.specs.MergeMeaning.{MergeMeaning}
use Rattle.wuzlevor.specs.Told.{over, line_row, over_lines, rule_row, rule_nodes, file_row, lines_of, day_row, judge_row, job_row, rewrite_row}

-- WUZ_UNANSWERED, the greatest 64-bit number
abbrev pub unanswered : ℕ
unanswered = 18446744073709551615

-- ---- wuz_read_rule: what is returned, and the buffers `answer` and `nodes`
abbrev pub rule_told : RuleAnswer → List ℕ → List ℕ → ℕ × List ℕ × List ℕ
rule_told a answer nodes = (a.number, over (rule_row a) answer, over (rule_nodes a) nodes)

-- of a text and the two buffers at entry
pub data RuleExport (text answer nodes : List ℕ) : ℕ × List ℕ × List ℕ → Type 0 where
  rule_short : (length answer < 6) ⊎ (length nodes < 128) → RuleExport text answer nodes (unanswered, answer, nodes)
  rule_is_told : {a : RuleAnswer} → 6 ≤ length answer → 128 ≤ length nodes → RuleMeaning text a
      → RuleExport text answer nodes (rule_told a answer nodes)

-- ---- wuz_read_rule_file: what is returned, and the buffers `answer`, `lines` and `nodes`
abbrev pub file_told : FileAnswer → List ℕ → List ℕ → List ℕ → ℕ × List ℕ × List ℕ × List ℕ
file_told a answer lines nodes = (a.number, over (file_row a) answer, over (line_row (lines_of a)) lines, over_lines 0 (lines_of a) nodes)

-- of a file and the three buffers at entry
pub data FileExport (file answer lines nodes : List ℕ) : ℕ × List ℕ × List ℕ × List ℕ → Type 0 where
  file_short : (length answer < 5) ⊎ ((length lines < 32) ⊎ (length nodes < 2048))
      → FileExport file answer lines nodes (unanswered, answer, lines, nodes)
  file_is_told : {a : FileAnswer} → 5 ≤ length answer → 32 ≤ length lines → 2048 ≤ length nodes → FileMeaning file a
      → FileExport file answer lines nodes (file_told a answer lines nodes)

-- ---- wuz_read_day: what is returned, and the buffers `letters`, `seconds` and `answer`
abbrev pub day_told : DayAnswer → List ℕ → ℕ × List ℕ × List ℕ × List ℕ
day_told a answer = (a.number, a.letters, a.seconds, over (day_row a) answer)

-- of a file and the three buffers at entry
pub data DayExport (file letters seconds answer : List ℕ) : ℕ × List ℕ × List ℕ × List ℕ → Type 0 where
  day_short : length answer < 5 → DayExport file letters seconds answer (unanswered, letters, seconds, answer)
  day_is_told : {a : DayAnswer} → 5 ≤ length answer → DayMeaning file letters seconds a
      → DayExport file letters seconds answer (day_told a answer)

-- ---- wuz_judge: what is returned, and the buffers `table` and `answer`
abbrev pub judge_told : JudgeAnswer → List ℕ → ℕ × List ℕ × List ℕ
judge_told a answer = (a.number, a.table, over (judge_row a) answer)

-- of a rule, a word, a limit and the two buffers at entry
pub data JudgeExport (rule word : List ℕ) (limit : ℕ) (table answer : List ℕ) : ℕ × List ℕ × List ℕ → Type 0 where
  judge_short : length answer < 4 → JudgeExport rule word limit table answer (unanswered, table, answer)
  judge_is_told : {a : JudgeAnswer} → 4 ≤ length answer → JudgeMeaning rule word limit table a
      → JudgeExport rule word limit table answer (judge_told a answer)

-- ---- wuz_judge_rule_file: what is returned, and the buffers `table` and `answer`; of a file, a word, a limit and the two buffers at entry
pub data JudgeFileExport (file word : List ℕ) (limit : ℕ) (table answer : List ℕ) : ℕ × List ℕ × List ℕ → Type 0 where
  judge_file_short : length answer < 4 → JudgeFileExport file word limit table answer (unanswered, table, answer)
  judge_file_told : {a : JudgeAnswer} → 4 ≤ length answer → JudgeFileMeaning file word limit table a
      → JudgeFileExport file word limit table answer (judge_told a answer)

-- ---- wuz_run_job: what is returned, and the buffers `out` and `answer`
abbrev pub job_told : JobAnswer → List ℕ → ℕ × List ℕ × List ℕ
job_told a answer = (a.number, a.out, over (job_row a) answer)

-- of a job and the two buffers at entry
pub data JobExport (job out answer : List ℕ) : ℕ × List ℕ × List ℕ → Type 0 where
  job_short : length answer < 5 → JobExport job out answer (unanswered, out, answer)
  job_is_told : {a : JobAnswer} → 5 ≤ length answer → JobMeaning job out a → JobExport job out answer (job_told a answer)

-- ---- wuz_rewrite_rule: what is returned, and the buffers `out` and `answer`
abbrev pub rewrite_told : RewriteAnswer → List ℕ → ℕ × List ℕ × List ℕ
rewrite_told a answer = (a.number, a.out, over (rewrite_row a) answer)

-- of a text and the two buffers at entry
pub data RewriteExport (text out answer : List ℕ) : ℕ × List ℕ × List ℕ → Type 0 where
  rewrite_short : length answer < 5 → RewriteExport text out answer (unanswered, out, answer)
  rewrite_is_told : {a : RewriteAnswer} → 5 ≤ length answer → RewriteMeaning text out a → RewriteExport text out answer (rewrite_told a answer)

-- ---- wuz_merge_days: what is returned, and the buffers `letters`, `seconds` and `answer`; of two files and the three buffers at entry
pub data MergeExport (first second letters seconds answer : List ℕ) : ℕ × List ℕ × List ℕ × List ℕ → Type 0 where
  merge_short : length answer < 5 → MergeExport first second letters seconds answer (unanswered, letters, seconds, answer)
  merge_told : {a : DayAnswer} → 5 ≤ length answer → MergeMeaning first second letters seconds a
      → MergeExport first second letters seconds answer (day_told a answer)
