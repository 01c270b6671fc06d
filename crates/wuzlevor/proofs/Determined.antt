-- Nothing but what is computed has `RuleExport` and the others. Assumes nothing.
use Prim.Native.Nat.{ℕ}
use mathlib.Core.Path.{◌≡◌, ap, ◌∙◌}
use mathlib.Core.Bool.{or-true}
use mathlib.Core.Logic.{inl, inr}
use mathlib.Core.List.{List}
use lib.ListN.{length}
use borrow.Author.Tests.{lt-ltb, le-ltb}
use Rattle.rule.proofs.Answered as rule
use Rattle.rule.specs.RuleAnswer.{RuleAnswer}
use Rattle.rule_file.proofs.FileAnswered as file
use Rattle.rule_file.specs.FileAnswer.{FileAnswer}
use Rattle.day.proofs.Answered as day
use Rattle.day.specs.DayAnswer.{DayAnswer}
use Rattle.judge.proofs.Determined as judge
use Rattle.judge.specs.JudgeAnswer.{JudgeAnswer}
use Rattle.judge.proofs.FileAnswered as judge-file
use Rattle.job.proofs.Determined as job
use Rattle.job.specs.JobAnswer.{JobAnswer}
use Rattle.rewrite.proofs.Answered as rewrite
use Rattle.rewrite.specs.RewriteAnswer.{RewriteAnswer}
use Rattle.merge.proofs.Answered as merge
use Rattle.wuzlevor.specs.ExportComputed.{read_rule, read_rule_file, read_day, judge_spans, judge_rule_file, run_job, rewrite_rule, merge_days}
use Rattle.wuzlevor.specs.Exported.{rule_told, RuleExport, rule_short, rule_is_told}
use Rattle.wuzlevor.specs.Exported.{file_told, FileExport, file_short, file_is_told}
use Rattle.wuzlevor.specs.Exported.{day_told, DayExport, day_short, day_is_told}
use Rattle.wuzlevor.specs.Exported.{judge_told, JudgeExport, judge_short, judge_is_told}
use Rattle.wuzlevor.specs.Exported.{JudgeFileExport, judge_file_short, judge_file_told}
use Rattle.wuzlevor.specs.Exported.{job_told, JobExport, job_short, job_is_told}
use Rattle.wuzlevor.specs.Exported.{rewrite_told, RewriteExport, rewrite_short, rewrite_is_told}
use Rattle.wuzlevor.specs.Exported.{MergeExport, merge_short, merge_told}

pub rule_is : {text answer nodes : List ℕ} {e : ℕ × List ℕ × List ℕ} → RuleExport text answer nodes e → e ≡ read_rule text answer nodes
unfolding read_rule
rule_is {answer = answer} (rule_short (inl h)) = simp (lt-ltb (length answer) 6 h)
rule_is {nodes = nodes} (rule_short (inr h)) = simp (lt-ltb (length nodes) 128 h, or-true)
rule_is {answer = answer} {nodes = nodes} (rule_is_told a n m) =
    ap (λ (x : RuleAnswer). rule_told x answer nodes) (rule.answer_is m) ∙ simp (le-ltb (length answer) 6 a, le-ltb (length nodes) 128 n)

pub file_is : {file answer lines nodes : List ℕ} {e : ℕ × List ℕ × List ℕ × List ℕ} → FileExport file answer lines nodes e
    → e ≡ read_rule_file file answer lines nodes
unfolding read_rule_file
file_is {answer = answer} (file_short (inl h)) = simp (lt-ltb (length answer) 5 h)
file_is {lines = lines} (file_short (inr (inl h))) = simp (lt-ltb (length lines) 32 h, or-true)
file_is {nodes = nodes} (file_short (inr (inr h))) = simp (lt-ltb (length nodes) 2048 h, or-true)
file_is {answer = answer} {lines = lines} {nodes = nodes} (file_is_told a l n m) =
    ap (λ (x : FileAnswer). file_told x answer lines nodes) (file.answer_is m)
    ∙ simp (le-ltb (length answer) 5 a, le-ltb (length lines) 32 l, le-ltb (length nodes) 2048 n)

pub day_is : {file letters seconds answer : List ℕ} {e : ℕ × List ℕ × List ℕ × List ℕ} → DayExport file letters seconds answer e
    → e ≡ read_day file letters seconds answer
unfolding read_day
day_is {answer = answer} (day_short h) = simp (lt-ltb (length answer) 5 h)
day_is {answer = answer} (day_is_told h m) = ap (λ (x : DayAnswer). day_told x answer) (day.answer_is m) ∙ simp (le-ltb (length answer) 5 h)

pub judge_is : {rule word : List ℕ} {limit : ℕ} {table answer : List ℕ} {e : ℕ × List ℕ × List ℕ} → JudgeExport rule word limit table answer e
    → e ≡ judge_spans rule word limit table answer
unfolding judge_spans
judge_is {answer = answer} (judge_short h) = simp (lt-ltb (length answer) 4 h)
judge_is {answer = answer} (judge_is_told h m) =
    ap (λ (x : JudgeAnswer). judge_told x answer) (judge.answer_is m) ∙ simp (le-ltb (length answer) 4 h)

pub judge_file_is : {file word : List ℕ} {limit : ℕ} {table answer : List ℕ} {e : ℕ × List ℕ × List ℕ}
    → JudgeFileExport file word limit table answer e → e ≡ judge_rule_file file word limit table answer
unfolding judge_rule_file
judge_file_is {answer = answer} (judge_file_short h) = simp (lt-ltb (length answer) 4 h)
judge_file_is {answer = answer} (judge_file_told h m) =
    ap (λ (x : JudgeAnswer). judge_told x answer) (judge-file.answer_is m) ∙ simp (le-ltb (length answer) 4 h)

pub job_is : {job out answer : List ℕ} {e : ℕ × List ℕ × List ℕ} → JobExport job out answer e → e ≡ run_job job out answer
unfolding run_job
job_is {answer = answer} (job_short h) = simp (lt-ltb (length answer) 5 h)
job_is {answer = answer} (job_is_told h m) = ap (λ (x : JobAnswer). job_told x answer) (job.answer_is m) ∙ simp (le-ltb (length answer) 5 h)

pub rewrite_is : {text out answer : List ℕ} {e : ℕ × List ℕ × List ℕ} → RewriteExport text out answer e → e ≡ rewrite_rule text out answer
unfolding rewrite_rule
rewrite_is {answer = answer} (rewrite_short h) = simp (lt-ltb (length answer) 5 h)
rewrite_is {answer = answer} (rewrite_is_told h m) =
    ap (λ (x : RewriteAnswer). rewrite_told x answer) (rewrite.answer_is m) ∙ simp (le-ltb (length answer) 5 h)

pub merge_is : {first second letters seconds answer : List ℕ} {e : ℕ × List ℕ × List ℕ × List ℕ}
    → MergeExport first second letters seconds answer e → e ≡ merge_days first second letters seconds answer
unfolding merge_days
merge_is {answer = answer} (merge_short h) = simp (lt-ltb (length answer) 5 h)
merge_is {answer = answer} (merge_told h m) = ap (λ (x : DayAnswer). day_told x answer) (merge.answer_is m) ∙ simp (le-ltb (length answer) 5 h)
