-- The rows that the calls write are the answers', and so are the numbers returned and what is left in all buffers, by computation and by
-- the meanings. Assumes nothing.
use Prim.Native.Nat.{ℕ, ◌≤◌, ◌<◌}
use mathlib.Core.Path.{◌≡◌, refl, sym, ap, ap₂, subst, ◌∙◌}
use mathlib.Core.Bool.{or-true}
use mathlib.Core.Logic.{◌⊎◌, inl, inr}
use mathlib.Core.List.{List, [], ◌∷◌, ◌++◌, map}
use Rattle.std.specs.Prelude.{Result, Ok, Err}
use Rattle.std.proofs.lemmas.List.{take-map}
use lib.ListN.{length, take}
use borrow.Author.Tests.{lt-ltb, le-ltb}
use Rattle.rule.specs.RuleAnswer as rule
use Rattle.rule.specs.RuleAnswer.{refusal_verdict as rule_refusal, RuleAnswer}
use Rattle.rule.specs.RuleComputed.{rule_answer}
use Rattle.rule.proofs.Answered.{with_meaning}
use Rattle.expression.specs.declared.Node.{Node}
use Rattle.expression.specs.declared.records.Records.{Records}
use Rattle.verdict.specs.Verdicts.{accepted}
use Rattle.rule_line.specs.Lines.{LineNodes, told_line, refusal_number}
use Rattle.rule_file.specs.FileAnswer.{FileAnswer, refusal_verdict, file_values}
use Rattle.rule_file.specs.FileComputed.{file_answer}
use Rattle.rule_file.specs.FileMeaning.{FileMeaning}
use Rattle.rule_file.specs.declared.LineRefusal.{LineRefusal}
use Rattle.rule_file.specs.declared.accepted.RuleFile.{RuleFile}
use Rattle.day.specs.DayAnswer as day
use Rattle.day.specs.DayAnswer.{DayAnswer, day_values, event_count}
use Rattle.day.specs.DayComputed.{day_answer}
use Rattle.day.specs.DayMeaning.{DayMeaning}
use Rattle.rule.specs.declared.Refusal as rule-type
use Rattle.verdict.specs.declared.Judged.{Judged}
use Rattle.day.specs.declared.Refusal as day-reader
use Rattle.judge.specs.JudgeAnswer as judge
use Rattle.judge.specs.JudgeAnswer.{JudgeAnswer, judge_values}
use Rattle.judge.specs.JudgeComputed.{judge_answer}
use Rattle.judge.specs.JudgeMeaning.{JudgeMeaning}
use Rattle.judge.specs.declared.Refusal as judge-type
use Rattle.judge.specs.JudgeFileAnswer.{file_outcome_verdict, judge_file_values}
use Rattle.judge.specs.JudgeFileComputed.{judge_file_answer}
use Rattle.judge.specs.JudgeFileMeaning.{JudgeFileMeaning}
use Rattle.rule_file.specs.declared.LineRefusal as line-type
use Rattle.job.specs.JobAnswer.{JobAnswer, job_values}
use Rattle.job.specs.JobComputed.{job_answer}
use Rattle.job.specs.JobMeaning.{JobMeaning}
use Rattle.job.specs.JobAnswer as job-answers
use Rattle.job.specs.declared.Refusal as jobs
use Rattle.rewrite.specs.RewriteAnswer as rewrite
use Rattle.rewrite.specs.RewriteAnswer.{RewriteAnswer, rewrite_values}
use Rattle.rewrite.specs.declared.Refusal as rewriting
use Rattle.rewrite.specs.RewriteComputed.{rewrite_answer}
use Rattle.rewrite.proofs.Answered as rewrite-answered
use Rattle.verdict.specs.declared.Verdict.{Verdict}
use Rattle.merge.specs.MergeAnswer as merge
use Rattle.merge.specs.MergeAnswer.{merge_values}
use Rattle.merge.specs.MergeComputed.{merge_answer}
use Rattle.merge.specs.MergeMeaning.{MergeMeaning}
use Rattle.merge.specs.declared.Refusal as merging
use Rattle.wuzlevor.specs.Told.{job_row, over, pair_row, node_row, line_row, over_lines}
use Rattle.wuzlevor.specs.Exported.{MergeExport, merge_short, merge_told}
use Rattle.wuzlevor.specs.ExportComputed.{verdict_row, ReadWritten}
use Rattle.wuzlevor.specs.Exported.{unanswered, rule_told, RuleExport, rule_short, rule_is_told}
use Rattle.wuzlevor.specs.Exported.{file_told, FileExport, file_short, file_is_told}
use Rattle.wuzlevor.specs.Exported.{day_told, DayExport, day_short, day_is_told}
use Rattle.wuzlevor.specs.Exported.{judge_told, JudgeExport, judge_short, judge_is_told}
use Rattle.wuzlevor.specs.Exported.{JudgeFileExport, judge_file_short, judge_file_told}
use Rattle.wuzlevor.specs.Exported.{job_told, JobExport, job_short, job_is_told}
use Rattle.wuzlevor.specs.Exported.{rewrite_told, RewriteExport, rewrite_short, rewrite_is_told}
use Rattle.wuzlevor.specs.ExportComputed.{read_rule, read_rule_file, read_day, judge_spans, judge_rule_file, run_job, rewrite_rule, merge_days}

-- the two clauses of a contract, for an effect b that tells the answer x
both : {B : Type 0} (P : B → Type 0) {b x y : B} → b ≡ x → x ≡ y → P x → (b ≡ y) × P b
both P g e p = (g ∙ e, subst P (sym g) p)

-- a verdict u and a number n, written to a buffer, in the effect of a call that returns the verdict's number
written : {B : Type 0} (effect : ℕ → List ℕ → B) (old : List ℕ) {new : List ℕ} {number n : ℕ} {v u : Verdict} → number ≡ v.number → v ≡ u
    → new ≡ over (verdict_row v ++ n ∷ []) old → effect number new ≡ effect u.number (over (verdict_row u ++ n ∷ []) old)
written effect old {n = n} e s w = ap₂ effect e w ∙ ap (λ (x : Verdict). effect x.number (over (verdict_row x ++ n ∷ []) old)) s

-- the same of a day, with its buffers
pub day_written : (ls ss answer : List ℕ) {a : List ℕ} {v u : Verdict} {n k : ℕ} → v ≡ u → n ≡ k → a ≡ over (verdict_row v ++ n ∷ []) answer
    → (v.number, ls, ss, a) ≡ day_told (day.told u k ls ss) answer
day_written ls ss answer {a} {v} {u} {n} s e w =
    ap (λ (x : List ℕ). (v.number, ls, ss, x)) w
    ∙ ap (λ (x : Verdict). (x.number, ls, ss, over (verdict_row x ++ n ∷ []) answer)) s
    ∙ ap (λ (x : ℕ). day_told (day.told u x ls ss) answer) e

-- ---- wuz_read_rule
module _ {text answer nodes : List ℕ} where
  pub rule_returns : (length answer < 6) ⊎ (length nodes < 128)
      → ((unanswered, answer, nodes) ≡ read_rule text answer nodes) × RuleExport text answer nodes (unanswered, answer, nodes)
  unfolding read_rule
  rule_returns (inl h) = (simp (lt-ltb (length answer) 6 h), rule_short (inl h))
  rule_returns (inr h) = (simp (lt-ltb (length nodes) 128 h, or-true), rule_short (inr h))

  pub rule_writes : {a n : List ℕ} (v : Verdict) (m k : ℕ) (ns : List Node) → 6 ≤ length answer → 128 ≤ length nodes
      → rule.told v m k ns ≡ rule_answer text → a ≡ over (verdict_row v ++ m ∷ k ∷ []) answer → n ≡ over (node_row (take m ns)) nodes
      → ((v.number, a, n) ≡ read_rule text answer nodes) × RuleExport text answer nodes (v.number, a, n)
  unfolding read_rule
  rule_writes v m k ns h l e wa wn =
      both (RuleExport text answer nodes) (ap₂ (λ (x y : List ℕ). (v.number, x, y)) wa wn)
      (ap (λ (x : RuleAnswer). rule_told x answer nodes) e ∙ simp (le-ltb (length answer) 6 h, le-ltb (length nodes) 128 l))
      (rule_is_told h l (with_meaning e))

-- a refusal has no records
pub none_told : (ns : List Node) (nodes : List ℕ) → nodes ≡ over (node_row (take 0 ns)) nodes
unfolding pair_row
none_told ns nodes = refl

-- ---- wuz_read_rule_file
module _ {file answer lines nodes : List ℕ} where
  pub file_returns : (length answer < 5) ⊎ ((length lines < 32) ⊎ (length nodes < 2048))
      → ((unanswered, answer, lines, nodes) ≡ read_rule_file file answer lines nodes)
      × FileExport file answer lines nodes (unanswered, answer, lines, nodes)
  unfolding read_rule_file
  file_returns (inl h) = (simp (lt-ltb (length answer) 5 h), file_short (inl h))
  file_returns (inr (inl h)) = (simp (lt-ltb (length lines) 32 h, or-true), file_short (inr (inl h)))
  file_returns (inr (inr h)) = (simp (lt-ltb (length nodes) 2048 h, or-true), file_short (inr (inr h)))

  module _ (h : 5 ≤ length answer) (i : 32 ≤ length lines) (j : 2048 ≤ length nodes) where
    -- the reader's answer x, once it is written
    file_is_written : {a l n : List ℕ} (x : Result RuleFile LineRefusal) → file_values x ≡ file_answer file → FileMeaning file (file_values x)
        → ((file_values x).number, a, l, n) ≡ file_told (file_values x) answer lines nodes
        → (((file_values x).number, a, l, n) ≡ read_rule_file file answer lines nodes)
        × FileExport file answer lines nodes ((file_values x).number, a, l, n)
    unfolding read_rule_file
    file_is_written x e means w =
        both (FileExport file answer lines nodes) w
        (ap (λ (y : FileAnswer). file_told y answer lines nodes) e
        ∙ simp (le-ltb (length answer) 5 h, le-ltb (length lines) 32 i, le-ltb (length nodes) 2048 j))
        (file_is_told h i j means)

    pub file_accepted : {a l n : List ℕ} (x : RuleFile) {v : Verdict} {rs rs' : List Records}
        → file_values (Ok x) ≡ file_answer file → FileMeaning file (file_values (Ok x)) → v ≡ accepted 0 0
        → rs ≡ take x.count x.lines → rs' ≡ take x.count x.lines
        → a ≡ over (verdict_row v ++ x.count ∷ []) answer → l ≡ over (line_row (map told_line rs)) lines → n ≡ over_lines 0 (map told_line rs') nodes
        → ((0, a, l, n) ≡ read_rule_file file answer lines nodes) × FileExport file answer lines nodes (0, a, l, n)
    file_accepted x {v} {rs} {rs'} e means s f f' wa wl wn =
        let q : map told_line rs ≡ take x.count (map told_line x.lines) = ap (map told_line) f ∙ sym (take-map told_line x.count x.lines) in
        let q' : map told_line rs' ≡ take x.count (map told_line x.lines) = ap (map told_line) f' ∙ sym (take-map told_line x.count x.lines) in
        file_is_written (Ok x) e means
        (written (wa ∙ ap (λ (y : Verdict). over (verdict_row y ++ x.count ∷ []) answer) s) (wl ∙ ap (λ (y : List LineNodes). over (line_row y) lines) q)
        (wn ∙ ap (λ (y : List LineNodes). over_lines 0 y nodes) q'))
      where
        written : {a a' l l' n n' : List ℕ} → a ≡ a' → l ≡ l' → n ≡ n'
            → ◌≡◌ {A = ℕ × List ℕ × List ℕ × List ℕ} (0, a, l, n) (0, a', l', n')
        written {a' = a'} {l' = l'} {n = n} e f g =
            ap₂ (λ (x y : List ℕ). (0, x, y, n)) e f ∙ ap (λ (z : List ℕ). (0, a', l', z)) g

    pub file_refused : {a : List ℕ} (x : LineRefusal) {v : Verdict} → file_values (Err x) ≡ file_answer file → FileMeaning file (file_values (Err x))
        → v ≡ refusal_verdict x.refusal x.line → a ≡ over (verdict_row v ++ 0 ∷ []) answer
        → ((v.number, a, lines, nodes) ≡ read_rule_file file answer lines nodes) × FileExport file answer lines nodes (v.number, a, lines, nodes)
    unfolding over_lines pair_row
    file_refused {a} x {v} e means s wa =
        subst (λ (y : Verdict). ((y.number, a, lines, nodes) ≡ read_rule_file file answer lines nodes) × FileExport file answer lines nodes (y.number, a, lines, nodes)) (sym s)
        (file_is_written (Err x) e means
        (ap (λ (y : List ℕ). (refusal_number x.refusal, y, lines, nodes)) (wa ∙ ap (λ (y : Verdict). over (verdict_row y ++ 0 ∷ []) answer) s)))

-- ---- wuz_read_day
module _ {file letters seconds answer : List ℕ} where
  pub day_returns : length answer < 5 → ((unanswered, letters, seconds, answer) ≡ read_day file letters seconds answer)
      × DayExport file letters seconds answer (unanswered, letters, seconds, answer)
  unfolding read_day
  day_returns h = (simp (lt-ltb (length answer) 5 h), day_short h)

  pub day_writes : {ls ss a : List ℕ} {number : ℕ} (o : Result ℕ day-reader.Refusal) → 5 ≤ length answer
      → day_values o ls ss ≡ day_answer file letters seconds → DayMeaning file letters seconds (day_values o ls ss)
      → ReadWritten (λ e v. v ≡ day.refusal_verdict e) o answer number a
      → ((number, ls, ss, a) ≡ read_day file letters seconds answer) × DayExport file letters seconds answer (number, ls, ss, a)
  unfolding read_day
  day_writes {ls} {ss} {a} {number} o h e means w =
      both (DayExport file letters seconds answer) (told_as o w)
      (ap (λ (x : DayAnswer). day_told x answer) e ∙ simp (le-ltb (length answer) 5 h))
      (day_is_told h means)
    where
      told_as : (o : Result ℕ day-reader.Refusal) → ReadWritten (λ e v. v ≡ day.refusal_verdict e) o answer number a
          → (number, ls, ss, a) ≡ day_told (day_values o ls ss) answer
      told_as (Ok n) w = written (λ x y. (x, ls, ss, y)) answer w.0 refl w.1
      told_as (Err r) w = written (λ x y. (x, ls, ss, y)) answer w.2 w.1 w.3

-- ---- wuz_judge
module _ {rule word : List ℕ} {limit : ℕ} {table answer : List ℕ} where
  pub judge_returns : length answer < 4 → ((unanswered, table, answer) ≡ judge_spans rule word limit table answer)
      × JudgeExport rule word limit table answer (unanswered, table, answer)
  unfolding judge_spans
  judge_returns h = (simp (lt-ltb (length answer) 4 h), judge_short h)

  pub judge_writes : {t a : List ℕ} {v : Verdict} (o : Result Judged (judge-type.Refusal rule-type.Refusal)) → 4 ≤ length answer
      → judge_values o t ≡ judge_answer rule word limit table → JudgeMeaning rule word limit table (judge_values o t)
      → v ≡ judge.outcome_verdict rule_refusal o → a ≡ over (verdict_row v) answer
      → ((v.number, t, a) ≡ judge_spans rule word limit table answer)
      × JudgeExport rule word limit table answer (v.number, t, a)
  unfolding judge_spans
  judge_writes {t} {a} {v} o h e means s w =
      both (JudgeExport rule word limit table answer)
      (ap (λ (x : List ℕ). (v.number, t, x)) w ∙ ap (λ (x : Verdict). (x.number, t, over (verdict_row x) answer)) s)
      (ap (λ (x : JudgeAnswer). judge_told x answer) e ∙ simp (le-ltb (length answer) 4 h))
      (judge_is_told h means)

-- ---- wuz_judge_rule_file
module _ {file word : List ℕ} {limit : ℕ} {table answer : List ℕ} where
  pub judge_file_returns : length answer < 4 → ((unanswered, table, answer) ≡ judge_rule_file file word limit table answer)
      × JudgeFileExport file word limit table answer (unanswered, table, answer)
  unfolding judge_rule_file
  judge_file_returns h = (simp (lt-ltb (length answer) 4 h), judge_file_short h)

  pub judge_file_writes : {t a : List ℕ} {v : Verdict} (o : Result Judged (judge-type.Refusal line-type.LineRefusal)) → 4 ≤ length answer
      → judge_file_values o t ≡ judge_file_answer file word limit table → JudgeFileMeaning file word limit table (judge_file_values o t)
      → v ≡ file_outcome_verdict o → a ≡ over (verdict_row v) answer
      → ((v.number, t, a) ≡ judge_rule_file file word limit table answer)
      × JudgeFileExport file word limit table answer (v.number, t, a)
  unfolding judge_rule_file
  judge_file_writes {t} {a} {v} o h e means s w =
      both (JudgeFileExport file word limit table answer)
      (ap (λ (x : List ℕ). (v.number, t, x)) w ∙ ap (λ (x : Verdict). (x.number, t, over (verdict_row x) answer)) s)
      (ap (λ (x : JudgeAnswer). judge_told x answer) e ∙ simp (le-ltb (length answer) 4 h))
      (judge_file_told h means)

-- ---- wuz_run_job
module _ {job out answer : List ℕ} where
  pub job_returns : length answer < 5
      → ((unanswered, out, answer) ≡ run_job job out answer) × JobExport job out answer (unanswered, out, answer)
  unfolding run_job
  job_returns h = (simp (lt-ltb (length answer) 5 h), job_short h)

  pub job_writes : {a : List ℕ} (x : JobAnswer) → 5 ≤ length answer → x ≡ job_answer job out → JobMeaning job out x
      → a ≡ over (job_row x) answer → ((x.number, x.out, a) ≡ run_job job out answer) × JobExport job out answer (x.number, x.out, a)
  unfolding run_job
  job_writes x h e means w =
      both (JobExport job out answer) (ap (λ (y : List ℕ). (x.number, x.out, y)) w)
      (ap (λ (y : JobAnswer). job_told y answer) e ∙ simp (le-ltb (length answer) 5 h)) (job_is_told h means)

  pub job_refused : {o a : List ℕ} {v : Verdict} (r : jobs.Refusal) → 5 ≤ length answer
      → job_values (Err r) o ≡ job_answer job out → JobMeaning job out (job_values (Err r) o)
      → v ≡ job-answers.refusal_verdict r → a ≡ over (verdict_row v ++ (0 ∷ [])) answer
      → ((v.number, o, a) ≡ run_job job out answer) × JobExport job out answer (v.number, o, a)
  job_refused {o} {a} r h e means s w =
      subst (λ (x : Verdict). a ≡ over (verdict_row x ++ (0 ∷ [])) answer
      → ((x.number, o, a) ≡ run_job job out answer) × JobExport job out answer (x.number, o, a)) (sym s) (job_writes (job_values (Err r) o) h e means) w

-- ---- wuz_rewrite_rule
module _ {text out answer : List ℕ} where
  pub rewrite_returns : length answer < 5
      → ((unanswered, out, answer) ≡ rewrite_rule text out answer) × RewriteExport text out answer (unanswered, out, answer)
  unfolding rewrite_rule
  rewrite_returns h = (simp (lt-ltb (length answer) 5 h), rewrite_short h)

  pub rewrite_writes : {b a : List ℕ} {number : ℕ} (o : Result ℕ rewriting.Refusal) → 5 ≤ length answer
      → rewrite_values o b ≡ rewrite_answer text out → ReadWritten (λ e v. v ≡ rewrite.refusal_verdict e) o answer number a
      → ((number, b, a) ≡ rewrite_rule text out answer) × RewriteExport text out answer (number, b, a)
  unfolding rewrite_rule
  rewrite_writes {b} {a} {number} o h e w =
      both (RewriteExport text out answer) (told_as o w)
      (ap (λ (x : RewriteAnswer). rewrite_told x answer) e ∙ simp (le-ltb (length answer) 5 h))
      (rewrite_is_told h (rewrite-answered.with_meaning e))
    where
      told_as : (o : Result ℕ rewriting.Refusal) → ReadWritten (λ e v. v ≡ rewrite.refusal_verdict e) o answer number a
          → (number, b, a) ≡ rewrite_told (rewrite_values o b) answer
      told_as (Ok n) w = written (λ x y. (x, b, y)) answer w.0 refl w.1
      told_as (Err r) w = written (λ x y. (x, b, y)) answer w.2 w.1 w.3

-- ---- wuz_merge_days
module _ {first second letters seconds answer : List ℕ} where
  pub merge_returns : length answer < 5 → ((unanswered, letters, seconds, answer) ≡ merge_days first second letters seconds answer)
      × MergeExport first second letters seconds answer (unanswered, letters, seconds, answer)
  unfolding merge_days
  merge_returns h = (simp (lt-ltb (length answer) 5 h), merge_short h)

  pub merge_writes : {ls ss a : List ℕ} {number : ℕ} (o : Result ℕ merging.Refusal) → 5 ≤ length answer
      → merge_values o ls ss ≡ merge_answer first second letters seconds → MergeMeaning first second letters seconds (merge_values o ls ss)
      → ReadWritten (λ e v. v ≡ merge.refusal_verdict e) o answer number a
      → ((number, ls, ss, a) ≡ merge_days first second letters seconds answer)
      × MergeExport first second letters seconds answer (number, ls, ss, a)
  unfolding merge_days
  merge_writes {ls} {ss} {a} {number} o h e means w =
      both (MergeExport first second letters seconds answer) (told_as o w)
      (ap (λ (x : DayAnswer). day_told x answer) e ∙ simp (le-ltb (length answer) 5 h))
      (merge_told h means)
    where
      told_as : (o : Result ℕ merging.Refusal) → ReadWritten (λ e v. v ≡ merge.refusal_verdict e) o answer number a
          → (number, ls, ss, a) ≡ day_told (merge_values o ls ss) answer
      told_as (Ok n) w = written (λ x y. (x, ls, ss, y)) answer w.0 refl w.1
      told_as (Err r) w = written (λ x y. (x, ls, ss, y)) answer w.2 w.1 w.3
