-- What follows of every answer of the judge on a rule file: the bound of the count, what the answer does not depend on, and that it is the
-- judge's answer on the last line's replaced text.
-- Assumes nothing.
use Prim.Native.Nat.{ℕ, ◌+◌, ◌*◌, ◌≤◌, ◌<◌}
use native.Mathlib.Omega.{arith}
use mathlib.Core.Path.{◌≡◌, refl, sym, ap, subst, ◌∙◌}
use mathlib.Core.Bool.{true}
use mathlib.Core.Logic.{◌↔◌}
use mathlib.Core.List.{List, [], ◌∷◌, ◌++◌, append-nil}
use lib.ListN.{length, get_or}
use Rattle.event.specs.Event.{Word}
use Rattle.expression.specs.Tree.{Tree, empty, specials}
use Rattle.expression.specs.Bytes.{is_start}
use Rattle.expression.specs.Grammar.{Alt, Reads}
use Rattle.expression.proofs.Texts.{begins, start_some}
use Rattle.rule.specs.RuleMeaning as rule
use Rattle.rule.proofs.ReadBytes.{read_listed}
use Rattle.rule_line.specs.Lines.{Line}
use Rattle.rule_file.specs.FileMeaning.{Passed}
use Rattle.rule_file.specs.FileComputed.{FileRead, refused, passed, file_read, answered, file_answer}
use Rattle.rule_file.proofs.FileRows.{refused_file, line_fits}
use Rattle.rule_file.proofs.Replacement.{line_reads, line_ordered, line_no_double}
use Rattle.verdict.specs.Verdicts as verdict
use Rattle.work.specs.Walk.{Collection}
use Rattle.work.specs.SizeOf.{SizeOf}
use Rattle.work.specs.Table.{need_of}
use Rattle.matcher.specs.MatchMeaning.{LegalWord}
use Rattle.matcher.specs.Agree.{Agree}
use Rattle.matcher.proofs.Results as match-results
use Rattle.matcher.proofs.Results.{refusals_agree}
use Rattle.judge.specs.JudgeAnswer.{JudgeAnswer}
use Rattle.judge.specs.JudgeComputed.{judge_answer}
use Rattle.judge.specs.JudgeFileComputed.{last_line, last_tree, after_file, judge_file_answer}
use Rattle.judge.specs.JudgeFileMeaning.{JudgeFileMeaning}
use Rattle.judge.proofs.FileLines.{last_in, last_tree_lem, last_line_lem, Comes, refuses, passes, comes}
use Rattle.judge.proofs.Determined as text_judged
use Rattle.judge.proofs.FileAnswered.{answer_means, to_match}

-- ---- demand 3: "at most m × (n+1) × (n+2)", m of the last line
pub count_bound : (file : List ℕ) (w : Word) (limit : ℕ) (old : List ℕ)
    → (judge_file_answer file w limit old).count ≤ (last_line (file_answer file)).m * (length w + 1) * (length w + 2)
unfolding judge_file_answer
count_bound file w limit old = go (file_read file) (comes file)
  where
    go : (x : FileRead) → Comes file x → (after_file x w limit old).count ≤ (last_line (answered x)).m * (length w + 1) * (length w + 2)
    go x (refuses m) = omega arith
    go x (passes ls l p few) = rw (last_line_lem ls l, last_tree_lem (empty 0) ls l) (match-results.count_bound l.tree w limit old)

-- the three clauses of the judge's contract
pub clauses : {file : List ℕ} {w : Word} {limit : ℕ} {old : List ℕ} {a : JudgeAnswer} → a ≡ judge_file_answer file w limit old
    → (a ≡ judge_file_answer file w limit old)
    × (JudgeFileMeaning file w limit old a × (a.count ≤ (last_line (file_answer file)).m * (length w + 1) * (length w + 2)))
clauses {file} {w} {limit} {old} e = (
  e,
  (
    subst (JudgeFileMeaning file w limit old) (sym e) (answer_means file w limit old),
    subst (λ (x : JudgeAnswer). x.count ≤ (last_line (file_answer file)).m * (length w + 1) * (length w + 2)) (sym e)
        (count_bound file w limit old),
  ),
)

-- ---- what the table held
-- the answer and the needed numbers do not depend on what the table held
pub table_unread : (file : List ℕ) (w : Word) (limit : ℕ) (old old' : List ℕ) → length old ≡ length old'
    → Agree (need_of (last_line (file_answer file)).k (length w)) (judge_file_answer file w limit old) (judge_file_answer file w limit old')
unfolding judge_file_answer
table_unread file w limit old old' e = go (file_read file) (comes file)
  where
    go : (x : FileRead) → Comes file x
        → Agree (need_of (last_line (answered x)).k (length w)) (after_file x w limit old) (after_file x w limit old')
    go x (refuses {n = n} {line = line} m) =
        let b = refused_file m in
        refusals_agree _ (verdict.refused n line) old old' b.number (λ h. b.apart (omega arith) (omega arith))
    go x (passes ls l p few) = rw (last_line_lem ls l, last_tree_lem (empty 0) ls l) (match-results.table_unread l.tree w limit old old' e)

-- ---- the limit
-- limits that are not spent make no difference: the count is fixed by file and word alone
pub limit_unread : (file : List ℕ) (w : Word) (limit limit' : ℕ) (old : List ℕ) → (judge_file_answer file w limit old).number ≡ 0
    → (judge_file_answer file w limit' old).number ≡ 0 → judge_file_answer file w limit old ≡ judge_file_answer file w limit' old
unfolding judge_file_answer
limit_unread file w limit limit' old = go (file_read file)
  where
    go : (x : FileRead) → (after_file x w limit old).number ≡ 0 → (after_file x w limit' old).number ≡ 0
        → after_file x w limit old ≡ after_file x w limit' old
    go (refused n line) h k = refl
    go (passed ls) h k = match-results.limit_unread (last_tree ls) w limit limit' old h k

-- 10 comes exactly when the size of the collection is above the limit
pub ten_exactly : (file : List ℕ) (w : Word) (limit : ℕ) (old : List ℕ) (ls : List Line) (l : Line) (c : ℕ) → Passed file (ls ++ l ∷ []) []
    → LegalWord w → need_of (specials l.tree) (length w) ≤ length old → SizeOf (Collection w l.tree) c
    → ((judge_file_answer file w limit old).number ≡ 10) ↔ (limit < c)
ten_exactly file w limit old ls l c p g room z =
    rw (← to_match file w limit old ls l p) (match-results.ten_exactly l.tree w limit old c g room z)

-- ---- 02 b): "The accuracy rule covers each named rule by its replaced text"
-- the last line of a file is judged as the judge judges its replaced text, where that is no longer than a rule text may be
pub as_replaced : (file : List ℕ) (w : Word) (limit : ℕ) (old : List ℕ) (ls : List Line) (l : Line) → Passed file (ls ++ l ∷ []) []
    → length l.text ≤ 255 → judge_file_answer file w limit old ≡ judge_answer l.text w limit old
as_replaced file w limit old ls l p h =
    let r = line_reads p l (last_in ls l) in
    let f = line_fits p l (last_in ls l) in
    let q : rule.Passed l.text l.tree = record {
      legal = record { fits = (start_some l.text (begun r), h); listed = read_listed r };
      reads = r;
      ordered = line_ordered p l (last_in ls l);
      no_double_lem = line_no_double p l (last_in ls l);
      nodes = f.0;
      special = f.1;
    } in
    sym (to_match file w limit old ls l p) ∙ text_judged.to_match l.text w limit old l.tree q
  where
    begun : {u : List ℕ} {t : Tree} → Reads Alt 0 u t → is_start (get_or u 0 0) ≡ true
    begun {u} r = ap (λ (s : List ℕ). is_start (get_or s 0 0)) (sym (append-nil u)) ∙ begins r []
