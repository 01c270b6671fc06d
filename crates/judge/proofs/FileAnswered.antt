-- The judge's answer on a rule file means what it says, by the grammar, the language and the collection, and no other answer does.
-- Assumes nothing.
use Prim.Native.Nat.{ℕ}
use native.Mathlib.Omega.{arith}
use mathlib.Core.Path.{◌≡◌, sym, ap, ap₂, subst, ◌∙◌}
use mathlib.Core.List.{List, [], ◌∷◌, ◌++◌}
use lib.ListN.{length-append}
use Rattle.event.specs.Event.{Word}
use Rattle.expression.specs.Tree.{Tree, empty}
use Rattle.rule_line.specs.Lines.{Line}
use Rattle.rule_file.specs.FileAnswer.{FileAnswer}
use Rattle.rule_file.specs.FileMeaning.{Passed}
use Rattle.rule_file.specs.FileComputed.{FileRead, file_read, answered, file_answer}
use Rattle.rule_file.proofs.FileAnswered as file-answered
use Rattle.rule_file.proofs.FileRows.{refused_file}
use Rattle.matcher.specs.MatchAnswer.{refusal}
use Rattle.matcher.specs.MatchComputed.{match_answer}
use Rattle.matcher.proofs.Answered as match-answered
use Rattle.matcher.proofs.Determined as match-determined
use Rattle.judge.specs.JudgeAnswer.{JudgeAnswer}
use Rattle.judge.specs.JudgeFileComputed.{after_file, judge_file_answer}
use Rattle.judge.specs.JudgeFileMeaning.{JudgeFileMeaning, file_refused, last_judged}
use Rattle.judge.proofs.FileLines.{line_rising, last_in, last_tree_lem, Comes, refuses, passes, comes}

module _ (file : List ℕ) (w : Word) (limit : ℕ) (old : List ℕ) where
  pub answer_means : JudgeFileMeaning file w limit old (judge_file_answer file w limit old)
  unfolding judge_file_answer
  answer_means = go (file_read file) (comes file)
    where
      go : (x : FileRead) → Comes file x → JudgeFileMeaning file w limit old (after_file x w limit old)
      go x (refuses m) = file_refused m
      go x (passes ls l p few) =
          subst (λ (t : Tree). JudgeFileMeaning file w limit old (match_answer t w limit old)) (sym (last_tree_lem (empty 0) ls l))
          (last_judged ls l p (match-answered.answer_means l.tree (line_rising p l (last_in ls l)) w limit old))

  -- a refusal by number and line is the one that is computed
  pub to_refusal : {n line : ℕ} → (n ≡ 0 → ⊥) → n ≡ (file_answer file).number → line ≡ (file_answer file).place
      → refusal n line old ≡ judge_file_answer file w limit old
  unfolding judge_file_answer
  to_refusal {n} {line} f = go (file_read file) (comes file)
    where
      go : (x : FileRead) → Comes file x → n ≡ (answered x).number → line ≡ (answered x).place
          → refusal n line old ≡ after_file x w limit old
      go x (refuses m) e p = ap₂ (λ (i j : ℕ). refusal i j old) e p
      go x (passes ls l q few) e p = absurd (f e)

  -- a last line that passed is the one that is computed
  pub to_match : (ls : List Line) (l : Line) → Passed file (ls ++ l ∷ []) []
      → match_answer l.tree w limit old ≡ judge_file_answer file w limit old
  unfolding judge_file_answer
  to_match ls l p =
      ap (λ (t : Tree). match_answer t w limit old) (sym (last_tree_lem (empty 0) ls l))
      ∙ ap (λ (x : FileRead). after_file x w limit old) (sym (file-answered.passed_is p (omega (arith, length-append ls (l ∷ [])))))

pub answer_is : {file : List ℕ} {w : Word} {limit : ℕ} {old : List ℕ} {a : JudgeAnswer} → JudgeFileMeaning file w limit old a
    → a ≡ judge_file_answer file w limit old
answer_is {file} {w} {limit} {old} (file_refused m) =
    let e = file-answered.answer_is m in
    to_refusal file w limit old (refused_file m).number (ap (λ (a : FileAnswer). a.number) e) (ap (λ (a : FileAnswer). a.place) e)
answer_is {file} {w} {limit} {old} (last_judged ls l p m) =
    match-determined.answer_is (line_rising p l (last_in ls l)) m ∙ to_match file w limit old ls l p
