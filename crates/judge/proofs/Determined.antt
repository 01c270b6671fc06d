-- No answer but `judge_answer` means what `JudgeMeaning` asks. Assumes nothing.
use Prim.Native.Nat.{ℕ, ◌≤◌}
use mathlib.Core.Path.{◌≡◌, sym, ap, ◌∙◌}
use mathlib.Core.List.{List}
use lib.ListN.{length}
use borrow.Author.Tests.{eq-eqb, ne_eqb}
use Rattle.event.specs.Event.{Word}
use Rattle.expression.specs.Tree.{Tree, specials}
use Rattle.expression.proofs.OneReading.{tree_is}
use Rattle.rule.specs.RuleAnswer as reader
use Rattle.rule.specs.RuleAnswer.{RuleAnswer}
use Rattle.rule.specs.RuleComputed.{rule_answer}
use Rattle.rule.specs.RuleMeaning.{Passed, RuleMeaning, accepted}
use Rattle.rule.proofs.Answered as rule-answered
use Rattle.rule.proofs.Rows.{refused_number}
use Rattle.work.specs.Table.{need_of}
use Rattle.work.proofs.Order.{parts_rising}
use Rattle.matcher.specs.MatchAnswer.{refusal}
use Rattle.matcher.specs.MatchComputed.{limited, match_answer}
use Rattle.matcher.specs.MatchMeaning.{LegalWord}
use Rattle.matcher.proofs.Determined as match-determined
use Rattle.judge.specs.JudgeAnswer.{JudgeAnswer}
use Rattle.judge.specs.JudgeComputed.{judge_answer}
use Rattle.judge.specs.JudgeMeaning.{JudgeMeaning, rule_refused, rule_passed}

module _ (s : List ℕ) (w : Word) (limit : ℕ) (old : List ℕ) (t : Tree) (p : Passed s t) where
  -- a rule that passed is the one that is computed
  pub to_match : match_answer t w limit old ≡ judge_answer s w limit old
  unfolding judge_answer
  to_match =
      let e = rule-answered.answer_is (accepted p) in
      let n : (rule_answer s).number ≡ 0 = ap (λ (a : RuleAnswer). a.number) (sym e) in
      ap (λ (u : Tree). match_answer u w limit old) (sym (tree_is p.reads)) ∙ simp (eq-eqb (rule_answer s).number 0 n)

  pub to_limit : LegalWord w → need_of (specials t) (length w) ≤ length old → limited t w limit old ≡ judge_answer s w limit old
  to_limit l room = match-determined.to_limit t w limit old l room ∙ to_match

refused : (s : List ℕ) (w : Word) (limit : ℕ) (old : List ℕ) {n p : ℕ} → RuleMeaning s (reader.refusal n p)
    → refusal n p old ≡ judge_answer s w limit old
unfolding judge_answer
refused s w limit old {n} {p} r = rw (← rule-answered.answer_is r) (simp (ne_eqb n 0 (refused_number r)))

pub answer_is : {s : List ℕ} {w : Word} {limit : ℕ} {old : List ℕ} {a : JudgeAnswer} → JudgeMeaning s w limit old a
    → a ≡ judge_answer s w limit old
answer_is {s} {w} {limit} {old} (rule_refused r) = refused s w limit old r
answer_is {s} {w} {limit} {old} (rule_passed {t = t} p m) =
    match-determined.answer_is (parts_rising p.reads) m ∙ to_match s w limit old t p
