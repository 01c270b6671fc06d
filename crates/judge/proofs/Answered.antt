-- The judge's answer means what it says, by the grammar, the language and the collection. Assumes nothing.
use Prim.Native.Nat.{ℕ}
use mathlib.Core.Path.{sym, subst}
use mathlib.Core.List.{List}
use lib.Dec.{eqb}
use borrow.Author.Tests.{eqb-true, eqb-false}
use Rattle.event.specs.Event.{Word}
use Rattle.event.proofs.Tests.{choose}
use Rattle.expression.specs.Tree.{Tree}
use Rattle.expression.proofs.OneReading.{tree_is}
use Rattle.rule.specs.RuleComputed.{rule_answer}
use Rattle.rule.specs.RuleMeaning.{RuleMeaning}
use Rattle.rule.proofs.Answered as rule-answered
use Rattle.rule.proofs.Rows.{accepting, refusing}
use Rattle.work.proofs.Order.{parts_rising}
use Rattle.matcher.specs.MatchComputed.{match_answer}
use Rattle.matcher.proofs.Answered as match-answered
use Rattle.judge.specs.JudgeComputed.{judge_answer}
use Rattle.judge.specs.JudgeMeaning.{JudgeMeaning, rule_refused, rule_passed}

pub answer_means : (s : List ℕ) (w : Word) (limit : ℕ) (old : List ℕ) → JudgeMeaning s w limit old (judge_answer s w limit old)
unfolding judge_answer
answer_means s w limit old =
    choose (JudgeMeaning s w limit old) (eqb (rule_answer s).number 0)
    (λ e.
    let a = accepting (rule-answered.answer_means s) (eqb-true _ _ e) in
    let r = a.passed.reads in
    subst (λ (t : Tree). JudgeMeaning s w limit old (match_answer t w limit old)) (sym (tree_is r))
    (rule_passed a.passed (match-answered.answer_means a.tree (parts_rising r) w limit old)))
    (λ e.
    rule_refused (subst (RuleMeaning s) (refusing (rule-answered.answer_means s) (eqb-false _ _ e)) (rule-answered.answer_means s)))
