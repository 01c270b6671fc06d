-- What follows of every answer of the judge: the bound of the count, and what the answer does not depend on. Assumes nothing.
use Prim.Native.Nat.{ℕ, ◌+◌, ◌*◌, ◌≤◌, ◌<◌}
use native.Mathlib.Omega.{arith}
use mathlib.Core.Path.{◌≡◌, sym, ap, subst, ◌∙◌}
use mathlib.Core.Logic.{◌↔◌}
use mathlib.Core.List.{List}
use lib.Dec.{eqb}
use lib.ListN.{length}
use borrow.Author.Tests.{eqb-true, eqb-false}
use Rattle.event.specs.Event.{Word}
use Rattle.event.proofs.Tests.{choose}
use Rattle.expression.specs.Tree.{Tree, size, specials}
use Rattle.expression.specs.TreeOf.{tree_of}
use Rattle.expression.proofs.OneReading.{tree_is}
use Rattle.rule.specs.RuleAnswer.{RuleAnswer}
use Rattle.rule.specs.RuleComputed.{rule_answer}
use Rattle.rule.specs.RuleMeaning.{Passed}
use Rattle.rule.proofs.Answered as rule-answered
use Rattle.rule.proofs.Rows.{accepting, row_apart}
use Rattle.verdict.specs.Verdicts.{refused}
use Rattle.work.specs.Walk.{Collection}
use Rattle.work.specs.SizeOf.{SizeOf}
use Rattle.work.specs.Table.{need_of}
use Rattle.matcher.specs.MatchComputed.{acceptance}
use Rattle.matcher.specs.MatchMeaning.{LegalWord}
use Rattle.matcher.specs.Agree.{Agree}
use Rattle.matcher.proofs.Results as match-results
use Rattle.matcher.proofs.Results.{both, refusals_agree}
use Rattle.judge.specs.JudgeAnswer.{JudgeAnswer}
use Rattle.judge.specs.JudgeComputed.{judge_answer}
use Rattle.judge.specs.JudgeMeaning.{JudgeMeaning}
use Rattle.judge.proofs.Answered.{answer_means}
use Rattle.judge.proofs.Determined.{to_match}

-- ---- demand 3: "at most m × (n+1) × (n+2)"
pub count_bound : (s : List ℕ) (w : Word) (limit : ℕ) (old : List ℕ)
    → (judge_answer s w limit old).count ≤ (rule_answer s).m * (length w + 1) * (length w + 2)
unfolding judge_answer
count_bound s w limit old =
    choose (Within (rule_answer s).m) (eqb (rule_answer s).number 0)
    (λ e.
    let a = accepting (rule-answered.answer_means s) (eqb-true _ _ e) in
    let m : (rule_answer s).m ≡ size a.tree = ap (λ (x : RuleAnswer). x.m) a.same in
    rw (m, tree_is a.passed.reads) (match-results.count_bound a.tree w limit old))
    (λ _. omega arith)
  where
    Within : ℕ → JudgeAnswer → Type 0
    Within m a = a.count ≤ m * (length w + 1) * (length w + 2)

-- the three clauses of the judge's contract
pub clauses : {s : List ℕ} {w : Word} {limit : ℕ} {old : List ℕ} {a : JudgeAnswer} → a ≡ judge_answer s w limit old
    → (a ≡ judge_answer s w limit old)
    × (JudgeMeaning s w limit old a × (a.count ≤ (rule_answer s).m * (length w + 1) * (length w + 2)))
clauses {s} {w} {limit} {old} e = (
  e,
  (
    subst (JudgeMeaning s w limit old) (sym e) (answer_means s w limit old),
    subst (λ (x : JudgeAnswer). x.count ≤ (rule_answer s).m * (length w + 1) * (length w + 2)) (sym e) (count_bound s w limit old),
  ),
)

-- ---- what the table held
-- the answer and the needed numbers do not depend on what the table held
pub table_unread : (s : List ℕ) (w : Word) (limit : ℕ) (old old' : List ℕ) → length old ≡ length old'
    → Agree (need_of (specials (tree_of s)) (length w)) (judge_answer s w limit old) (judge_answer s w limit old')
unfolding judge_answer
table_unread s w limit old old' e =
    let n = need_of (specials (tree_of s)) (length w) in
    both (Agree n) (eqb (rule_answer s).number 0) (λ _. match-results.table_unread (tree_of s) w limit old old' e)
    (λ f.
    let m = rule-answered.answer_means s in
    refusals_agree n (refused (rule_answer s).number (rule_answer s).place) old old' (eqb-false _ _ f)
    (λ h. row_apart m (omega arith) (omega arith)))

-- ---- the limit
-- an answer with the number 0 is the accepting one
accepts_as : (s : List ℕ) (w : Word) (limit : ℕ) (old : List ℕ) → (judge_answer s w limit old).number ≡ 0
    → judge_answer s w limit old ≡ acceptance (tree_of s) w old
unfolding judge_answer
accepts_as s w limit old =
    choose As (eqb (rule_answer s).number 0) (λ _. match-results.accepts_as (tree_of s) w limit old) (λ n h. absurd (eqb-false _ _ n h))
  where
    As : JudgeAnswer → Type 0
    As a = a.number ≡ 0 → a ≡ acceptance (tree_of s) w old

-- limits that are not spent make no difference: the count is fixed by rule and word alone
pub limit_unread : (s : List ℕ) (w : Word) (limit limit' : ℕ) (old : List ℕ) → (judge_answer s w limit old).number ≡ 0
    → (judge_answer s w limit' old).number ≡ 0 → judge_answer s w limit old ≡ judge_answer s w limit' old
limit_unread s w limit limit' old h k = accepts_as s w limit old h ∙ sym (accepts_as s w limit' old k)

-- 10 comes exactly when the size of the collection is above the limit
pub ten_exactly : (s : List ℕ) (w : Word) (limit : ℕ) (old : List ℕ) (t : Tree) (c : ℕ) → Passed s t → LegalWord w
    → need_of (specials t) (length w) ≤ length old → SizeOf (Collection w t) c
    → ((judge_answer s w limit old).number ≡ 10) ↔ (limit < c)
ten_exactly s w limit old t c p l room z = rw (← to_match s w limit old t p) (match-results.ten_exactly t w limit old c l room z)
