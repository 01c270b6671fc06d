-- What the rule reader's answer comes to in the judge's. Assumes nothing.
use Prim.Native.Nat.{ℕ}
use mathlib.Core.Path.{◌≡◌, refl, sym, ap, subst, ◌∙◌}
use mathlib.Core.List.{List}
use borrow.Author.Tests.{eq-eqb, ne_eqb}
use Rattle.event.specs.Event.{Word}
use Rattle.expression.specs.Tree.{Tree}
use Rattle.expression.proofs.OneReading.{tree_is}
use Rattle.rule.specs.RuleAnswer.{RuleAnswer, rule_values, refusal_verdict}
use Rattle.rule.specs.RuleComputed.{rule_answer}
use Rattle.rule.specs.RuleMeaning.{RuleMeaning}
use Rattle.std.proofs.Common.{Ok, Err}
use Rattle.expression.specs.declared.records.Records.{Records}
use Rattle.rule.specs.declared.Refusal.{Refusal}
use Rattle.rule.proofs.Answered.{answer_means}
use Rattle.rule.proofs.Rows.{Accepting, accepting, in_row}
use Rattle.verdict.specs.declared.Verdict.{Verdict}
use Rattle.work.proofs.Order.{parts_rising}
use Rattle.owners.specs.Filling.{rule_of}
use Rattle.matcher.specs.MatchAnswer.{told}
use Rattle.matcher.specs.MatchComputed.{match_answer}
use Rattle.matcher.specs.Given.{RuleRecords}
use Rattle.judge.specs.JudgeComputed.{judge_answer}
use Rattle.judge.proofs.ReadRule.{ReadRule, rebuilt, as_records}

module _ (s : List ℕ) (w : Word) (limit : ℕ) (old : List ℕ) where
  -- the reader refused
  pub after_refusal : (why : Refusal) → rule_values (Err why) ≡ rule_answer s → told (refusal_verdict why) old ≡ judge_answer s w limit old
  unfolding judge_answer
  after_refusal why v =
      let i = in_row why in
      ap (λ (v : Verdict). told v old) i.zero ∙ rw (← v) (simp (ne_eqb (refusal_verdict why).number 0 i.number))

  -- the reader accepted, with m, k and 64 records
  module _ (x : Records) (v : rule_values (Ok x) ≡ rule_answer s) where
    read_as : Accepting s (rule_values (Ok x))
    read_as = accepting (subst (RuleMeaning s) (sym v) (answer_means s)) refl

    read_rule_lem : ReadRule read_as.tree x.nodes x.m x.k
    read_rule_lem =
        let a = read_as in
        record {
          front = ap (λ (x : RuleAnswer). x.nodes) a.same;
          long = ap (λ (x : RuleAnswer). x.m) a.same;
          special = ap (λ (x : RuleAnswer). x.k) a.same;
          few_nodes = a.passed.nodes;
          few_special = a.passed.special;
          rising = parts_rising a.passed.reads;
        }

    pub rule_records : RuleRecords (rule_of x) x.nodes x.m x.k
    rule_records = as_records read_rule_lem

    pub after_acceptance : match_answer (rule_of x) w limit old ≡ judge_answer s w limit old
    unfolding judge_answer
    after_acceptance =
        let n : (rule_answer s).number ≡ 0 = ap (λ (x : RuleAnswer). x.number) (sym v) in
        ap (λ (t : Tree). match_answer t w limit old) (rebuilt read_rule_lem ∙ sym (tree_is read_as.passed.reads))
        ∙ simp (eq-eqb (rule_answer s).number 0 n)
