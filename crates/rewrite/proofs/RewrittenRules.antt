-- Each rewritable rule has a rewritten text that can stand for it. Assumes nothing.
use Prim.Native.Nat.{ℕ}
use native.Mathlib.Omega.{arith}
use mathlib.Core.Path.{◌≡◌, sym, subst}
use mathlib.Core.Bool.{true}
use mathlib.Core.List.{List}
use mathlib.Core.Logic.{◌↔◌}
use Rattle.expression.specs.Stars.{NoDouble}
use Rattle.expression.specs.Tree.{Tree}
use Rattle.expression.specs.Grammar.{Alt, Reads}
use Rattle.expression.proofs.OneReading.{one_reading}
use Rattle.expression.proofs.Texts.{nonempty}
use Rattle.rule.specs.RuleAnswer.{is_rule_byte}
use Rattle.rule.specs.RuleMeaning.{Legal, Passed, accepted}
use Rattle.rule.proofs.Answered.{answer_is}
use Rattle.rewrite.specs.Rewritten.{rewritten}
use Rattle.rewrite.specs.RewriteMeaning.{Rewritable}
use Rattle.rewrite.specs.RewrittenRule.{RewrittenRule}
use Rattle.rewrite.proofs.StarLaws.{rewritten_length, rewritten_each, rewritten_none, rewritten_ordered}
use Rattle.rewrite.proofs.Rewrites.{Rewrites, rewrites}
use Rattle.rewrite.proofs.Counts.{count_le}
use Rattle.rewrite.proofs.Stays.{obeys_both, obeying_same, table_same}

new_legal : {s : List ℕ} {u : Tree} → Legal s → Reads Alt 0 (rewritten s) u → Legal (rewritten s)
new_legal {s} l r = record {
  fits = (omega (arith, nonempty r), omega (arith, rewritten_length s, l.fits));
  listed = rewritten_each (λ b. is_rule_byte b ≡ true) s l.listed;
}

new_passed : {s : List ℕ} {t : Tree} → Rewritable s t → (x : Rewrites Alt 0 s t) → Passed (rewritten s) x.tree
new_passed {s} p x = record {
  legal = new_legal p.formed.legal x.reads;
  reads = x.reads;
  ordered = rewritten_ordered s p.formed.ordered;
  no_double_lem = rewritten_none s;
  nodes = omega (arith, x.same.nodes, p.nodes);
  special = omega (arith, x.same.special, p.special);
}

pub rewritten_rule : {s : List ℕ} {t : Tree} → Rewritable s t → (u : Tree) × RewrittenRule s t u
rewritten_rule {s} {t} p =
    let x = rewrites p.formed.reads 0 in
    let u = x.tree in
    let q = new_passed p x in (
      u,
      record {
        passed = q;
        answer = sym (answer_is (accepted q));
        same = x.same;
        spans = obeys_both t u x.same.lang;
        lists = obeying_same t u x.same.lang;
        tables = table_same t u x.same;
        counts = count_le t u x.same.lang x.light;
      },
    )

-- and since a text has one reading, this holds of whatever the rewritten text is read as
pub rewritten_rule_as : {s : List ℕ} {t u : Tree} → Rewritable s t → Reads Alt 0 (rewritten s) u → RewrittenRule s t u
rewritten_rule_as {s} {t} p r = let x = rewritten_rule p in subst (RewrittenRule s t) (one_reading x.1.passed.reads r) x.1

-- the rule reader accepts just the rules of the store that have no star directly after a star
pub passed_rewritable : {s : List ℕ} {t : Tree} → Passed s t ↔ (Rewritable s t × NoDouble s)
passed_rewritable = (
  λ p. (record { formed = record { legal = p.legal; reads = p.reads; ordered = p.ordered }; nodes = p.nodes; special = p.special }, p.no_double_lem),
  λ x.
      let p = x.0 in
      record {
        legal = p.formed.legal;
        reads = p.formed.reads;
        ordered = p.formed.ordered;
        no_double_lem = x.1;
        nodes = p.nodes;
        special = p.special;
      },
)
