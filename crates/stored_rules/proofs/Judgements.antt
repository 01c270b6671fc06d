-- The judge answers of a stored rule's rewritten text as of the rule's own reading, but for a count no higher, unless that stops at the
-- limit. Assumes nothing.
use Prim.Native.Nat.{ℕ, ◌≤◌}
use native.Mathlib.Omega.{arith}
use mathlib.Core.Path.{◌≡◌, refl, sym, ap, subst, ◌∙◌}
use mathlib.Core.Bool.{Bool, true, false, cond}
use mathlib.Core.Logic.{◌⊎◌, inl, inr}
use mathlib.Core.List.{List, ◌++◌}
use lib.Dec.{eqb, ltb}
use lib.ListN.{length, drop}
use borrow.Author.Tests.{ltb-true, ltb-false, lt-ltb, le-ltb}
use Rattle.event.specs.Event.{Word}
use Rattle.expression.specs.Tree.{Tree, specials}
use Rattle.work.specs.Count.{full_count}
use Rattle.work.specs.Table.{need_of}
use Rattle.work.specs.TableComputed.{table}
use Rattle.verdict.specs.declared.Verdict.{Verdict}
use Rattle.matcher.specs.MatchAnswer.{told}
use Rattle.matcher.specs.MatchComputed.{spent, acceptance, limited, fit_answer, after_fit, match_answer}
use Rattle.judge.specs.JudgeAnswer.{JudgeAnswer}
use Rattle.judge.specs.JudgeComputed.{judge_answer}
use Rattle.judge.proofs.Determined.{to_match}
use Rattle.rewrite.specs.Rewritten.{rewritten}
use Rattle.rewrite.specs.RewriteMeaning.{Rewritable}
use Rattle.rewrite.specs.Same.{Same}
use Rattle.rewrite.proofs.Stays.{table_same, found_same}
use Rattle.rewrite.proofs.RewrittenRules.{rewritten_rule}
use Rattle.stored_rules.specs.SameJudged.{SameJudged, AcceptedAs}

-- unless the first is a 10
abbrev Unspent : JudgeAnswer → JudgeAnswer → Type 0
Unspent a b = (a.number ≡ 10 → ⊥) → SameJudged a b

same : (a : JudgeAnswer) → Unspent a a
same a n = record { number = refl; place = refl; found = refl; table = refl; count = omega arith }

-- two answers by the same test
tested : (t : Bool) (a b c d : JudgeAnswer) → Unspent a b → Unspent c d → Unspent (cond t a c) (cond t b d)
tested true a b c d p q = p
tested false a b c d p q = q

module _ (w : Word) (limit : ℕ) (old : List ℕ) (t u : Tree) (p : Same t u) (fewer : full_count w u ≤ full_count w t) where
  accepted_same : Unspent (acceptance t w old) (acceptance u w old)
  accepted_same n = record {
    number = refl;
    place = refl;
    found = sym (found_same t u p.lang w);
    table = sym (ap (λ (b : List ℕ). b ++ drop (need_of (specials t) (length w)) old) (table_same t u p w)
        ∙ ap (λ (k : ℕ). table w u ++ drop (need_of k (length w)) old) (sym p.special));
    count = fewer;
  }

  limited_same : Unspent (limited t w limit old) (limited u w limit old)
  limited_same = go (ltb limit (full_count w t)) refl
    where
      go : (b : Bool) → ltb limit (full_count w t) ≡ b → Unspent (limited t w limit old) (limited u w limit old)
      go true e = subst (λ (x : Bool). Unspent (cond x (spent (need_of (specials t) (length w)) limit old) (acceptance t w old)) (limited u w limit old))
          (sym e) (λ n. absurd (n refl))
      go false e =
          let l = ltb-false limit (full_count w t) e in
          let f : ltb limit (full_count w u) ≡ false = le-ltb limit (full_count w u) (omega arith) in
          rw (e, f) accepted_same

  match_same : Unspent (match_answer t w limit old) (match_answer u w limit old)
  unfolding match_answer
  match_same =
      subst (λ (k : ℕ). Unspent (match_answer t w limit old) (after_fit (fit_answer k w old) old (limited u w limit old))) (sym p.special)
      (tested (eqb (fit_answer (specials t) w old).number 0) _ _ (told (fit_answer (specials t) w old) old) _ limited_same
      (same (told (fit_answer (specials t) w old) old)))

  -- whatever the limit: the same answer, or an acceptance
  accepted_as : AcceptedAs t w old (acceptance u w old)
  accepted_as =
      let x = accepted_same (λ e. omega arith) in
      record { accepts = refl; no_place = refl; spans = x.found; blocks = x.table; lower = x.count }

  either_limit : (limited u w limit old ≡ limited t w limit old) ⊎ AcceptedAs t w old (limited u w limit old)
  either_limit = go (ltb limit (full_count w u)) refl
    where
      go : (b : Bool) → ltb limit (full_count w u) ≡ b → (limited u w limit old ≡ limited t w limit old) ⊎ AcceptedAs t w old (limited u w limit old)
      go true e =
          let l = ltb-true limit (full_count w u) e in
          let f : ltb limit (full_count w t) ≡ true = lt-ltb limit (full_count w t) (omega arith) in
          inl (rw (e, f) (ap (λ (k : ℕ). spent (need_of k (length w)) limit old) p.special))
      go false e = inr (rw e accepted_as)

  either : (v : Verdict) → (after_fit v old (limited u w limit old) ≡ after_fit v old (limited t w limit old))
      ⊎ AcceptedAs t w old (after_fit v old (limited u w limit old))
  either v = go (eqb v.number 0)
    where
      go : (b : Bool) → (cond b (limited u w limit old) (told v old) ≡ cond b (limited t w limit old) (told v old))
          ⊎ AcceptedAs t w old (cond b (limited u w limit old) (told v old))
      go true = either_limit
      go false = inl refl

  match_either : (match_answer u w limit old ≡ match_answer t w limit old) ⊎ AcceptedAs t w old (match_answer u w limit old)
  unfolding match_answer
  match_either =
      subst (λ (k : ℕ). (after_fit (fit_answer k w old) old (limited u w limit old) ≡ match_answer t w limit old)
      ⊎ AcceptedAs t w old (after_fit (fit_answer k w old) old (limited u w limit old))) (sym p.special) (either (fit_answer (specials t) w old))

-- `match_answer t` is what the judge answers of a rule that passes its row and is read as t; of a rule that 21 refuses it is the answer that
-- the rule would have without that number
pub same_judged : (s : List ℕ) (t : Tree) → Rewritable s t → (w : Word) (limit : ℕ) (old : List ℕ) → ((match_answer t w limit old).number ≡ 10 → ⊥)
    → SameJudged (match_answer t w limit old) (judge_answer (rewritten s) w limit old)
same_judged s t p w limit old n =
    let (u, c) = rewritten_rule p in
    subst (λ (a : JudgeAnswer). SameJudged (match_answer t w limit old) a) (to_match (rewritten s) w limit old u c.passed)
    (match_same w limit old t u c.same (c.counts w) n)

-- and so where it stops at the limit: the answer is the same, or, the count being lower, an acceptance with the rule's own spans
pub same_or_accepted : (s : List ℕ) (t : Tree) → Rewritable s t → (w : Word) (limit : ℕ) (old : List ℕ)
    → (judge_answer (rewritten s) w limit old ≡ match_answer t w limit old) ⊎ AcceptedAs t w old (judge_answer (rewritten s) w limit old)
same_or_accepted s t p w limit old =
    let (u, c) = rewritten_rule p in
    subst (λ (a : JudgeAnswer). (a ≡ match_answer t w limit old) ⊎ AcceptedAs t w old a) (to_match (rewritten s) w limit old u c.passed)
    (match_either w limit old t u c.same (c.counts w))
