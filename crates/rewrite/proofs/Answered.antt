-- `rewrite_answer` is the one answer that says what `RewriteMeaning` asks. Assumes nothing.
use Prim.Native.Nat.{ℕ, ◌≤◌, ◌<◌}
use native.Mathlib.Omega.{arith}
use mathlib.Core.Path.{◌≡◌, refl, sym, ap, ap₂, subst, subst₂, ◌∙◌}
use mathlib.Core.List.{List, ◌++◌}
use lib.Dec.{ltb}
use lib.ListN.{length, drop}
use borrow.Author.Tests.{ltb-true, ltb-false, lt-ltb, le-ltb}
use Rattle.event.proofs.Tests.{choose}
use Rattle.expression.specs.Stars.{NoDouble}
use Rattle.expression.specs.Tree.{Tree, size, specials}
use Rattle.verdict.specs.declared.Verdict.{Verdict}
use Rattle.rule.specs.RuleComputed.{Outcome, sentence_outcome, size_outcome, sized, stored_outcome}
use Rattle.rule.specs.RuleMeaning.{WellFormed}
use Rattle.std.proofs.Common.{Ok, Err}
use Rattle.expression.specs.Scan.{counted}
use Rattle.rule.specs.declared.Refusal.TheVariants.{ManyNodes, ManySpecials}
use Rattle.rule.proofs.Answered.{Says, sentence_says, well_formed_is, ill_formed_is}
use Rattle.rule.proofs.Rows.{in_row}
use Rattle.rewrite.specs.Rewritten.{rewritten}
use Rattle.rewrite.specs.RewriteAnswer.{RewriteAnswer, values, refusal, acceptance, told}
use Rattle.rewrite.specs.RewriteComputed.{written, after_checks, rewrite_answer}
use Rattle.rewrite.specs.RewriteMeaning.{Rewritable, RewriteMeaning, ill_formed, many_nodes, many_specials, short_buffer, accepted}
use Rattle.rewrite.proofs.StarLaws.{rewritten_same, squeezed, squeezed_only}

-- ---- the answer means what it says
module _ (s old : List ℕ) where
  written_means : (t : Tree) → Rewritable s t → RewriteMeaning s old (written (rewritten s) old)
  written_means t p =
      choose (RewriteMeaning s old) (ltb (length old) (length (rewritten s))) (λ e. short_buffer p (squeezed s) (ltb-true _ _ e))
      (λ e. accepted p (squeezed s) (ltb-false _ _ e))

  size_means : (t : Tree) → WellFormed s t → RewriteMeaning s old (after_checks (size_outcome (size t) (specials t)) s old)
  size_means t f =
      let Q : Outcome → Type 0 = λ o. RewriteMeaning s old (after_checks o s old) in
      choose Q (ltb 64 (size t)) (λ e. many_nodes f (ltb-true _ _ e))
      (λ e. choose Q (ltb 7 (specials t)) (λ g. many_specials f (ltb-false _ _ e) (ltb-true _ _ g))
      (λ g. written_means t (record { formed = f; nodes = ltb-false _ _ e; special = ltb-false _ _ g })))

  outcome_means : (o : Outcome) → Says s o → RewriteMeaning s old (after_checks (sized o) s old)
  outcome_means (Ok z) w =
      subst₂ (λ (i j : ℕ). RewriteMeaning s old (after_checks (size_outcome i j) s old)) (sym w.nodes) (sym w.special) (size_means w.tree w.formed)
  outcome_means (Err r) w = subst (λ (v : Verdict). RewriteMeaning s old (told v 0 old)) (sym (in_row r).zero) (ill_formed w)

  pub answer_means : RewriteMeaning s old (rewrite_answer s old)
  unfolding rewrite_answer
  answer_means = outcome_means (sentence_outcome s) (sentence_says s)

  -- ---- what the answer is, once the outcome of the checks is known
  pub answer_after : {o : Outcome} → stored_outcome s ≡ o → after_checks o s old ≡ rewrite_answer s old
  unfolding rewrite_answer
  answer_after e = ap (λ (o : Outcome). after_checks o s old) (sym e)

  formed_after : (t : Tree) {o : Outcome} → WellFormed s t → size_outcome (size t) (specials t) ≡ o → after_checks o s old ≡ rewrite_answer s old
  formed_after t f e = answer_after (ap sized (well_formed_is f) ∙ e)

  pub rewritable_after : (t : Tree) → Rewritable s t → written (rewritten s) old ≡ rewrite_answer s old
  rewritable_after t p =
      let e : size_outcome (size t) (specials t) ≡ counted (size t) (specials t)
      = simp (le-ltb 64 (size t) p.nodes, le-ltb 7 (specials t) p.special) in
      formed_after t p.formed e

-- the two ends of `write`
pub too_short : (r old : List ℕ) (n : ℕ) → n ≡ length r → length old < n → refusal 15 0 old ≡ written r old
too_short r old n e h = sym (simp (lt-ltb (length old) (length r) (omega arith)))

pub all_written : (r old out : List ℕ) (n : ℕ) → n ≡ length r → n ≤ length old → out ≡ r ++ drop (length r) old → values 0 0 n out ≡ written r old
all_written r old out n e h f =
    let g : written r old ≡ acceptance r old = simp (le-ltb (length old) (length r) (omega arith)) in
    ap₂ (λ (k : ℕ) (b : List ℕ). values 0 0 k b) e f ∙ sym g

-- ---- no other answer means this
pub answer_is : {s old : List ℕ} {a : RewriteAnswer} → RewriteMeaning s old a → a ≡ rewrite_answer s old
answer_is {s} {old} (ill_formed u) =
    let x = ill_formed_is u in
    ap (λ (v : Verdict). told v 0 old) (sym x.verdict) ∙ answer_after s old (ap sized x.outcome)
answer_is {s} {old} (many_nodes {t = t} f h) = formed_after s old t {o = Err ManyNodes} f (simp (lt-ltb 64 (size t) h))
answer_is {s} {old} (many_specials {t = t} f h g) =
    formed_after s old t {o = Err ManySpecials} f (simp (le-ltb 64 (size t) h, lt-ltb 7 (specials t) g))
answer_is {s} {old} (short_buffer {t = t} {r = r} p q h) =
    too_short r old (length r) refl h ∙ ap (λ (x : List ℕ). written x old) (squeezed_only q) ∙ rewritable_after s old t p
answer_is {s} {old} (accepted {t = t} {r = r} p q h) =
    all_written r old (r ++ drop (length r) old) (length r) refl h refl ∙ ap (λ (x : List ℕ). written x old) (squeezed_only q)
    ∙ rewritable_after s old t p

-- ---- texts that come back as they are: those without a star directly after a star, and so the rewriter's own (`rewritten_idempotent`)
pub unchanged : {s : List ℕ} {t : Tree} (old : List ℕ) → Rewritable s t → NoDouble s → rewrite_answer s old ≡ written s old
unchanged {s} {t} old p d = sym (rewritable_after s old t p) ∙ ap (λ (x : List ℕ). written x old) (rewritten_same s d)

-- ---- what the proofs of the functions cite
pub with_meaning : {s old : List ℕ} {a : RewriteAnswer} → a ≡ rewrite_answer s old → RewriteMeaning s old a
with_meaning {s} {old} e = subst (RewriteMeaning s old) (sym e) (answer_means s old)
