-- Laws of `judged`: what each refusal of a line's rule, and its reading, come to. Assumes nothing.
use Prim.Native.Nat.{ℕ, ◌≤◌, ◌<◌}
use native.Mathlib.Omega.{arith}
use mathlib.Core.Path.{◌≡◌, refl, sym, ap, ap₂, ◌∙◌}
use mathlib.Core.Bool.{Bool, true, false, cond, ◌&&◌}
use mathlib.Core.List.{List}
use lib.Dec.{ltb}
use lib.ListN.{length, get_or}
use borrow.Author.Tests.{ltb-true, ltb-false, eq-eqb, ne_eqb, lt-ltb, le-ltb}
use Rattle.event.specs.Leading.{leading}
use Rattle.event.proofs.LeadingLaws.{leading_found, leading_is}
use Rattle.event.proofs.Tests.{choose}
use Rattle.expression.specs.Tree.{Tree, size, specials}
use Rattle.expression.specs.Scan.{is_sentence}
use Rattle.expression.specs.TreeOf.{tree_of}
use Rattle.expression.specs.Unordered.{Unordered, Ordered}
use Rattle.expression.specs.OrderComputed.{unordered_at}
use Rattle.expression.specs.Stars.{Double, NoDouble}
use Rattle.expression.specs.StarsComputed.{double_at}
use Rattle.expression.proofs.OneReading.{tree_is}
use Rattle.expression.proofs.UnorderedLaws.{ordered_all, ordered_is}
use Rattle.expression.proofs.DoubleLaws.{no_double_lem, none_is}
use Rattle.rule.specs.RuleMeaning.{FitsLength}
use Rattle.replacement.specs.Replaced.{Replaced, ends, byte, name, Formed}
use Rattle.replacement.specs.Pieces.{pieces_from, pieces, shape}
use Rattle.replacement.proofs.PieceLaws.{of_byte, of_name}
use Rattle.replacement.proofs.ShapeLaws.{own_byte, shape_tells, is_sentence_lem, sentence_is, formed_shape, shape_formed}
use Rattle.replacement.proofs.Grafted.{filled_is}
use Rattle.rule_line.specs.Lines.{Line}
use Rattle.rule_line.specs.LineMeaning.{StandsFor, HasName, is_written, LegalText, Uses, ReadsAs}
use Rattle.rule_line.specs.LineComputed.{text_of, knows, Judged, bad, good, sized, ordered, no_double, replaced_by, judged}
use Rattle.rule_line.specs.Keeping.{Sound}
use Rattle.rule_line.proofs.LineNames.{unlike, has_name, stands_has, lacks, stands_is, stands_sentence}
use Rattle.rule_line.proofs.UsesLaws.{used_unknown}

pub legal : (s : List ℕ) → FitsLength s → length s ≤ leading is_written s → LegalText s
legal s f h = let x = leading_found is_written s in record { fits = f; listed = λ i l. x.before i (omega arith) }

replaced_knows : (ls : List Line) {s u : List ℕ} → Replaced (StandsFor ls) s u → knows ls (pieces s) ≡ true
unfolding knows pieces_from
replaced_knows ls ends = refl
replaced_knows ls (byte {b = b} {s = s} e r) = ap (knows ls) (of_byte b s (own_byte b e)) ∙ replaced_knows ls r
replaced_knows ls (name {n = n} {s = s} a w r) =
    ap (knows ls) (of_name n s a) ∙ ap₂ (λ (x y : Bool). x && y) (has_name ls n (stands_has w)) (replaced_knows ls r)

-- nothing is out of order; no star stands directly after a star
pub in_order : (s : List ℕ) → length s ≤ unordered_at s → {j : Judged} → ordered s j ≡ j
in_order s h = rw (le-ltb (unordered_at s) (length s) h)

pub all_no_double : (s : List ℕ) → length s ≤ double_at s → {j : Judged} → no_double s j ≡ j
all_no_double s h = rw (le-ltb (double_at s) (length s) h)

module _ (ls : List Line) (s : List ℕ) where
  past_lengths : FitsLength s → {x : Judged} → (cond (ltb (leading is_written s) (length s)) (bad 3)
      (cond (is_sentence (shape s)) (cond (knows ls (pieces s)) (ordered s (no_double s (sized (replaced_by ls s) (tree_of (replaced_by ls s))))) (bad 17)) (bad 4))) ≡ x
      → judged ls s ≡ x
  unfolding judged
  past_lengths f e =
      let n : length s ≡ 0 → ⊥ = λ e. omega arith in
      rw (ne_eqb (length s) 0 n, le-ltb 255 (length s) f.1) e

  pub past_bytes : LegalText s → {x : Judged} → (cond (is_sentence (shape s)) (cond (knows ls (pieces s)) (ordered s (no_double s (sized (replaced_by ls s) (tree_of (replaced_by ls s))))) (bad 17))
      (bad 4)) ≡ x → judged ls s ≡ x
  past_bytes l e =
      let f = leading_is is_written s (length s) (record { within = omega arith; before = l.listed; there = λ h. absurd (omega arith) }) in
      past_lengths l.fits (rw (le-ltb (leading is_written s) (length s) (omega arith)) e)

  pub judged_empty : length s ≡ 0 → judged ls s ≡ bad 1
  unfolding judged
  judged_empty e = rw (eq-eqb (length s) 0 e)

  pub judged_long : 255 < length s → judged ls s ≡ bad 2
  unfolding judged
  judged_long h =
      let n : length s ≡ 0 → ⊥ = λ e. omega arith in
      rw (ne_eqb (length s) 0 n, lt-ltb 255 (length s) h)

  pub judged_foreign : {i : ℕ} → FitsLength s → i < length s → is_written (get_or s i 0) ≡ false → judged ls s ≡ bad 3
  judged_foreign {i} f h e = past_lengths f (rw (lt-ltb (leading is_written s) (length s) (early (leading is_written s) (leading_found is_written s).before)))
    where
      early : (k : ℕ) → ((j : ℕ) → j < k → is_written (get_or s j 0) ≡ true) → k < length s
      early k b = go (ltb i k) refl
        where
          go : (t : Bool) → ltb i k ≡ t → k < length s
          go true x = absurd (unlike (b i (ltb-true i k x)) e)
          go false x = omega (arith, ltb-false i k x)

  pub judged_broken : LegalText s → (Formed s → ⊥) → judged ls s ≡ bad 4
  judged_broken l h = past_bytes l (choose (λ (x : Judged). x ≡ bad 4) (is_sentence (shape s))
      (λ e. absurd (h (shape_formed s (sentence_is (shape s) e)))) (λ e. refl))

  pub judged_unknown : {x : List ℕ} → LegalText s → Formed s → Uses s x → (HasName ls x → ⊥) → judged ls s ≡ bad 17
  judged_unknown {x} l f u h =
      past_bytes l (rw (
        is_sentence_lem (formed_shape f),
        used_unknown ls f.replaced u.before x u.after u.name u.whole (lacks ls x h),
      ))

  read_judged : {u : List ℕ} {t : Tree} → Sound ls → ReadsAs ls s u t → judged ls s ≡ ordered s (no_double s (sized u t))
  read_judged {u} {t} d r =
      let e = filled_is (text_of ls) (stands_is d) r.replaced in
      let y = sym (shape_tells (stands_sentence d) r.replaced) ∙ is_sentence_lem (t, r.reads) in
      past_bytes r.legal (rw (y, replaced_knows ls r.replaced)
      (ap (λ (j : Judged). ordered s (no_double s j)) (ap₂ sized (sym e) (ap tree_of (sym e) ∙ tree_is r.reads))))

  pub judged_unordered : {u : List ℕ} {t : Tree} {i : ℕ} → Sound ls → ReadsAs ls s u t → Unordered s i → judged ls s ≡ bad 20
  judged_unordered {i = i} d r x = read_judged d r ∙ choose (λ (j : Judged). j ≡ bad 20) (ltb (unordered_at s) (length s)) (λ e. refl)
      (λ e. absurd (ordered_all s (ltb-false _ _ e) i x))

  pub judged_double : {u : List ℕ} {t : Tree} (i : ℕ) → Sound ls → ReadsAs ls s u t → Ordered s → Double s i → judged ls s ≡ bad 21
  judged_double i d r o x = read_judged d r ∙ in_order s (ordered_is o)
      ∙ choose (λ (j : Judged). j ≡ bad 21) (ltb (double_at s) (length s)) (λ e. refl) (λ e. absurd (no_double_lem s (ltb-false _ _ e) i x))

  pub judged_reads : {u : List ℕ} {t : Tree} → Sound ls → ReadsAs ls s u t → Ordered s → NoDouble s → judged ls s ≡ sized u t
  judged_reads d r o x = read_judged d r ∙ in_order s (ordered_is o) ∙ all_no_double s (none_is s x)

pub sized_good : (u : List ℕ) (t : Tree) → size t ≤ 64 → specials t ≤ 7 → sized u t ≡ good u t
sized_good u t h g = rw (le-ltb 64 (size t) h, le-ltb 7 (specials t) g)
