-- Sets of states as two numbers. Assumes nothing.
use mathlib.Core.Path.{◌≡◌, refl, sym, ap, ◌∙◌, subst}
use mathlib.Core.Bool.{Bool, true, false, false≢true}
use mathlib.Core.Logic.{◌⊎◌, ◌↔◌, inl, inr, ⊎_elim}
use mathlib.Core.List.{List, [], ◌∷◌}
use Prim.Native.Nat.{ℕ, ◌+◌, ◌-◌, ◌*◌, ◌/◌, ◌%◌, ◌^◌, ◌≤◌, ◌<◌}
use native.Mathlib.Omega.{arith}
use lib.ListN.{length, get_or, get_or-eq_default}
use lib.Dec.{lit<}
use lib.Bits.{bit_and, bit_or, or_add_and, and_le_l, and_le_r}
use Rattle.std.proofs.lemmas.Bool.{cases_lt}
use Rattle.bits.specs.Bit.{has_bit, bit_at}
use Rattle.bits.specs.Runs.{tally_below, Put, Fresh}
use Rattle.bits.proofs.Digits.{zero_has, and_both, and_left, and_right}
use Rattle.bits.proofs.Laws.{word_bit, low_bit, high_bit, by_half, put_adds}
use Rattle.bits.proofs.Packed.{packed_is}
use Rattle.bits.proofs.Tally.{left_less}
use Rattle.levels.specs.Sets.{Disjoint}
use Rattle.levels.specs.Private.{Common}

pub same_bits : (x y : Bool) → (x ≡ true → y ≡ true) → (y ≡ true → x ≡ true) → x ≡ y
same_bits true true f g = refl
same_bits true false f g = sym (f refl)
same_bits false true f g = g refl
same_bits false false f g = refl

-- ---- what two sets have

-- one number of the sets: h is 0 for the first, 1 for the second
module _ (a b r : List ℕ) (h : ℕ) (e : get_or r h 0 ≡ bit_and (get_or a h 0) (get_or b h 0)) (s : ℕ) (l : s < 64) where
  both_at : bit_at a (64 * h + s) ≡ true → bit_at b (64 * h + s) ≡ true → bit_at r (64 * h + s) ≡ true
  both_at x y =
      word_bit r h s l ∙ ap (has_bit s) e
      ∙ and_both s (get_or a h 0) (get_or b h 0) (sym (word_bit a h s l) ∙ x) (sym (word_bit b h s l) ∙ y)

  met : bit_at r (64 * h + s) ≡ true → has_bit s (bit_and (get_or a h 0) (get_or b h 0)) ≡ true
  met x = sym (word_bit r h s l ∙ ap (has_bit s) e) ∙ x

  left_at : bit_at r (64 * h + s) ≡ true → bit_at a (64 * h + s) ≡ true
  left_at x = word_bit a h s l ∙ and_left s (get_or a h 0) (get_or b h 0) (met x)

  right_at : bit_at r (64 * h + s) ≡ true → bit_at b (64 * h + s) ≡ true
  right_at x = word_bit b h s l ∙ and_right s (get_or a h 0) (get_or b h 0) (met x)

-- the same claim at each number
by_words : (P : ℕ → Type 0) → ((h s : ℕ) → (h ≡ 0) ⊎ (h ≡ 1) → s < 64 → P (64 * h + s)) → (s : ℕ) → s < 128 → P s
by_words P f = by_half P (λ s l. let e : 64 * 0 + s ≡ s = omega arith in subst P e (f 0 s (inl refl) l)) (λ s l. f 1 s (inr refl) l)

pub common_law : (a b r : List ℕ) → get_or r 0 0 ≡ bit_and (get_or a 0 0) (get_or b 0 0) → get_or r 1 0 ≡ bit_and (get_or a 1 0) (get_or b 1 0)
    → Common a b r
common_law a b r e f = record {
  both = by_words (λ (s : ℕ). bit_at a s ≡ true → bit_at b s ≡ true → bit_at r s ≡ true) (λ h s i l. both_at a b r h (each h i) s l);
  left = by_words (λ (s : ℕ). bit_at r s ≡ true → bit_at a s ≡ true) (λ h s i l. left_at a b r h (each h i) s l);
  right = by_words (λ (s : ℕ). bit_at r s ≡ true → bit_at b s ≡ true) (λ h s i l. right_at a b r h (each h i) s l);
}
  where
    each : (h : ℕ) → (h ≡ 0) ⊎ (h ≡ 1) → get_or r h 0 ≡ bit_and (get_or a h 0) (get_or b h 0)
    each h (inl i) = rw i e
    each h (inr i) = rw i f

-- two numbers of which there is neither
pub or_zero : (x y : ℕ) → bit_or x y ≡ 0 → (x ≡ 0) × (y ≡ 0)
or_zero x y e = let h = or_add_and x y in let g = and_le_l x y in let k = and_le_r x y in (omega arith, omega arith)

pub no_bit : (b x : ℕ) → x ≡ 0 → has_bit b x ≡ true → ⊥
no_bit b x e d = false≢true (sym (ap (has_bit b) e ∙ zero_has b) ∙ d)

-- ---- a set has no other states

pub in_set : (a : List ℕ) → length a ≡ 2 → (s : ℕ) → bit_at a s ≡ true → s < 128
unfolding bit_at
in_set a l s e =
    ⊎_elim (λ (h : s < 128). h)
    (λ (h : 128 ≤ s).
    let z : get_or a (s / 64) 0 ≡ 0 = get_or-eq_default a 0 (omega arith) in
    absurd (no_bit (s % 64) (get_or a (s / 64) 0) z e))
    (cases_lt s 128)

-- ---- sets of the same numbers

pub same_law : (a r : List ℕ) → get_or r 0 0 ≡ get_or a 0 0 → get_or r 1 0 ≡ get_or a 1 0 → (s : ℕ) → s < 128 → bit_at r s ≡ bit_at a s
same_law a r e f =
    by_half (λ (s : ℕ). bit_at r s ≡ bit_at a s) (λ s l. low_bit r s l ∙ ap (has_bit s) e ∙ sym (low_bit a s l))
    (λ s l. high_bit r s l ∙ ap (has_bit s) f ∙ sym (high_bit a s l))

-- ---- how many states are left

-- what is left of the states shrinks where a missing one is put
pub missing_less : {v d e : List ℕ} {s : ℕ} → Fresh v d s → Put d s e
    → 128 - tally_below 128 (bit_at e) < 128 - tally_below 128 (bit_at d)
missing_less {v} {d} {e} {s} m p = left_less 128 (bit_at d) (bit_at e) s (put_adds p).old m.within m.fresh p.same

-- ---- sets without a common state

-- a 64-bit number without bits is 0
pub zero_number : (a : List ℕ) (w : ℕ) → get_or a w 0 < 2 ^ 64 → ((r : ℕ) → r < 64 → bit_at a (64 * w + r) ≡ true → ⊥) → get_or a w 0 ≡ 0
zero_number a w k e =
    packed_is 64 (get_or a w 0) (λ _. false) k (λ r m. fails (has_bit r (get_or a w 0)) (λ x. e r m (word_bit a w r m ∙ x)))
    ∙ sym (packed_is 64 0 (λ _. false) (lit< tt) (λ r _. zero_has r))
  where
    fails : (x : Bool) → (x ≡ true → ⊥) → x ≡ false
    fails true f = absurd (f refl)
    fails false f = refl

-- a set without states is two zeros
pub zero_set : (a : List ℕ) → get_or a 0 0 < 2 ^ 64 → get_or a 1 0 < 2 ^ 64 → ((s : ℕ) → s < 128 → bit_at a s ≡ true → ⊥)
    → bit_or (get_or a 0 0) (get_or a 1 0) ≡ 0
zero_set a x y none =
    let p = zero_number a 0 x (λ s l. none (64 * 0 + s) (omega arith)) in
    let q = zero_number a 1 y (λ s l. none (64 * 1 + s) (omega arith)) in
    rw (p, q) refl

disjoint_law : {a b r : List ℕ} → Common a b r → (get_or r 0 0 < 2 ^ 64) × (get_or r 1 0 < 2 ^ 64)
    → (bit_or (get_or r 0 0) (get_or r 1 0) ≡ 0) ↔ Disjoint a b
disjoint_law {a} {b} {r} m small = (
  λ e s l x y.
      let z = or_zero (get_or r 0 0) (get_or r 1 0) e in
      by_half (λ (s : ℕ). bit_at r s ≡ true → ⊥)
      (λ s l d. no_bit s (get_or r 0 0) z.0 (sym (low_bit r s l) ∙ d))
      (λ s l d. no_bit s (get_or r 1 0) z.1 (sym (high_bit r s l) ∙ d)) s l (m.both s l x y),
  λ e. zero_set r small.0 small.1 (λ s l d. e s l (m.left s l d) (m.right s l d)),
)

pub meets_law : (a b : List ℕ) → (get_or a 0 0 < 2 ^ 64) × (get_or a 1 0 < 2 ^ 64)
    → (bit_or (bit_and (get_or a 0 0) (get_or b 0 0)) (bit_and (get_or a 1 0) (get_or b 1 0)) ≡ 0) ↔ Disjoint a b
meets_law a b small =
    let l = and_le_l (get_or a 0 0) (get_or b 0 0) in
    let h = and_le_l (get_or a 1 0) (get_or b 1 0) in
    let x = small.0 in
    let y = small.1 in
    disjoint_law (common_law a b (bit_and (get_or a 0 0) (get_or b 0 0) ∷ bit_and (get_or a 1 0) (get_or b 1 0) ∷ []) refl refl) (omega arith, omega arith)

-- two zeros have no state
pub empty_set : (a : List ℕ) → length a ≡ 2 → bit_or (get_or a 0 0) (get_or a 1 0) ≡ 0 → (s : ℕ) → bit_at a s ≡ true → ⊥
empty_set a two e s d =
    let g = or_zero (get_or a 0 0) (get_or a 1 0) e in
    by_half (λ (s : ℕ). bit_at a s ≡ true → ⊥)
    (λ s l d. no_bit s (get_or a 0 0) g.0 (sym (low_bit a s l) ∙ d))
    (λ s l d. no_bit s (get_or a 1 0) g.1 (sym (high_bit a s l) ∙ d)) s (in_set a two s d) d
