-- Laws of one line: how its digits are counted, and the tests of its form. Assumes nothing.
use Prim.Native.Nat.{ℕ, suc, ◌+◌, ◌-◌, ◌≤◌, ◌<◌}
use native.Mathlib.Omega.{arith}
use native.Mathlib.Decide.{dec_lt}
use mathlib.Core.Path.{◌≡◌, refl, sym, ap, ap₂, subst, ◌∙◌}
use mathlib.Core.Logic.{◌⊎◌, inl, inr}
use Rattle.std.specs.Prelude.{Some, None}
use mathlib.Core.List.{List, [], ◌∷◌}
use mathlib.Core.Bool.{Bool, true, false, not, ◌&&◌}
use lib.Dec.{T, leb, eqb, leb→le, eqb→eq}
use borrow.Author.Tests.{eq-eqb, ne_eqb, not-false}
use lib.ListN.{length, get_or, take, drop, length-take, length-drop, get_or-eq_default}
use Rattle.event.proofs.Tests.{and_split, or_split, T_of}
use Rattle.event.proofs.LeadingLaws.{leading_prefix, leading_found, leading_pass, leading_stop}
use Rattle.event.proofs.Tails.{tail, tail_is}
use Rattle.decimal.specs.Numeral.{is_digit, AllDigits, value_of}
use Rattle.day.specs.DayLines.{digit_count, is_second, is_line, line, line_with, line_of}

-- ---- the tests of a line, as the code makes them one after another
-- the byte x that was read is tested for b
pub passes : {x : ℕ} (y b : ℕ) → x ≡ y → x ≡ b → eqb y b ≡ true
passes y b e h = eq-eqb y b (sym e ∙ h)

pub fails : {x : ℕ} (y b : ℕ) → x ≡ y → (x ≡ b → ⊥) → eqb y b ≡ false
fails y b e h = ne_eqb y b (λ g. h (e ∙ g))

-- a test of the byte x, or of it and a number d
pub tested : {x y : ℕ} {r u : Bool} (f : ℕ → Bool) → x ≡ y → r ≡ f x → r ≡ u → f y ≡ u
tested f e h g = sym (ap f e) ∙ sym h ∙ g

-- a byte that is not 0 is there
pub inside : (s : List ℕ) (i b : ℕ) → get_or s i 0 ≡ suc b → i < length s
inside s i b e = go (dec_lt i (length s))
  where
    go : Dec (i < length s) → i < length s
    go (yes h) = h
    go (no h) = let z = get_or-eq_default s 0 {n = i} (omega arith) in absurd (omega arith)

pub counted_digits : (s : List ℕ) → AllDigits (take (digit_count s) s)
counted_digits [] = rw (leading_prefix is_digit []) tt
counted_digits (b ∷ s) = go (is_digit b) refl (counted_digits s)
  where
    go : (t : Bool) → is_digit b ≡ t → AllDigits (take (digit_count s) s) → AllDigits (take (digit_count (b ∷ s)) (b ∷ s))
    go true e a = rw (leading_pass is_digit b s e) (T_of (is_digit b) e, a)
    go false e a = rw (leading_stop is_digit b s e) tt

-- so many digits as a second can have; a leading 0 stands alone
pub second_is : (d b : ℕ) → T (is_second d b) → (1 ≤ d) × (d ≤ 5) × (b ≡ 48 → d ≡ 1)
second_is d b h = go (or_split (eqb d 1) (not (eqb b 48) && leb 1 d && leb d 5) h)
  where
    go : T (eqb d 1) ⊎ T (not (eqb b 48) && leb 1 d && leb d 5) → (1 ≤ d) × (d ≤ 5) × (b ≡ 48 → d ≡ 1)
    go (inl g) = let q = eqb→eq d 1 g in (omega arith, omega arith, λ e. q)
    go (inr g) =
        let p = and_split (not (eqb b 48) && leb 1 d) (leb d 5) g in
        let q = and_split (not (eqb b 48)) (leb 1 d) p.0 in
        (leb→le 1 d q.1, leb→le d 5 p.1, λ e. absurd (subst (λ (t : Bool). T (not t)) (eq-eqb b 48 e) q.0))

pub second_few : (d b : ℕ) {r : Bool} → r ≡ is_second d b → not r ≡ false → d ≤ 5
second_few d b {r} e n = (second_is d b (T_of (is_second d b) (sym e ∙ not-false r n))).1

module _ (s : List ℕ) (d : ℕ) (counted : d ≡ digit_count (tail 2 s)) where
  pub count_is : d ≡ digit_count (drop 2 s)
  count_is = counted ∙ ap digit_count (tail_is 2 s)

  -- a test that fails
  pub not_line : is_line d s ≡ false → None ≡ line_of s
  unfolding line_of
  not_line f = subst (λ (k : ℕ). None ≡ line_with k s) count_is (rw f)

  -- all tests passed
  pub is_line_lem : (x b : ℕ) → x ≡ value_of (take (d + 2 - 2) (drop 2 s)) → b ≡ get_or s (d + 2 + 1) 0 → is_line d s ≡ true
      → Some (line x b (d + 2 + 3)) ≡ line_of s
  unfolding line_of
  is_line_lem x b v l t =
      let n : d + 2 - 2 ≡ d = omega arith in
      let w : x ≡ value_of (take d (drop 2 s)) = v ∙ ap (λ (k : ℕ). value_of (take k (drop 2 s))) n in
      subst (λ (k : ℕ). Some (line x b (d + 2 + 3)) ≡ line_with k s) count_is (rw t (ap₂ (λ (y c : ℕ). Some (line y c (d + 2 + 3))) w l))

  pub count_fits : 2 ≤ length s → d + 2 ≤ length s
  count_fits h = let w = (leading_found is_digit (drop 2 s)).within in omega (arith, count_is, length-drop 2 s)

  pub digits_part : d ≤ 5 → (length (take (d + 2 - 2) (drop 2 s)) ≤ 5) × AllDigits (take (d + 2 - 2) (drop 2 s))
  digits_part h =
      let n : digit_count (drop 2 s) ≡ d + 2 - 2 = omega (arith, count_is) in
      (omega (arith, length-take (d + 2 - 2) (drop 2 s)), subst (λ (k : ℕ). AllDigits (take k (drop 2 s))) n (counted_digits (drop 2 s)))
