-- The letters inside brackets rise in a replaced text, if they do in the written text and in what its names stand for. Assumes nothing.
use Prim.Native.Nat.{ℕ, zero, suc}
use native.Mathlib.Omega.{arith}
use mathlib.Core.Path.{◌≡◌, refl, subst}
use mathlib.Core.Bool.{false, and-false}
use mathlib.Core.List.{List, [], ◌∷◌, ◌++◌}
use lib.Dec.{T, eqb, leb, leb→le}
use borrow.Author.Tests.{ne_eqb}
use Rattle.event.specs.Event.{is_event}
use Rattle.event.specs.Letters.{is_reserved}
use Rattle.event.proofs.EventLaws.{reserved_foreign}
use Rattle.event.proofs.Tests.{and_split}
use Rattle.expression.specs.Unordered.{Ordered}
use Rattle.expression.specs.OrderComputed.{noted}
use Rattle.expression.specs.declared.Noted.{Noted}
use Rattle.expression.specs.declared.Noted.TheVariants.{Outside}
use Rattle.expression.proofs.UnorderedLaws.{FallsAt, Rising, rising_ordered, ordered_rising, rises_on, rises_with}
use Rattle.replacement.specs.Replaced.{is_lower, Lowers, Replaced, ends, byte, name}

-- ---- signs
-- a reserved byte that is no `[`: it falls nowhere, and nothing is noted of it
module _ (c : ℕ) (r : T (is_reserved c)) (n : eqb c 91 ≡ false) where
  nothing_noted : (q : Noted) → noted q c ≡ Outside
  nothing_noted q = rw (n, reserved_foreign c r)

  sign_on : (q : Noted) (s : List ℕ) → Rising q (c ∷ s) → Rising Outside s
  sign_on q s h = subst (λ (k : Noted). Rising k s) (nothing_noted q) (rises_on q c s h)

  sign_with : (q : Noted) (s : List ℕ) → Rising Outside s → Rising q (c ∷ s)
  unfolding FallsAt
  sign_with q s h zero x = rw (reserved_foreign c r) at x
  sign_with q s h (suc i) x = h i (subst (λ (k : Noted). FallsAt k s i) (nothing_noted q) x)

-- ---- a name, and the text that it stands for
no_bracket : (b : ℕ) → T (is_lower b) → eqb b 91 ≡ false
unfolding is_lower
no_bracket b h = ne_eqb b 91 (λ e. omega (arith, leb→le 97 b (and_split (leb 97 b) (leb b 122) h).0))

letter_noted : (b : ℕ) → T (is_lower b) → noted Outside b ≡ Outside
letter_noted b h = rw (no_bracket b h, and-false (is_event b))

past_name : (n s : List ℕ) → Lowers n → Rising Outside (n ++ s) → Rising Outside s
past_name [] s l h = h
past_name (b ∷ n) s l h = past_name n s l.1 (subst (λ (k : Noted). Rising k (n ++ s)) (letter_noted b l.0) (rises_on Outside b (n ++ s) h))

rises_then : (v : List ℕ) (q : Noted) (y : List ℕ) → Rising q v → ((k : Noted) → Rising k y) → Rising q (v ++ y)
rises_then [] q y h g = g q
rises_then (b ∷ v) q y h g = rises_with q b v (v ++ y) h (rises_then v (noted q b) y (rises_on q b v h) g)

module _ {R : List ℕ → List ℕ → Type 0} (named : (n v : List ℕ) → R n v → Ordered v) where
  rises : {s u : List ℕ} → Replaced R s u → (q : Noted) → Rising q s → Rising q u
  rises ends q h = h
  rises (byte {b = b} {s = s} {u = u} e r) q h = rises_with q b s u h (rises r (noted q b) (rises_on q b s h))
  rises (name {n = n} {v = v} {s = s} {u = u} a w r) q h =
      let l = past_name n (62 ∷ s) a.letters (sign_on 60 tt refl q (n ++ 62 ∷ s) h) in
      let t = rises r Outside (sign_on 62 tt refl Outside s l) in
      sign_with 40 tt refl q (v ++ 41 ∷ u) (rises_then v Outside (41 ∷ u) (ordered_rising (named n v w)) (λ k. sign_with 41 tt refl k u t))

  pub replaced_ordered : {s u : List ℕ} → Replaced R s u → Ordered s → Ordered u
  replaced_ordered r o = rising_ordered (rises r Outside (ordered_rising o))
