-- The bits of a number: of joined, met and differing numbers, of powers of two, and the lowest one that is set. Assumes nothing.
use mathlib.Core.Path.{◌≡◌, refl}
use mathlib.Core.Bool.{Bool, true, false, not, ◌&&◌, ◌||◌, xor}
use mathlib.Core.Logic.{◌⊎◌, inl, inr}
use Prim.Native.Nat.{ℕ, ◌-◌, ◌^◌, ◌≤◌, ◌<◌}
use native.Mathlib.Omega.{arith}
use lib.Bits.{bit_or, bit_and, and_lt, bit_xor}
use lib.Dec.{eqb, ltb}
use mir.Syntax.{w64}
use borrow.Author.Tests.{eqb-true, eqb-false, ltb-true, ltb-false}
use Rattle.std.specs.Int.{bit_not, trailing_zeros}
use Rattle.std.proofs.lemmas.Bool.Decides.{nat_tests}
use Rattle.std.proofs.lemmas.Nat.Bits.{bit_at-zero, bit_at-lt, bit_at_and, bit_at_or, bit_at_xor, bit_at_not, bit_at-trailing_zeros, bit_at-pow_same, bit_at-pow_other, bit_at_ones, bit_at_ones_above}
use Rattle.bits.specs.Bit.{has_bit}
use Rattle.bits.specs.Runs.{NoneLacks, Lowest}

-- ---- two numbers: which is below, or whether they are the same

by_test : (a b : ℕ) (t : Bool) → ltb a b ≡ t → (a < b) ⊎ (b ≤ a)
by_test a b true e = inl (ltb-true a b e)
by_test a b false e = inr (ltb-false a b e)

pub below_or_not : (a b : ℕ) → (a < b) ⊎ (b ≤ a)
below_or_not a b = by_test a b (ltb a b) refl

by_same : (a b : ℕ) (t : Bool) → eqb a b ≡ t → (a ≡ b) ⊎ (a ≡ b → ⊥)
by_same a b true e = inl (eqb-true a b e)
by_same a b false e = inr (eqb-false a b e)

pub same_or_not : (a b : ℕ) → (a ≡ b) ⊎ (a ≡ b → ⊥)
same_or_not a b = by_same a b (eqb a b) refl

-- ---- or, and, xor

pub zero_has : (b : ℕ) → has_bit b 0 ≡ false
unfolding has_bit
zero_has b = grind (arith, nat_tests, bit_at-zero b)

pub has_or : (b x y : ℕ) → has_bit b (bit_or x y) ≡ (has_bit b x || has_bit b y)
unfolding has_bit
has_or b x y = grind (arith, nat_tests, bit_at_or x y b, bit_at-lt x b, bit_at-lt y b)

pub has_and : (b x y : ℕ) → has_bit b (bit_and x y) ≡ (has_bit b x && has_bit b y)
unfolding has_bit
has_and b x y = grind (arith, nat_tests, bit_at_and x y b, bit_at-lt x b, bit_at-lt y b)

pub and_both : (b x y : ℕ) → has_bit b x ≡ true → has_bit b y ≡ true → has_bit b (bit_and x y) ≡ true
and_both b x y e f = grind (arith, has_and b x y)

pub and_left : (b x y : ℕ) → has_bit b (bit_and x y) ≡ true → has_bit b x ≡ true
and_left b x y e = grind (arith, has_and b x y)

pub and_right : (b x y : ℕ) → has_bit b (bit_and x y) ≡ true → has_bit b y ≡ true
and_right b x y e = grind (arith, has_and b x y)

pub has_xor : (b x y : ℕ) → has_bit b (bit_xor x y) ≡ xor (has_bit b x) (has_bit b y)
unfolding has_bit xor
has_xor b x y = grind (arith, nat_tests, bit_at_xor x y b, bit_at-lt x b, bit_at-lt y b)

-- ---- powers of two

pub power_has : (b : ℕ) → has_bit b (2 ^ b) ≡ true
unfolding has_bit
power_has b = grind (arith, nat_tests, bit_at-pow_same b)

pub power_lacks : (b c : ℕ) → (c ≡ b → ⊥) → has_bit c (2 ^ b) ≡ false
unfolding has_bit
power_lacks b c ne = grind (arith, nat_tests, bit_at-pow_other b c ne)

-- a power of two less one has the bits below its own
pub mask_has : (b c : ℕ) → has_bit b (2 ^ c - 1) ≡ ltb b c
unfolding has_bit
mask_has b c = grind (arith, nat_tests, bit_at_ones c b, bit_at_ones_above c b)

-- ---- what x has and y lacks

lacks_bit : (b x y : ℕ) → y < 2 ^ 64 → b < 64 → has_bit b (bit_and x (bit_not w64 y)) ≡ (has_bit b x && not (has_bit b y))
unfolding has_bit
lacks_bit b x y h k = grind (arith, nat_tests, bit_at_and x (bit_not w64 y) b, bit_at_not w64 y b h k, bit_at-lt x b, bit_at-lt y b)

pub none_lacks : (x y : ℕ) → y < 2 ^ 64 → bit_and x (bit_not w64 y) ≡ 0 → NoneLacks x y
none_lacks x y h e b k t = grind (arith, lacks_bit b x y h k, zero_has b)

pub lowest_law : (x y : ℕ) → x < 2 ^ 64 → y < 2 ^ 64 → 0 < bit_and x (bit_not w64 y)
    → Lowest x y (trailing_zeros w64 (bit_and x (bit_not w64 y)))
unfolding has_bit
lowest_law x y h k p =
    let m = bit_and x (bit_not w64 y) in
    let r = trailing_zeros w64 m in
    let (within, one, below) = bit_at-trailing_zeros w64 m p (and_lt 64 x (bit_not w64 y) h (omega arith)) in
    let here = lacks_bit r x y k within in
    record {
      within = within;
      there = grind (arith, nat_tests);
      fresh = grind (arith, nat_tests);
      below = λ b l. let lacks = lacks_bit b x y k (omega arith) in grind (arith, nat_tests, below b l);
    }
