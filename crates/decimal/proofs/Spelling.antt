-- How a number's digits are written from the first to the last. Assumes nothing.
use Prim.Native.Nat.{ℕ, zero, suc, ◌+◌, ◌-◌, ◌*◌, ◌/◌, ◌%◌, ◌^◌, ◌<◌}
use native.Mathlib.Omega.{arith}
use native.Mathlib.Nat.{div-add-mod', div-lt_iff_lt-mul, div-one, mod-lt, mod-one, one-le-pow, pow-succ'}
use mathlib.Core.Path.{◌≡◌, refl, sym, ap, ap₂, subst, ◌∙◌}
use mathlib.Core.List.{List, [], ◌∷◌, ◌++◌}
use lib.ListN.{length, take, drop, set, replicate, length-set, take-append-drop}
use lib.Seq.{length-take-le, drop-drop, drop-set-lt, take-suc-set}
use Rattle.decimal.specs.Numeral.{AllDigits, value_of, Numeral}
use Rattle.decimal.specs.Decimal.{decimal}
use Rattle.decimal.proofs.NumeralLaws.{digit_behind, digits_are, decimal_numeral, decimal_length, decimal_below}

-- the first i of a are digits that write x without its last `left` places; what stands in those is `rest`, and from i on a has zeros
pub record Spelt (x left : ℕ) (a : List ℕ) (i rest : ℕ) : Type 0 where
  pub long : length a ≡ 20
  pub digits : AllDigits (take i a)
  pub value : value_of (take i a) * 10 ^ left + rest ≡ x
  pub small : rest < 10 ^ left
  pub behind : drop i a ≡ drop i (replicate 20 0)

pub spelt_begins : (x left : ℕ) → x < 2 ^ 64 → left ≡ length (decimal x) → Spelt x left (replicate 20 0) 0 x
spelt_begins x left h e = record {
  long = refl;
  digits = tt;
  value = omega arith;
  small = rw e (decimal_below x h);
  behind = refl;
}

pub spelt_as : {x left l i j rest : ℕ} {a : List ℕ} → Spelt x left a i rest → left ≡ l → i ≡ j → Spelt x l a j rest
spelt_as {x} {left} {l} {i} {j} {rest} {a} s e f =
    subst (λ (k : ℕ). Spelt x k a j rest) e (subst (λ (k : ℕ). Spelt x left a k rest) f s)

-- a digit moves from the rest to the digits
moved : (v d r rest p x : ℕ) → v * (10 * p) + rest ≡ x → d * p + r ≡ rest → (v * 10 + d) * p + r ≡ x
moved v d r rest p x h e = omega arith

-- one place more, with l places behind it, whose power of ten is p
module _ {x left i rest : ℕ} {a : List ℕ} (l p : ℕ) (s : Spelt x left a i rest) (e : left ≡ suc l) (q : p ≡ 10 ^ l) where
  pub spelt_below : rest < 10 * p
  spelt_below = omega (arith, subst (λ (k : ℕ). rest < 10 ^ k) e s.small)

  -- what a digit step asks for
  pub spelt_fits : (0 < p) × (rest / p < 10)
  spelt_fits = let h : 0 < p = omega (arith, one-le-pow l 10 (omega arith)) in (h, (div-lt_iff_lt-mul h).1 spelt_below)

  -- and what its digit and its rest make of the digits
  pub spelt_on : {d r : ℕ} → i < 20 → d ≡ 48 + rest / p → r ≡ rest % p → Spelt x l (set a i d) (i + 1) r
  spelt_on {d} {r} h ed er =
      let k : i < length a = omega (arith, s.long) in
      let n : i + 1 ≡ suc i = omega arith in
      let t : take (i + 1) (set a i d) ≡ take i a ++ (48 + rest / p) ∷ [] =
      ap (λ (j : ℕ). take j (set a i d)) n ∙ take-suc-set a i d k ∙ ap (λ (b : ℕ). take i a ++ b ∷ []) ed in
      let (g, v) = digit_behind (take i a) (rest / p) s.digits spelt_fits.1 in
      let w : value_of (take i a) * (10 * p) + rest ≡ x =
      subst (λ (m : ℕ). value_of (take i a) * m + rest ≡ x) (ap (λ (j : ℕ). 10 ^ j) e ∙ pow-succ' 10 l ∙ ap (λ (m : ℕ). 10 * m) (sym q)) s.value in
      record {
        long = length-set a i d ∙ s.long;
        digits = subst AllDigits (sym t) g;
        value =
            ap₂ (λ (m k : ℕ). m * 10 ^ l + k) (ap value_of t ∙ v) er
            ∙ ap (λ (m : ℕ). (value_of (take i a) * 10 + rest / p) * m + rest % p) (sym q)
            ∙ moved (value_of (take i a)) (rest / p) (rest % p) rest p x w (div-add-mod' rest p);
        small = rw (er, ← q) (mod-lt rest spelt_fits.0);
        behind =
            drop-set-lt (i + 1) a i d (omega arith)
            ∙ sym (drop-drop 1 i a)
            ∙ ap (drop 1) s.behind
            ∙ drop-drop 1 i (replicate 20 0);
      }

-- the rest below ten is the last digit
pub spelt_last : {x i rest : ℕ} {a : List ℕ} → Spelt x 1 a i rest → i < 20 → Spelt x 0 (set a i (48 + rest)) (i + 1) 0
spelt_last {x} {i} {rest} s h =
    spelt_on 0 1 s refl refl h (ap (λ (d : ℕ). 48 + d) (sym (div-one rest))) (sym (mod-one rest))

-- ---- all places

run_left : (n k v : ℕ) → drop n (replicate k v) ≡ replicate (k - n) v
run_left zero k v = let e : k ≡ k - 0 = omega arith in ap (λ (m : ℕ). replicate m v) e
run_left (suc n) zero v = let e : 0 ≡ 0 - suc n = omega arith in ap (λ (m : ℕ). replicate m v) e
run_left (suc n) (suc k) v = let e : k - n ≡ suc k - suc n = omega arith in run_left n k v ∙ ap (λ (m : ℕ). replicate m v) e

module _ {x n rest : ℕ} {a : List ℕ} (s : Spelt x 0 a n rest) (h : x < 2 ^ 64) (wide : n ≡ length (decimal x)) where
  spelt_digits : take n a ≡ decimal x
  spelt_digits =
      let k : length (take n a) ≡ n = length-take-le n a (omega (arith, s.long, decimal_length x)) in
      digits_are h s.digits (omega (arith, s.value, s.small)) (k ∙ wide)

  pub spelt_ends : a ≡ decimal x ++ replicate (20 - length (decimal x)) 0
  spelt_ends =
      sym (take-append-drop n a)
      ∙ ap₂ (λ (t u : List ℕ). t ++ u) spelt_digits (s.behind ∙ run_left n 20 0 ∙ ap (λ (k : ℕ). replicate (20 - k) 0) wide)

  pub spelt_numeral : Numeral (take n a) x
  spelt_numeral = rw spelt_digits (decimal_numeral x h)
