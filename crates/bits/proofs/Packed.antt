-- Packed numbers and runs: their bits, their ones, and that their bits determine them. Assumes nothing.
use mathlib.Core.Path.{◌≡◌, refl, sym, ap, ap₂, ◌∙◌}
use mathlib.Core.List.{List, [], ◌∷◌, ◌++◌}
use mathlib.Core.Bool.{Bool, true, false}
use Prim.Native.Nat.{ℕ, zero, suc, ◌+◌, ◌*◌, ◌/◌, ◌%◌, ◌^◌, ◌<◌}
use native.Mathlib.Omega.{arith}
use native.Mathlib.Nat.{div-div-eq-div-mul, pow-succ'}
use lib.Count.{ones, ones_step}
use lib.Dec.{lit<}
use lib.ListN.{length, get_or, get_or-append}
use lib.Seq.{get_or-append-add}
use borrow.Author.Tests.{eqb-true, eqb-false}
use Rattle.bits.specs.Bit.{has_bit, bit_at, ones_of}
use Rattle.bits.specs.Runs.{indicator, tally_below, packed, packed_run, Small}
use Rattle.bits.proofs.Tally.{tally_same, tally_none, tally_add}

indicator_lt : (b : Bool) → indicator b < 2
indicator_lt true = omega arith
indicator_lt false = omega arith

half : (b : Bool) (n : ℕ) → (indicator b + 2 * n) / 2 ≡ n
half b n = omega (arith, indicator_lt b)

odd : (b : Bool) (n : ℕ) → (indicator b + 2 * n) % 2 ≡ indicator b
odd b n = omega (arith, indicator_lt b)

-- a bit as a digit
digit_of : (b x : ℕ) (f : Bool) → x / 2 ^ b % 2 ≡ indicator f → has_bit b x ≡ f
unfolding has_bit
digit_of b x true e = rw e refl
digit_of b x false e = rw e refl

of_digit : (b x : ℕ) (f : Bool) → has_bit b x ≡ f → x / 2 ^ b % 2 ≡ indicator f
unfolding has_bit
of_digit b x true e = eqb-true (x / 2 ^ b % 2) 1 e
of_digit b x false e = let n = eqb-false (x / 2 ^ b % 2) 1 e in omega arith

-- ---- a number
pub packed_lt : (k : ℕ) (f : ℕ → Bool) → packed k f < 2 ^ k
unfolding packed
packed_lt zero f = omega arith
packed_lt (suc k) f = omega (arith, packed_lt k (λ r. f (suc r)), indicator_lt (f 0))

packed_digit : (k : ℕ) (f : ℕ → Bool) (r : ℕ) → r < k → packed k f / 2 ^ r % 2 ≡ indicator (f r)
unfolding packed
packed_digit zero f r h = absurd (omega arith)
packed_digit (suc k) f zero h = omega (arith, indicator_lt (f 0))
packed_digit (suc k) f (suc r) h =
    rw (pow-succ', ← div-div-eq-div-mul, half (f 0) (packed k (λ r. f (suc r)))) (packed_digit k (λ r. f (suc r)) r (omega arith))

pub packed_bit : (k : ℕ) (f : ℕ → Bool) (r : ℕ) → r < k → has_bit r (packed k f) ≡ f r
packed_bit k f r h = digit_of r (packed k f) (f r) (packed_digit k f r h)

digit_half : (x r : ℕ) → x / 2 / 2 ^ r % 2 ≡ x / 2 ^ suc r % 2
digit_half x r = rw (pow-succ', ← div-div-eq-div-mul) refl

number_of : (k x : ℕ) (f : ℕ → Bool) → x < 2 ^ k → ((r : ℕ) → r < k → x / 2 ^ r % 2 ≡ indicator (f r)) → x ≡ packed k f
unfolding packed
number_of zero x f h e = omega arith
number_of (suc k) x f h e =
    let q = number_of k (x / 2) (λ r. f (suc r)) (omega arith) (λ r l. digit_half x r ∙ e (suc r) (omega arith)) in
    omega (arith, q, e 0 (omega arith))

-- bits decide a number only below a bound: a number below 2 to the power k is the one packed of its bits
pub packed_is : (k x : ℕ) (f : ℕ → Bool) → x < 2 ^ k → ((r : ℕ) → r < k → has_bit r x ≡ f r) → x ≡ packed k f
packed_is k x f h e = number_of k x f h (λ r l. of_digit r x (f r) (e r l))

packed_ones : (k : ℕ) (f : ℕ → Bool) → ones (packed k f) ≡ tally_below k f
unfolding packed ones tally_below
packed_ones zero f = refl
packed_ones (suc k) f =
    ones_step (indicator (f 0) + 2 * packed k (λ r. f (suc r)))
    ∙ ap₂ (λ a b. a + ones b) (odd (f 0) (packed k (λ r. f (suc r)))) (half (f 0) (packed k (λ r. f (suc r))))
    ∙ ap (indicator (f 0) +◌) (packed_ones k (λ r. f (suc r)))

-- ---- a run
pub run_length : (c : ℕ) (f : ℕ → Bool) → length (packed_run c f) ≡ c
unfolding packed_run
run_length zero f = refl
run_length (suc c) f = ap suc (run_length c (λ p. f (64 + p)))

packed_same : (k : ℕ) (f g : ℕ → Bool) → ((r : ℕ) → r < k → f r ≡ g r) → packed k f ≡ packed k g
unfolding packed
packed_same zero f g h = refl
packed_same (suc k) f g h = ap₂ (λ a b. indicator a + 2 * b) (h 0 (omega arith))
    (packed_same k (λ r. f (suc r)) (λ r. g (suc r)) (λ r l. h (suc r) (omega arith)))

pub run_at : (c : ℕ) (f : ℕ → Bool) (q : ℕ) → q < c → get_or (packed_run c f) q 0 ≡ packed 64 (λ r. f (64 * q + r))
unfolding packed_run
run_at zero f q h = absurd (omega arith)
run_at (suc c) f zero h = packed_same 64 f (λ r. f (64 * 0 + r)) (λ r l. ap f (omega arith))
run_at (suc c) f (suc q) h =
    run_at c (λ p. f (64 + p)) q (omega arith) ∙ packed_same 64 (λ r. f (64 + (64 * q + r))) (λ r. f (64 * suc q + r))
    (λ r l. ap f (omega arith))

-- bit p of the run is f p
pub run_bit : (c : ℕ) (f : ℕ → Bool) (p : ℕ) → p < 64 * c → bit_at (packed_run c f) p ≡ f p
unfolding bit_at
run_bit c f p h =
    let e : 64 * (p / 64) + p % 64 ≡ p = omega arith in
    ap (has_bit (p % 64)) (run_at c f (p / 64) (omega arith)) ∙ packed_bit 64 (λ r. f (64 * (p / 64) + r)) (p % 64) (omega arith) ∙ ap f e

pub run_ones : (c : ℕ) (f : ℕ → Bool) → ones_of (packed_run c f) ≡ tally_below (64 * c) f
unfolding packed_run ones_of
run_ones zero f = sym (tally_none (64 * 0) f (λ r l. absurd (omega arith)))
run_ones (suc c) f =
    let e : 64 * suc c ≡ 64 + 64 * c = omega arith in
    omega (arith, packed_ones 64 f, run_ones c (λ p. f (64 + p)), tally_add 64 (64 * c) f, ap (λ n. tally_below n f) e)

-- ---- two runs, one behind the other
pub bit_front : (a b : List ℕ) (p : ℕ) → p < 64 * length a → bit_at (a ++ b) p ≡ bit_at a p
unfolding bit_at
bit_front a b p h = ap (has_bit (p % 64)) (get_or-append a b 0 (p / 64) (omega arith))

pub bit_behind : (a b : List ℕ) (p : ℕ) → bit_at (a ++ b) (64 * length a + p) ≡ bit_at b p
unfolding bit_at
bit_behind a b p =
    let q : (64 * length a + p) / 64 ≡ length a + p / 64 = omega arith in
    let r : (64 * length a + p) % 64 ≡ p % 64 = omega arith in
    ap₂ (λ m n. has_bit m (get_or (a ++ b) n 0)) r q ∙ ap (has_bit (p % 64)) (get_or-append-add a b (p / 64) 0)

pub run_small : (c : ℕ) (f : ℕ → Bool) → Small (packed_run c f)
unfolding packed_run
run_small zero f i = lit< tt
run_small (suc c) f zero = packed_lt 64 f
run_small (suc c) f (suc i) = run_small c (λ p. f (64 + p)) i

pub append_small : (a b : List ℕ) → Small a → Small b → Small (a ++ b)
append_small [] b h k i = k i
append_small (x ∷ a) b h k zero = h 0
append_small (x ∷ a) b h k (suc i) = append_small a b (λ n. h (suc n)) k i

-- the ones of a number are as many as its bits
pub number_ones : (x : ℕ) → x < 2 ^ 64 → ones x ≡ tally_below 64 (λ (b : ℕ). has_bit b x)
number_ones x h = ap ones (packed_is 64 x (λ (b : ℕ). has_bit b x) h (λ r _. refl)) ∙ packed_ones 64 (λ (b : ℕ). has_bit b x)

-- the ones of a run are as many as its bits
pub bits_ones : (a : List ℕ) → Small a → ones_of a ≡ tally_below (64 * length a) (bit_at a)
unfolding ones_of bit_at
bits_ones [] s = sym (tally_none (64 * 0) (bit_at []) (λ r l. absurd (omega arith)))
bits_ones (x ∷ a) s =
    let e : 64 * suc (length a) ≡ 64 + 64 * length a = omega arith in
    let f = tally_same 64 (bit_at (x ∷ a)) (λ (b : ℕ). has_bit b x) (λ r l. front r l) in
    let g = tally_same (64 * length a) (λ (r : ℕ). bit_at (x ∷ a) (64 + r)) (bit_at a) (λ r l. bit_behind (x ∷ []) a r) in
    omega (
      arith,
      number_ones x (s 0),
      bits_ones a (λ i. s (suc i)),
      tally_add 64 (64 * length a) (bit_at (x ∷ a)),
      ap (λ n. tally_below n (bit_at (x ∷ a))) e,
    )
  where
    front : (r : ℕ) → r < 64 → bit_at (x ∷ a) r ≡ has_bit r x
    front r l = let m : r % 64 ≡ r = omega arith in let d : r / 64 ≡ 0 = omega arith in rw (m, d) refl
