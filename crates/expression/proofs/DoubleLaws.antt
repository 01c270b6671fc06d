-- `double_at` finds the first star directly after a star. Assumes nothing.
use Prim.Native.Nat.{ℕ, zero, suc, ◌+◌, ◌≤◌, ◌<◌}
use native.Mathlib.Omega.{arith}
use native.Mathlib.Decide.{dec_lt}
use mathlib.Core.Path.{◌≡◌, refl, sym, ap, ◌∙◌}
use mathlib.Core.Bool.{Bool, true, false, ◌&&◌, true≢false}
use mathlib.Core.List.{List, [], ◌∷◌, ◌++◌}
use lib.Dec.{eqb}
use lib.ListN.{length, get_or, drop, drop_of_length-le}
use borrow.Author.Tests.{eqb-true, eq-eqb, ne_eqb}
use Rattle.event.proofs.Tails.{rest_at}
use Rattle.event.proofs.Tests.{T_of, of_T, and_split, choose}
use Rattle.expression.specs.Stars.{Double, FirstDouble, NoDouble}
use Rattle.expression.specs.StarsComputed.{doubles, double_from, double_at}

-- ---- the test
pub doubles_stars : (p b : ℕ) → doubles p b ≡ true → (p ≡ 42) × (b ≡ 42)
doubles_stars p b e =
    let h = and_split (eqb p 42) (eqb b 42) (T_of (doubles p b) e) in
    (eqb-true p 42 (of_T (eqb p 42) h.0), eqb-true b 42 (of_T (eqb b 42) h.1))

pub doubles_not : (p b : ℕ) → doubles p b ≡ false → p ≡ 42 → b ≡ 42 → ⊥
doubles_not p b e f g =
    let t : doubles p b ≡ true = rw (eq-eqb p 42 f, eq-eqb b 42 g) in
    true≢false (sym t ∙ e)

right_false : (a b : Bool) → b ≡ false → (a && b) ≡ false
right_false true b e = e
right_false false b e = refl

pub not_doubled : (p b : ℕ) → (b ≡ 42 → ⊥) → doubles p b ≡ false
not_doubled p b h = right_false (eqb p 42) (eqb b 42) (ne_eqb b 42 h)

pub after_other : (p b : ℕ) → (p ≡ 42 → ⊥) → doubles p b ≡ false
after_other p b h = rw (ne_eqb p 42 h)

-- ---- byte after byte
-- the star at n, if n is in the text, is the first one; p is the byte before the text
record Found (p : ℕ) (s : List ℕ) (n : ℕ) : Type 0 where
  within : n ≤ length s
  there : n < length s → Double (p ∷ s) (suc n)
  before : (i : ℕ) → i < n → Double (p ∷ s) (suc i) → ⊥

found_here : (p b : ℕ) (s : List ℕ) → doubles p b ≡ true → Found p (b ∷ s) 0
found_here p b s e = record { within = omega arith; there = λ h. doubles_stars p b e; before = λ i h. absurd (omega arith) }

found_later : (p b : ℕ) (s : List ℕ) (n : ℕ) → doubles p b ≡ false → Found b s n → Found p (b ∷ s) (suc n)
found_later p b s n e x = record { within = omega (arith, x.within); there = λ h. x.there (omega arith); before = go }
  where
    go : (i : ℕ) → i < suc n → Double (p ∷ b ∷ s) (suc i) → ⊥
    go zero h d = doubles_not p b e d.0 d.1
    go (suc i) h d = x.before i (omega arith) d

found : (p : ℕ) (s : List ℕ) → Found p s (double_from p s)
unfolding double_from
found p [] = record { within = omega arith; there = λ h. absurd (omega arith); before = λ i h. absurd (omega arith) }
found p (b ∷ s) = choose (Found p (b ∷ s)) (doubles p b) (λ e. found_here p b s e) (λ e. found_later p b s (double_from b s) e (found b s))

-- beyond the text is no star
pub outside : (s : List ℕ) (i : ℕ) → length s ≤ i → get_or s i 0 ≡ 42 → ⊥
outside [] zero h e = omega arith
outside [] (suc i) h e = omega arith
outside (b ∷ s) zero h e = omega arith
outside (b ∷ s) (suc i) h e = outside s i (omega arith) e

pub double_inside : (s : List ℕ) (n : ℕ) → Double s n → n < length s
double_inside s zero d = absurd d
double_inside s (suc i) d = go (dec_lt (suc i) (length s))
  where
    go : Dec (suc i < length s) → suc i < length s
    go (yes h) = h
    go (no h) = absurd (outside s (suc i) (omega arith) d.1)

-- ---- the byte 0 before a text makes no star of its own
front : (s : List ℕ) (n : ℕ) → Double s n → Double (0 ∷ s) (suc n)
front s zero d = absurd d
front s (suc i) d = d

behind_front : (s : List ℕ) (n : ℕ) → Double (0 ∷ s) (suc n) → Double s n
behind_front s zero d = omega (arith, d.0)
behind_front s (suc i) d = d

-- ---- the first one, or none
pub first_double : (s : List ℕ) → double_at s < length s → FirstDouble s (double_at s)
first_double s h =
    let x = found 0 s in
    record { there = behind_front s (double_at s) (x.there h); first = λ j l d. x.before j l (front s j d) }

pub no_double_lem : (s : List ℕ) → length s ≤ double_at s → NoDouble s
no_double_lem s e n d = (found 0 s).before n (omega (arith, double_inside s n d)) (front s n d)

-- ---- and no other number is
lowest : {p : ℕ} {s : List ℕ} {m n : ℕ} → Found p s m → Found p s n → m ≤ n
lowest {m = m} {n = n} x y = go (dec_lt n m)
  where
    go : Dec (n < m) → m ≤ n
    go (yes h) = absurd (x.before n h (y.there (omega (arith, x.within))))
    go (no h) = omega arith

pub first_is : {s : List ℕ} {n : ℕ} → FirstDouble s n → double_at s ≡ n
first_is {s} {n} f =
    let y : Found 0 s n = record {
      within = omega (arith, double_inside s n f.there);
      there = λ h. front s n f.there;
      before = λ i h d. f.first i h (behind_front s i d);
    } in
    let a = lowest (found 0 s) y in
    let b = lowest y (found 0 s) in
    omega arith

pub none_is : (s : List ℕ) → NoDouble s → length s ≤ double_at s
none_is s h = go (dec_lt (double_at s) (length s))
  where
    go : Dec (double_at s < length s) → length s ≤ double_at s
    go (yes l) = absurd (h (double_at s) (first_double s l).there)
    go (no l) = omega arith

-- ---- parts of a text
pub no_double_behind : (p : ℕ) (s : List ℕ) → NoDouble (p ∷ s) → NoDouble s
no_double_behind p s h zero d = d
no_double_behind p s h (suc i) d = h (suc (suc i)) d

pub no_double_with : (p : ℕ) (s : List ℕ) → (p ≡ 42 → get_or s 0 0 ≡ 42 → ⊥) → NoDouble s → NoDouble (p ∷ s)
no_double_with p s h g zero d = d
no_double_with p s h g (suc zero) d = h d.0 d.1
no_double_with p s h g (suc (suc i)) d = g (suc i) d

pub no_double_end : (x y : List ℕ) → NoDouble (x ++ y) → NoDouble y
no_double_end [] y h = h
no_double_end (b ∷ x) y h = no_double_end x y (no_double_behind b (x ++ y) h)

pub no_double_joined : (x y : List ℕ) → (get_or y 0 0 ≡ 42 → ⊥) → NoDouble x → NoDouble y → NoDouble (x ++ y)
no_double_joined [] y n h g = g
no_double_joined (b ∷ []) y n h g = no_double_with b y (λ e. n) g
no_double_joined (b ∷ c ∷ x) y n h g =
    no_double_with b (c ∷ x ++ y) (λ e f. h 1 (e, f)) (no_double_joined (c ∷ x) y n (no_double_behind b (c ∷ x) h) g)

-- ---- from an offset on
pub double_on : (s : List ℕ) (i p : ℕ) → i < length s → doubles p (get_or s i 0) ≡ false
    → double_from p (drop i s) ≡ suc (double_from (get_or s i 0) (drop (i + 1) s))
unfolding double_from
double_on s i p h e = ap (double_from p) (rest_at s i h) ∙ rw e

pub double_here : (s : List ℕ) (i p : ℕ) → i < length s → doubles p (get_or s i 0) ≡ true → double_from p (drop i s) ≡ 0
unfolding double_from
double_here s i p h e = ap (double_from p) (rest_at s i h) ∙ rw e

pub double_end : (s : List ℕ) (i p : ℕ) → length s ≤ i → double_from p (drop i s) ≡ 0
unfolding double_from
double_end s i p h = ap (double_from p) (drop_of_length-le s h)
