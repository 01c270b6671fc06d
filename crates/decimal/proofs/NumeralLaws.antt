-- Laws of decimal numerals: `decimal` is the one numeral of a number, and how many digits it has. Assumes nothing.
use Prim.Native.Nat.{ℕ, zero, suc, ◌+◌, ◌-◌, ◌*◌, ◌/◌, ◌%◌, ◌^◌, ◌≤◌, ◌<◌}
use native.Mathlib.Omega.{arith}
use native.Mathlib.Nat.{lt_of_lt_of_le, mul-le-mul_right, one-le-pow, pow-succ'}
use mathlib.Core.Path.{◌≡◌, refl, sym, ap, subst, ◌∙◌}
use mathlib.Core.Bool.{Bool, true, false, ◌&&◌}
use mathlib.Core.List.{List, [], ◌∷◌, ◌++◌}
use mathlib.Core.Logic.{◌⊎◌, inl, inr}
use lib.Dec.{T, leb, ltb}
use lib.ListN.{length, get_or, length-append, get_or-append}
use borrow.Author.Tests.{ltb-true, ltb-false, leb-true, lt-ltb, le-ltb, le-leb}
use Rattle.decimal.specs.Numeral.{is_digit, AllDigits, value_from, value_of, Numeral}
use Rattle.decimal.specs.Decimal.{decimal_in, decimal}

-- ---- digits and what they write

pub digit_between : (b : ℕ) → T (is_digit b) → (48 ≤ b) × (b ≤ 57)
digit_between b h = go (leb 48 b) (leb b 57) refl refl h
  where
    go : (s t : Bool) → leb 48 b ≡ s → leb b 57 ≡ t → T (s && t) → (48 ≤ b) × (b ≤ 57)
    go true true e f h = (leb-true 48 b e, leb-true b 57 f)
    go true false e f h = absurd h
    go false t e f h = absurd h

digit_is : (d : ℕ) → d < 10 → T (is_digit (48 + d))
digit_is d h = rw (le-leb 48 (48 + d) (omega arith), le-leb (48 + d) 57 (omega arith)) tt

digits_append : (ds es : List ℕ) → AllDigits ds → AllDigits es → AllDigits (ds ++ es)
digits_append [] es p q = q
digits_append (b ∷ ds) es p q = (p.0, digits_append ds es p.1 q)

digits_split : (ds es : List ℕ) → AllDigits (ds ++ es) → AllDigits ds × AllDigits es
digits_split [] es p = (tt, p)
digits_split (b ∷ ds) es p = let q = digits_split ds es p.1 in ((p.0, q.0), q.1)

value_append : (x : ℕ) (ds es : List ℕ) → value_from x (ds ++ es) ≡ value_from (value_from x ds) es
value_append x [] es = refl
value_append x (b ∷ ds) es = value_append (x * 10 + (b - 48)) ds es

-- more digits never write less
value_grows : (x : ℕ) (ds : List ℕ) → x ≤ value_from x ds
value_grows x [] = omega arith
value_grows x (b ∷ ds) = omega (arith, value_grows (x * 10 + (b - 48)) ds)

digit_room : (x d p : ℕ) → d ≤ 9 → (x * 10 + d + 1) * p ≤ (x + 1) * (10 * p)
digit_room x d p h = let m : (d + 1) * p ≤ 10 * p = mul-le-mul_right p (omega arith) in omega arith

-- n digits behind those that wrote x write less than (x + 1) times ten to the power n
value_below : (x : ℕ) (ds : List ℕ) → AllDigits ds → value_from x ds < (x + 1) * 10 ^ length ds
value_below x [] a = omega arith
value_below x (b ∷ ds) a =
    let u = digit_between b a.0 in
    let r = digit_room x (b - 48) (10 ^ length ds) (omega arith) in
    lt_of_lt_of_le (value_below (x * 10 + (b - 48)) ds a.1) (rw pow-succ' r)

-- ---- one digit, and a digit behind others

pub digit_behind : (ds : List ℕ) (d : ℕ) → AllDigits ds → d < 10
    → AllDigits (ds ++ (48 + d) ∷ []) × (value_of (ds ++ (48 + d) ∷ []) ≡ value_of ds * 10 + d)
digit_behind ds d a h = (digits_append ds ((48 + d) ∷ []) a (digit_is d h, tt), omega (arith, value_append 0 ds ((48 + d) ∷ [])))

one_numeral : (x : ℕ) → x < 10 → Numeral ((48 + x) ∷ []) x
one_numeral x h = record {
  some = omega arith;
  digits = (digit_is x h, tt);
  leading = λ e. refl;
  value = omega arith;
}

-- digits that write more than 0 have no 0 in front
front_not : (ds : List ℕ) (x : ℕ) → Numeral ds x → 1 ≤ x → get_or ds 0 0 ≡ 48 → ⊥
front_not [] x n h e = omega (arith, n.some)
front_not (b ∷ []) x n h e = omega (arith, n.value)
front_not (b ∷ c ∷ ds) x n h e = omega (arith, n.leading e)

more_numeral : (ds : List ℕ) (x : ℕ) → 10 ≤ x → Numeral ds (x / 10) → Numeral (ds ++ (48 + x % 10) ∷ []) x
more_numeral ds x h n =
    let l = length-append ds ((48 + x % 10) ∷ []) in
    let (a, v) = digit_behind ds (x % 10) n.digits (omega arith) in
    let f : get_or (ds ++ (48 + x % 10) ∷ []) 0 0 ≡ get_or ds 0 0 = get_or-append ds ((48 + x % 10) ∷ []) 0 0 n.some in
    record {
      some = omega arith;
      digits = a;
      leading = λ e. absurd (front_not ds (x / 10) n (omega arith) (sym f ∙ e));
      value = omega (arith, v, n.value);
    }

last_of : (b : ℕ) (ds : List ℕ) → (es : List ℕ) × (l : ℕ) × (b ∷ ds ≡ es ++ l ∷ [])
last_of b [] = ([], b, refl)
last_of b (c ∷ ds) = let (es, l, e) = last_of c ds in (b ∷ es, l, ap (λ (t : List ℕ). b ∷ t) e)

-- how a numeral of x ends: it is one digit, or what stands before its last digit is a numeral of the tenth
data Ends (ds : List ℕ) (x : ℕ) : Type 0 where
  alone : x < 10 → ds ≡ (48 + x) ∷ [] → Ends ds x
  behind : {es : List ℕ} → 10 ≤ x → Numeral es (x / 10) → ds ≡ es ++ (48 + x % 10) ∷ [] → Ends ds x

ends_in : (es : List ℕ) (b x : ℕ) → Numeral (es ++ b ∷ []) x → Ends (es ++ b ∷ []) x
ends_in [] b x n =
    let u = digit_between b n.digits.0 in
    let h : x < 10 = omega (arith, n.value) in
    let e : b ≡ 48 + x = omega (arith, n.value) in
    alone h (ap (λ (k : ℕ). k ∷ []) e)
ends_in (c ∷ es) b x n =
    let l = length-append es (b ∷ []) in
    let d = digits_split (c ∷ es) (b ∷ []) n.digits in
    let u = digit_between b d.1.0 in
    let w = digit_between c d.0.0 in
    let v : value_of (c ∷ es) * 10 + (b - 48) ≡ x = sym (value_append 0 (c ∷ es) (b ∷ [])) ∙ n.value in
    let g = value_grows (0 * 10 + (c - 48)) es in
    let k : (c ≡ 48 → ⊥) = λ (e : c ≡ 48). omega (arith, n.leading e) in
    let e : b ≡ 48 + x % 10 = omega arith in
    behind {es = c ∷ es} (omega arith) (record { some = omega arith; digits = d.0; leading = λ q. absurd (k q); value = omega arith })
    (ap (λ (a : ℕ). c ∷ es ++ a ∷ []) e)

ends : (ds : List ℕ) (x : ℕ) → Numeral ds x → Ends ds x
ends [] x n = absurd (omega (arith, n.some))
ends (c ∷ ds) x n =
    let (es, b, e) = last_of c ds in
    subst (λ (t : List ℕ). Ends t x) (sym e) (ends_in es b x (subst (λ (t : List ℕ). Numeral t x) e n))

-- ---- the computed numeral, where d + 1 digits are enough

by_ten : (x : ℕ) → (x < 10) ⊎ (10 ≤ x)
by_ten x = go (ltb x 10) refl
  where
    go : (t : Bool) → ltb x 10 ≡ t → (x < 10) ⊎ (10 ≤ x)
    go true e = inl (ltb-true x 10 e)
    go false e = inr (ltb-false x 10 e)

one_digit : (d x : ℕ) → x < 10 → decimal_in d x ≡ (48 + x) ∷ []
unfolding decimal_in
one_digit zero x h = let e : 48 + x % 10 ≡ 48 + x = omega arith in ap (λ (b : ℕ). b ∷ []) e
one_digit (suc d) x h = rw (lt-ltb x 10 h)

more_digits : (d x : ℕ) → 10 ≤ x → decimal_in (suc d) x ≡ decimal_in d (x / 10) ++ (48 + x % 10) ∷ []
unfolding decimal_in
more_digits d x h = rw (le-ltb x 10 h)

tenth_below : (d x : ℕ) → x < 10 ^ suc (suc d) → x / 10 < 10 ^ suc d
tenth_below d x h = omega arith

numeral_in : (d x : ℕ) → x < 10 ^ suc d → Numeral (decimal_in d x) x
numeral_in zero x h = rw (one_digit 0 x h) (one_numeral x h)
numeral_in (suc d) x h = go (by_ten x) (numeral_in d (x / 10) (tenth_below d x h))
  where
    go : (x < 10) ⊎ (10 ≤ x) → Numeral (decimal_in d (x / 10)) (x / 10) → Numeral (decimal_in (suc d) x) x
    go (inl l) n = rw (one_digit (suc d) x l) (one_numeral x l)
    go (inr g) n = rw (more_digits d x g) (more_numeral (decimal_in d (x / 10)) x g n)

-- every numeral of x is the computed one
is_in_lem : (d : ℕ) (ds : List ℕ) (x : ℕ) → x < 10 ^ suc d → Numeral ds x → ds ≡ decimal_in d x
is_in_lem zero ds x h n = go (ends ds x n)
  where
    go : Ends ds x → ds ≡ decimal_in 0 x
    go (alone l e) = e ∙ sym (one_digit 0 x l)
    go (behind g m e) = absurd (omega arith)
is_in_lem (suc d) ds x h n = go (ends ds x n) (λ es m. is_in_lem d es (x / 10) (tenth_below d x h) m)
  where
    go : Ends ds x → ((es : List ℕ) → Numeral es (x / 10) → es ≡ decimal_in d (x / 10)) → ds ≡ decimal_in (suc d) x
    go (alone l e) next = e ∙ sym (one_digit (suc d) x l)
    go (behind {es = es} g m e) next = e ∙ ap (λ (t : List ℕ). t ++ (48 + x % 10) ∷ []) (next es m) ∙ sym (more_digits d x g)

-- ---- how many digits

digit_added : (d x : ℕ) → 10 ≤ x → length (decimal_in (suc d) x) ≡ length (decimal_in d (x / 10)) + 1
digit_added d x h = ap length (more_digits d x h) ∙ length-append (decimal_in d (x / 10)) ((48 + x % 10) ∷ [])

length_in : (d x : ℕ) → (1 ≤ length (decimal_in d x)) × (length (decimal_in d x) ≤ suc d)
unfolding decimal_in
length_in zero x = omega arith
length_in (suc d) x = go (by_ten x) (length_in d (x / 10)).1
  where
    go : (x < 10) ⊎ (10 ≤ x) → length (decimal_in d (x / 10)) ≤ suc d
        → (1 ≤ length (decimal_in (suc d) x)) × (length (decimal_in (suc d) x) ≤ suc (suc d))
    go (inl l) h = omega (arith, ap length (one_digit (suc d) x l))
    go (inr g) h = omega (arith, digit_added d x g)

-- a number below ten to a power has no more digits than that, however many are allowed
few_in : (d e x : ℕ) → x < 10 ^ suc e → length (decimal_in d x) ≤ suc e
few_in zero e x h = omega (arith, length_in 0 x)
few_in (suc d) zero x h = omega (arith, ap length (one_digit (suc d) x h))
few_in (suc d) (suc e) x h = go (by_ten x) (few_in d e (x / 10) (tenth_below e x h))
  where
    go : (x < 10) ⊎ (10 ≤ x) → length (decimal_in d (x / 10)) ≤ suc e → length (decimal_in (suc d) x) ≤ suc (suc e)
    go (inl l) k = omega (arith, ap length (one_digit (suc d) x l))
    go (inr g) k = omega (arith, digit_added d x g)

-- and one that reaches a power of ten has more digits than that, if more are allowed
many_in : (d e x : ℕ) → e ≤ d → 10 ^ e ≤ x → e < length (decimal_in d x)
many_in d zero x k h = omega (arith, length_in d x)
many_in zero (suc e) x k h = absurd (omega arith)
many_in (suc d) (suc e) x k h =
    let p = one-le-pow e 10 (omega arith) in
    omega (arith, digit_added d x (omega arith), many_in d e (x / 10) (omega arith) (omega arith))

-- ---- the laws that others cite

pub decimal_numeral : (x : ℕ) → x < 2 ^ 64 → Numeral (decimal x) x
decimal_numeral x h = numeral_in 19 x (omega arith)

-- no other row of digits is a numeral of x
pub numeral_is : {ds : List ℕ} {x : ℕ} → x < 2 ^ 64 → Numeral ds x → ds ≡ decimal x
numeral_is {ds} {x} h n = is_in_lem 19 ds x (omega arith) n

pub decimal_some : (x : ℕ) → 1 ≤ length (decimal x)
decimal_some x = (length_in 19 x).0

pub decimal_length : (x : ℕ) → length (decimal x) ≤ 20
decimal_length x = (length_in 19 x).1

-- so a number up to 99,999 has at most 5 digits
pub decimal_few : (d x : ℕ) → 1 ≤ d → x < 10 ^ d → length (decimal x) ≤ d
decimal_few zero x h l = absurd (omega arith)
decimal_few (suc d) x h l = few_in 19 d x l

pub decimal_three : (x : ℕ) → x ≤ 999 → length (decimal x) ≤ 3
decimal_three x h = decimal_few 3 x (omega arith) (omega arith)

pub decimal_many : (e x : ℕ) → e < 20 → 10 ^ e ≤ x → e < length (decimal x)
decimal_many e x h l = many_in 19 e x (omega arith) l

pub decimal_below : (x : ℕ) → x < 2 ^ 64 → x < 10 ^ length (decimal x)
decimal_below x h = let n = decimal_numeral x h in omega (arith, value_below 0 (decimal x) n.digits, n.value)

-- digits that write x, as many as its numeral has, are its numeral
pub digits_are : {ds : List ℕ} {x : ℕ} → x < 2 ^ 64 → AllDigits ds → value_of ds ≡ x → length ds ≡ length (decimal x) → ds ≡ decimal x
digits_are {ds} {x} h a v n =
    numeral_is h (record { some = omega (arith, decimal_some x); digits = a; leading = λ e. no_zero ds a v n e; value = v })
  where
    -- digits behind a 0 write less than a numeral as long as all of them
    no_zero : (ds : List ℕ) → AllDigits ds → value_of ds ≡ x → length ds ≡ length (decimal x) → get_or ds 0 0 ≡ 48 → length ds ≡ 1
    no_zero [] a v n e = absurd (omega (arith, decimal_some x))
    no_zero (b ∷ []) a v n e = refl
    no_zero (b ∷ c ∷ ds) a v n e =
        let z : 0 * 10 + (b - 48) ≡ 0 = omega arith in
        let w : value_from 0 (c ∷ ds) ≡ x = subst (λ (k : ℕ). value_from k (c ∷ ds) ≡ x) z v in
        absurd (omega (arith, decimal_few (length (c ∷ ds)) x (omega arith) (omega (arith, value_below 0 (c ∷ ds) a.1))))
