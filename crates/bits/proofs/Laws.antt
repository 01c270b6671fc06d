-- Runs of numbers to which bits are added, and runs of zeros. Assumes nothing.
use mathlib.Core.Path.{◌≡◌, refl, sym, ap, ◌∙◌, subst}
use mathlib.Core.Bool.{Bool, true, false, ◌||◌, false≢true, or-false, or-true}
use mathlib.Core.Logic.{◌⊎◌, inl, inr, ⊎_elim}
use mathlib.Core.List.{List, [], ◌∷◌, ◌++◌}
use Prim.Native.Nat.{ℕ, zero, suc, ◌+◌, ◌-◌, ◌*◌, ◌/◌, ◌%◌, ◌^◌, ◌≤◌, ◌<◌}
use native.Mathlib.Omega.{arith}
use native.Mathlib.Numerals.{add-one}
use lib.Count.{ones}
use lib.ListN.{length, length-set, get_or, take, replicate}
use lib.Seq.{get_or-set_same, get_or-set_other, take-suc}
use Rattle.std.proofs.lemmas.Bool.{cases_lt}
use Rattle.bits.specs.Bit.{has_bit, bit_at, ones_of}
use Rattle.bits.specs.Runs.{joined, Put, Merged, Adds, RowOf, InRow, NoneLacks, Lowest, NoneFresh, Fresh}
use Rattle.bits.proofs.Digits.{same_or_not, has_or, power_has, power_lacks, zero_has}

-- ---- ones

ones_append : (a b : List ℕ) → ones_of (a ++ b) ≡ ones_of a + ones_of b
unfolding ones_of
ones_append [] b = omega arith
ones_append (x ∷ a) b = omega (arith, ones_append a b)

pub ones_more : (a : List ℕ) (i : ℕ) → i < length a → ones_of (take (i + 1) a) ≡ ones_of (take i a) + ones (get_or a i 0)
unfolding ones_of
ones_more a i h = rw (add-one, take-suc a i 0, ones_append) (omega arith)

-- ---- a number joined to a run, and one bit

pub merge_law : (a : List ℕ) (i x : ℕ) → i < length a → Merged a i x (joined a i x)
unfolding bit_at
merge_law a i x h = record {
  inside = λ q (e : q / 64 ≡ i). rw (e, get_or-set_same a i _ 0 h) (has_or (q % 64) (get_or a i 0) x);
  outside = λ q ne. rw (get_or-set_other a i (q / 64) _ 0 ne);
  long = length-set a i _;
}

pub merged_put : {a b : List ℕ} (p : ℕ) → Merged a (p / 64) (2 ^ (p % 64)) b → Put a p b
merged_put {a} {b} p m = record {
  same = m.inside p refl ∙ ap (bit_at a p ||◌) (power_has (p % 64)) ∙ or-true (bit_at a p);
  other = λ q ne.
      ⊎_elim (λ (e : q / 64 ≡ p / 64).
      m.inside q e ∙ ap (bit_at a q ||◌) (power_lacks (p % 64) (q % 64) (λ (f : q % 64 ≡ p % 64). ne (omega arith)))
      ∙ or-false (bit_at a q))
      (λ (d : q / 64 ≡ p / 64 → ⊥). m.outside q d)
      (same_or_not (q / 64) (p / 64));
  long = m.long;
}

-- bit 64 * w + b, put into number w
pub put_at : {a c : List ℕ} (w b p x : ℕ) → b < 64 → p ≡ 64 * w + b → x ≡ 2 ^ b → Merged a w x c → Put a p c
put_at {a} {c} w b p x l e f m =
    let y : p / 64 ≡ w = omega arith in
    let z : p % 64 ≡ b = omega arith in
    merged_put p (rw (y, z, ← f) m)

-- ---- bits that are added

pub put_adds : {a b : List ℕ} {p : ℕ} → Put a p b → Adds a (λ (q : ℕ). q ≡ p) b
put_adds {a} {b} {p} h = record {
  old = λ q e. ⊎_elim (λ (s : q ≡ p). rw s h.same) (λ (n : q ≡ p → ⊥). h.other q n ∙ e) (same_or_not q p);
  new = λ q (s : q ≡ p). rw s h.same;
  only = λ q e. ⊎_elim (λ (s : q ≡ p). inr s) (λ (n : q ≡ p → ⊥). inl (sym (h.other q n) ∙ e)) (same_or_not q p);
  long = h.long;
}

pub adds_none : (a : List ℕ) (P : ℕ → Type 0) → ((q : ℕ) → P q → ⊥) → Adds a P a
adds_none a P n = record { old = λ q e. e; new = λ q p. absurd (n q p); only = λ q e. inl e; long = refl }

pub adds_then : {a b c : List ℕ} {P Q : ℕ → Type 0} → Adds a P b → Adds b Q c → Adds a (λ (q : ℕ). P q ⊎ Q q) c
adds_then {a} {b} {c} {P} {Q} f g = record {
  old = λ q e. g.old q (f.old q e);
  new = λ q r. ⊎_elim (λ (p : P q). g.old q (f.new q p)) (λ (p : Q q). g.new q p) r;
  only = λ q e.
      ⊎_elim (λ (x : bit_at b q ≡ true). ⊎_elim (λ (y : bit_at a q ≡ true). inl y) (λ (p : P q). inr (inl p)) (f.only q x))
      (λ (p : Q q). inr (inr p)) (g.only q e);
  long = g.long ∙ f.long;
}

pub adds_as : {a b : List ℕ} {P Q : ℕ → Type 0} → ((q : ℕ) → P q → Q q) → ((q : ℕ) → Q q → P q) → Adds a P b → Adds a Q b
adds_as {a} {b} {P} {Q} to from f = record {
  old = f.old;
  new = λ q p. f.new q (from q p);
  only = λ q e. ⊎_elim (λ (x : bit_at a q ≡ true). inl x) (λ (p : P q). inr (to q p)) (f.only q e);
  long = f.long;
}

pub or_left : (x y : Bool) → x ≡ true → (x || y) ≡ true
or_left true y e = refl
or_left false y e = absurd (false≢true e)

pub or_right : (x y : Bool) → y ≡ true → (x || y) ≡ true
or_right true y e = refl
or_right false y e = e

pub or_cases : (x y : Bool) → (x || y) ≡ true → (x ≡ true) ⊎ (y ≡ true)
or_cases true y e = inl refl
or_cases false y e = inr e

pub merged_adds : {a b : List ℕ} {i x : ℕ} → Merged a i x b → Adds a (λ (q : ℕ). (q / 64 ≡ i) × (has_bit (q % 64) x ≡ true)) b
merged_adds {a} {b} {i} {x} h = record {
  old = λ q e.
      ⊎_elim (λ (s : q / 64 ≡ i). h.inside q s ∙ or_left (bit_at a q) (has_bit (q % 64) x) e)
      (λ (n : q / 64 ≡ i → ⊥). h.outside q n ∙ e)
      (same_or_not (q / 64) i);
  new = λ q r. h.inside q r.0 ∙ or_right (bit_at a q) (has_bit (q % 64) x) r.1;
  only = λ q e.
      ⊎_elim (λ (s : q / 64 ≡ i).
      ⊎_elim (λ (l : bit_at a q ≡ true). inl l) (λ (r : has_bit (q % 64) x ≡ true). inr (s, r))
      (or_cases (bit_at a q) (has_bit (q % 64) x) (sym (h.inside q s) ∙ e)))
      (λ (n : q / 64 ≡ i → ⊥). inl (sym (h.outside q n) ∙ e))
      (same_or_not (q / 64) i);
  long = h.long;
}

-- ---- a run of zeros

zeros_at : (n i : ℕ) → ◌≡◌ {A = ℕ} (get_or (replicate n 0) i 0) 0
zeros_at zero i = refl
zeros_at (suc n) zero = refl
zeros_at (suc n) (suc i) = zeros_at n i

pub zeros_bit : (n p : ℕ) → bit_at (replicate n 0) p ≡ false
unfolding bit_at
zeros_bit n p = ap (has_bit (p % 64)) (zeros_at n (p / 64)) ∙ zero_has (p % 64)

-- ---- bits, by numbers

-- a bit of number w
pub word_bit : (a : List ℕ) (w b : ℕ) → b < 64 → bit_at a (64 * w + b) ≡ has_bit b (get_or a w 0)
unfolding bit_at
word_bit a w b l =
    let x : (64 * w + b) % 64 ≡ b = omega arith in
    let y : (64 * w + b) / 64 ≡ w = omega arith in
    rw (x, y)

pub low_bit : (a : List ℕ) (s : ℕ) → s < 64 → bit_at a s ≡ has_bit s (get_or a 0 0)
low_bit a s l = let e : s ≡ 64 * 0 + s = omega arith in ap (bit_at a) e ∙ word_bit a 0 s l

pub high_bit : (a : List ℕ) (s : ℕ) → s < 64 → bit_at a (64 + s) ≡ has_bit s (get_or a 1 0)
high_bit a s l = word_bit a 1 s l

-- a claim on the bits of two numbers, by the two numbers
pub by_half : (P : ℕ → Type 0) → ((s : ℕ) → s < 64 → P s) → ((s : ℕ) → s < 64 → P (64 + s)) → (s : ℕ) → s < 128 → P s
by_half P f g s l =
    ⊎_elim (λ (h : s < 64). f s h)
    (λ (h : 64 ≤ s). let e : 64 + (s - 64) ≡ s = omega arith in subst P e (g (s - 64) (omega arith)))
    (cases_lt s 64)

-- ---- rows of two numbers

pub row_law : (a r : List ℕ) (k : ℕ) → get_or r 0 0 ≡ get_or a (2 * k) 0 → get_or r 1 0 ≡ get_or a (2 * k + 1) 0 → RowOf a k r
row_law a r k e f =
    by_half (λ (t : ℕ). bit_at r t ≡ bit_at a (128 * k + t))
    (λ s l.
    let d : 128 * k + s ≡ 64 * (2 * k) + s = omega arith in
    low_bit r s l ∙ ap (has_bit s) e ∙ sym (ap (bit_at a) d ∙ word_bit a (2 * k) s l))
    (λ s l.
    let d : 128 * k + (64 + s) ≡ 64 * (2 * k + 1) + s = omega arith in
    high_bit r s l ∙ ap (has_bit s) f ∙ sym (ap (bit_at a) d ∙ word_bit a (2 * k + 1) s l))

-- bit q of two numbers, by the number h in which it stands
in_two : (r : List ℕ) (q h : ℕ) → h ≡ q % 128 / 64 → bit_at r (q % 128) ≡ has_bit (q % 64) (get_or r h 0)
unfolding bit_at
in_two r q h e = let m : q % 128 % 64 ≡ q % 64 = omega arith in rw (m, ← e)

pub row_adds : {a b c : List ℕ} (k : ℕ) (r : List ℕ) → Merged a (2 * k) (get_or r 0 0) b → Merged b (2 * k + 1) (get_or r 1 0) c
    → Adds a (InRow k r) c
row_adds k r f g =
    adds_as
    (λ q.
    ⊎_elim
    (λ (u : (q / 64 ≡ 2 * k) × (has_bit (q % 64) (get_or r 0 0) ≡ true)).
    let n = u.0 in record { place = omega arith; there = in_two r q 0 (omega arith) ∙ u.1 })
    (λ (u : (q / 64 ≡ 2 * k + 1) × (has_bit (q % 64) (get_or r 1 0) ≡ true)).
    let n = u.0 in record { place = omega arith; there = in_two r q 1 (omega arith) ∙ u.1 }))
    (λ q u.
    let n = u.place in
    ⊎_elim (λ (h : q / 64 ≡ 2 * k). inl (h, sym (in_two r q 0 (omega arith)) ∙ u.there))
    (λ (h : q / 64 ≡ 2 * k → ⊥). inr (omega arith, sym (in_two r q 1 (omega arith)) ∙ u.there))
    (same_or_not (q / 64) (2 * k)))
    (adds_then (merged_adds f) (merged_adds g))

-- ---- a bit of two numbers that others lack

pub missing_low : (a b : List ℕ) (p : ℕ) → Lowest (get_or a 0 0) (get_or b 0 0) p → Fresh a b p
missing_low a b p f =
    let l = f.within in
    record {
      within = omega arith;
      there = low_bit a p f.within ∙ f.there;
      fresh = low_bit b p f.within ∙ f.fresh;
      below = λ q k h. low_bit b q (omega arith) ∙ f.below q k (sym (low_bit a q (omega arith)) ∙ h);
    }

module _ (a b : List ℕ) (low : NoneLacks (get_or a 0 0) (get_or b 0 0)) where
  in_low : (q : ℕ) → q < 64 → bit_at a q ≡ true → bit_at b q ≡ true
  in_low q l h = low_bit b q l ∙ low q l (sym (low_bit a q l) ∙ h)

  pub missing_high : (p : ℕ) → Lowest (get_or a 1 0) (get_or b 1 0) p → Fresh a b (64 + p)
  missing_high p f =
      let l = f.within in
      record {
        within = omega arith;
        there = high_bit a p f.within ∙ f.there;
        fresh = high_bit b p f.within ∙ f.fresh;
        below = λ q k h.
            by_half (λ (q : ℕ). q < 64 + p → bit_at a q ≡ true → bit_at b q ≡ true) (λ q m _ h. in_low q m h)
            (λ q m n h. high_bit b q m ∙ f.below q (omega arith) (sym (high_bit a q m) ∙ h)) q (omega arith) k h;
      }

  pub none_missing : NoneLacks (get_or a 1 0) (get_or b 1 0) → NoneFresh a b
  none_missing high =
      by_half (λ (q : ℕ). bit_at a q ≡ true → bit_at b q ≡ true) in_low
      (λ q l h. high_bit b q l ∙ high q l (sym (high_bit a q l) ∙ h))
