-- The row of a start, number by number. Assumes nothing.
use mathlib.Core.Path.{◌≡◌, refl, sym, ap, ap₂, ◌∙◌}
use mathlib.Core.Bool.{Bool, true, false, not, ◌&&◌, ◌||◌, xor, cond, and-false, or-false, false≢true}
use mathlib.Core.Logic.{⊎_elim}
use mathlib.Core.List.{List}
use mathlib.Mathlib.Data.Bool.Basic.{eq-false_of_not-eq-true}
use Prim.Native.Nat.{ℕ, zero, suc, ◌+◌, ◌-◌, ◌*◌, ◌/◌, ◌%◌, ◌^◌, max, min, ◌≤◌, ◌<◌}
use native.Mathlib.Nat.{one-mul}
use native.Mathlib.Omega.{arith}
use lib.Bits.{bit_and, bit_or, bit_xor}
use lib.Dec.{leb, ltb, eqb, lit<}
use lib.ListN.{length, get_or, set, replicate, length-replicate, get_or-replicate, get_or-eq_default}
use lib.Seq.{get_or-set_same, get_or-set_other}
use lib.Pow.{shl_exact}
use borrow.Author.Tests.{lt-ltb, le-ltb, le-leb, lt-leb, leb-true, eq-eqb, ne_eqb}
use Rattle.bits.specs.Bit.{has_bit, bit_at}
use Rattle.bits.specs.Runs.{indicator}
use Rattle.bits.proofs.Digits.{below_or_not, same_or_not, zero_has, has_or, has_xor, power_has, power_lacks, mask_has}
use Rattle.marks.specs.declared.target.Target.{Target}
use Rattle.marks.specs.Marks.{EndsBefore}
use Rattle.marks.specs.Rows.{decide, judged, met, met_from, row_of, Shows}

-- ---- one state, and both exits

pub marked_law : (marks : List ℕ) (k x : ℕ) → get_or marks (2 * k + x / 64) 0 / 2 ^ (x % 64) % 2 ≡ indicator (bit_at marks (128 * k + x))
unfolding bit_at has_bit
marked_law marks k x =
    let m : (128 * k + x) % 64 ≡ x % 64 = omega arith in
    let d : (128 * k + x) / 64 ≡ 2 * k + x / 64 = omega arith in
    rw (m, d) (of_test (get_or marks (2 * k + x / 64) 0 / 2 ^ (x % 64) % 2) (omega arith))
  where
    of_test : (n : ℕ) → n < 2 → n ≡ indicator (eqb n 1)
    of_test n h =
        ⊎_elim (λ (e : n ≡ 1). rw (eq-eqb n 1 e) e) (λ (e : n ≡ 1 → ⊥). rw (ne_eqb n 1 e) (omega arith)) (same_or_not n 1)

pub both_law : (s t : Bool) → bit_and (indicator s) (indicator t) ≡ indicator (s && t)
both_law true true = refl
both_law true false = refl
both_law false true = refl
both_law false false = refl

-- ---- the numbers at which both are marked, gathered one after another

-- f at the numbers below j
abbrev pub up_to : (ℕ → Bool) → ℕ → ℕ → Bool
up_to f j k = ltb k j && f k

later : (f : ℕ → Bool) (j k : ℕ) → (k ≡ j → ⊥) → up_to f j k ≡ up_to f (j + 1) k
later f j k n =
    ⊎_elim (λ (l : k < j). rw (lt-ltb k j l, lt-ltb k (j + 1) (omega arith)))
    (λ (l : j ≤ k). rw (le-ltb k j l, le-ltb k (j + 1) (omega arith)))
    (below_or_not k j)

at_last : (f : ℕ → Bool) (j : ℕ) → up_to f (j + 1) j ≡ f j
at_last f j = rw (lt-ltb j (j + 1) (omega arith))

not_yet : (f : ℕ → Bool) (j : ℕ) → up_to f j j ≡ false
not_yet f j = rw (le-ltb j j (omega arith))

-- a test's bit moved up to place c
moved : (t : Bool) (c : ℕ) → c < 64 → (indicator t * 2 ^ c) % 2 ^ 64 ≡ cond t (2 ^ c) 0
moved true c l = shl_exact 1 c 64 (lit< tt) (omega arith) ∙ one-mul (2 ^ c)
moved false c l = shl_exact 0 c 64 (lit< tt) (omega arith) ∙ omega arith

moved_bit : (t : Bool) (b c : ℕ) → c < 64 → has_bit b ((indicator t * 2 ^ c) % 2 ^ 64) ≡ (eqb b c && t)
moved_bit true b c l =
    ap (has_bit b) (moved true c l)
    ∙ ⊎_elim (λ (e : b ≡ c). rw (e, eq-eqb c c refl) (power_has c)) (λ (n : b ≡ c → ⊥). rw (ne_eqb b c n) (power_lacks c b n))
    (same_or_not b c)
moved_bit false b c l = ap (has_bit b) (moved false c l) ∙ zero_has b ∙ sym (and-false (eqb b c))

module _ (marks : List ℕ) (o : Target) (i w : ℕ) where
  f : ℕ → Bool
  f = met_from marks o i

  -- what holds before number k
  pub record Gathering (k row : ℕ) : Type 0 where
    pub begun : i ≤ k
    pub word : 64 * w ≤ k
    pub shows : Shows (up_to (met_from marks o i) k) w row

  pub gather_start : {k : ℕ} → k ≡ max i (64 * w) → Gathering k 0
  gather_start {k} e = record {
    begun = omega arith;
    word = omega arith;
    shows = λ b l.
        zero_has b
        ∙ ⊎_elim (λ (h : 64 * w + b < k). rw (lt-ltb (64 * w + b) k h, lt-leb i (64 * w + b) (omega arith)))
        (λ (h : k ≤ 64 * w + b). rw (le-ltb (64 * w + b) k h))
        (below_or_not (64 * w + b) k);
  }

  pub gather_turn : {k row v : ℕ} → Gathering k row → k < 64 * w + 64 → v ≡ indicator (met marks o k)
      → Gathering (k + 1) (bit_or row ((v * 2 ^ (k % 64)) % 2 ^ 64))
  unfolding f
  gather_turn {k} {row} {v} g h e =
      let begun = g.begun in
      let word = g.word in
      let t = met marks o k in
      let is : t ≡ f k = sym (ap (λ (z : Bool). z && met marks o k) (le-leb i k begun)) in
      rw e record {
        begun = omega arith;
        word = omega arith;
        shows = λ b l.
            has_or b row ((indicator t * 2 ^ (k % 64)) % 2 ^ 64)
            ∙ ap₂ ◌||◌ (g.shows b l) (moved_bit t b (k % 64) (omega arith))
            ∙ ⊎_elim
            (λ (v : b ≡ k % 64).
            let m : 64 * w + b ≡ k = omega arith in
            rw (m, eq-eqb b (k % 64) v) (ap (◌|| t) (not_yet f k) ∙ is ∙ sym (at_last f k)))
            (λ (v : b ≡ k % 64 → ⊥).
            ap (λ (z : Bool). up_to f k (64 * w + b) || (z && t)) (ne_eqb b (k % 64) v) ∙ or-false (up_to f k (64 * w + b))
            ∙ later f k (64 * w + b) (λ (z : 64 * w + b ≡ k). v (omega arith)))
            (same_or_not b (k % 64));
      }

  -- from the end on nothing is marked
  unmet : (end : ℕ) → EndsBefore marks end → (k : ℕ) → end ≤ k → met marks o k ≡ false
  unmet end ends k h =
      let l = o.left_bound in
      let e : (128 * k + o.left) / 128 ≡ k = omega arith in
      ap (◌&& bit_at marks (128 * k + o.right))
      (eq-false_of_not-eq-true (λ (m : bit_at marks (128 * k + o.left) ≡ true). let n = ends (128 * k + o.left) m in omega arith))

  pub gather_done : {k row : ℕ} (end : ℕ) → EndsBefore marks end → Gathering k row → min end (64 * w + 64) ≤ k
      → Shows (met_from marks o i) w row
  gather_done {k} {row} end ends g h b m =
      g.shows b m
      ∙ ⊎_elim (λ (z : 64 * w + b < k). rw (lt-ltb (64 * w + b) k z))
      (λ (z : k ≤ 64 * w + b).
      ap (λ (t : Bool). t && met_from marks o i (64 * w + b)) (le-ltb (64 * w + b) k z)
      ∙ sym (ap (leb i (64 * w + b) &&◌) (unmet end ends (64 * w + b) (omega arith)) ∙ and-false (leb i (64 * w + b))))
      (below_or_not (64 * w + b) k)

-- ---- the numbers below k

module _ (w k : ℕ) where
  pub below_none : k ≤ 64 * w → Shows (λ (m : ℕ). ltb m k) w 0
  below_none h b l = zero_has b ∙ sym (le-ltb (64 * w + b) k (omega arith))

  pub below_all : 64 * w + 64 ≤ k → Shows (λ (m : ℕ). ltb m k) w 18446744073709551615
  below_all h b l = mask_has b 64 ∙ lt-ltb b 64 l ∙ sym (lt-ltb (64 * w + b) k (omega arith))

  pub below_some : {v : ℕ} → v ≡ 2 ^ (k - 64 * w) → 64 * w < k → Shows (λ (m : ℕ). ltb m k) w (v - 1)
  below_some e h b l =
      ap (λ (z : ℕ). has_bit b (z - 1)) e ∙ mask_has b (k - 64 * w)
      ∙ ⊎_elim (λ (z : 64 * w + b < k). lt-ltb b (k - 64 * w) (omega arith) ∙ sym (lt-ltb (64 * w + b) k z))
      (λ (z : k ≤ 64 * w + b). le-ltb b (k - 64 * w) (omega arith) ∙ sym (le-ltb (64 * w + b) k z))
      (below_or_not (64 * w + b) k)

-- ---- the row of a start

plain : (s t : Bool) → decide s t false ≡ (s && t)
plain true true = refl
plain true false = refl
plain false t = refl

turned : (s t : Bool) → decide s t true ≡ not (s && t)
turned true true = refl
turned true false = refl
turned false t = refl

-- the row of a target by its complement
row_by : (marks : List ℕ) (o : Target) (c : Bool) (i n k : ℕ) → o.complement ≡ c
    → row_of marks o i n k ≡ (leb i k && (leb k n && decide (bit_at marks (128 * k + o.left)) (bit_at marks (128 * k + o.right)) c))
unfolding row_of
row_by marks o c i n k e = rw e refl

module _ (marks : List ℕ) (o : Target) (i n end : ℕ) (ends : EndsBefore marks end) (short : end ≤ n + 1) where
  -- a number up to n, or not
  row_plain : o.complement ≡ false → (k : ℕ) → met_from marks o i k ≡ row_of marks o i n k
  row_plain c k =
      ⊎_elim
      (λ (h : k < n + 1).
      ap (λ (t : Bool). leb i k && (t && met marks o k)) (sym (le-leb k n (omega arith)))
      ∙ ap (λ (t : Bool). leb i k && (leb k n && t)) (sym (plain (bit_at marks (128 * k + o.left)) (bit_at marks (128 * k + o.right)))))
      (λ (h : n + 1 ≤ k).
      ap (leb i k &&◌) (unmet marks o i 0 end ends k (omega arith))
      ∙ sym (ap (λ (t : Bool). leb i k && (t && decide (bit_at marks (128 * k + o.left)) (bit_at marks (128 * k + o.right)) false))
      (lt-leb k n (omega arith))))
      (below_or_not k (n + 1))
      ∙ sym (row_by marks o false i n k c)

  row_turned : o.complement ≡ true → i ≤ n → (k : ℕ) → xor (met_from marks o i k) (xor (ltb k (n + 1)) (ltb k i)) ≡ row_of marks o i n k
  unfolding xor
  row_turned c v k =
      ⊎_elim
      (λ (h : k < i). rw (lt-leb i k h, lt-ltb k (n + 1) (omega arith), lt-ltb k i h))
      (λ (h : i ≤ k).
      ⊎_elim
      (λ (z : k < n + 1).
      rw (le-leb i k h, lt-ltb k (n + 1) z, le-ltb k i h, le-leb k n (omega arith))
      (differs (met marks o k) ∙ sym (turned (bit_at marks (128 * k + o.left)) (bit_at marks (128 * k + o.right)))))
      (λ (z : n + 1 ≤ k).
      rw (le-leb i k h, le-ltb k (n + 1) z, le-ltb k i h, lt-leb k n (omega arith))
      (ap (λ (t : Bool). xor t false) (unmet marks o i 0 end ends k (omega arith))))
      (below_or_not k (n + 1)))
      (below_or_not k i)
      ∙ sym (row_by marks o true i n k c)
    where
      differs : (t : Bool) → xor t true ≡ not t
      differs true = refl
      differs false = refl

  module _ (w row : ℕ) (s : Shows (met_from marks o i) w row) where
    pub plain_shown : o.complement ≡ false → Shows (row_of marks o i n) w row
    plain_shown e b m = s b m ∙ row_plain e (64 * w + b)

    pub turned_shown : o.complement ≡ true → i ≤ n → (a c : ℕ) → Shows (λ (m : ℕ). ltb m (n + 1)) w a → Shows (λ (m : ℕ). ltb m i) w c
        → Shows (row_of marks o i n) w (bit_xor row (bit_xor a c))
    turned_shown e v a c u z b m =
        has_xor b row (bit_xor a c)
        ∙ ap₂ xor (s b m) (has_xor b a c ∙ ap₂ xor (u b m) (z b m))
        ∙ row_turned e v (64 * w + b)

-- ---- the four numbers of a row

pub row_law : (f : ℕ → Bool) (r : List ℕ) → Shows f 0 (get_or r 0 0) → Shows f 1 (get_or r 1 0) → Shows f 2 (get_or r 2 0) → Shows f 3 (get_or r 3 0)
    → (k : ℕ) → k < 256 → bit_at r k ≡ f k
unfolding bit_at
row_law f r a b c d k l =
    let e : 64 * (k / 64) + k % 64 ≡ k = omega arith in
    by_number (k / 64) (omega arith) (k % 64) (omega arith) ∙ ap f e
  where
    by_number : (h : ℕ) → h < 4 → Shows f h (get_or r h 0)
    by_number zero m = a
    by_number (suc zero) m = b
    by_number (suc (suc zero)) m = c
    by_number (suc (suc (suc zero))) m = d
    by_number (suc (suc (suc (suc h)))) m = absurd (omega arith)

-- the spans of a row are those from i to n
pub row_spans : (marks : List ℕ) (o : Target) (i n : ℕ) (r : List ℕ) → length r ≡ 4
    → ((k : ℕ) → k < 256 → bit_at r k ≡ row_of marks o i n k) → (k : ℕ) → bit_at r k ≡ true → (i ≤ k) × (k ≤ n)
unfolding row_of bit_at
row_spans marks o i n r long h k e =
    ⊎_elim (λ (l : k < 256). here (leb i k) (leb k n) refl refl (sym (h k l) ∙ e))
    (λ (l : 256 ≤ k).
    let z : get_or r (k / 64) 0 ≡ 0 = get_or-eq_default r 0 (omega arith) in
    absurd (false≢true (sym (zero_has (k % 64)) ∙ ap (has_bit (k % 64)) (sym z) ∙ e)))
    (below_or_not k 256)
  where
    here : (p q : Bool) → leb i k ≡ p → leb k n ≡ q → (p && (q && judged marks o k)) ≡ true → (i ≤ k) × (k ≤ n)
    here true true p q d = (leb-true i k p, leb-true k n q)
    here true false p q d = absurd (false≢true d)
    here false q p i d = absurd (false≢true d)

-- ---- the row of one span

pub in_low : (a : List ℕ) (x : ℕ) → x < 64 → get_or a 0 0 / 2 ^ x % 2 ≡ indicator (bit_at a x)
in_low a x l =
    let e : x % 64 ≡ x = omega arith in
    let d : 2 * 0 + x / 64 ≡ 0 = omega arith in
    let z : 128 * 0 + x ≡ x = omega arith in
    rw (e, d, z) at (marked_law a 0 x)

pub in_high : (a : List ℕ) (x : ℕ) → 64 ≤ x → x < 128 → get_or a 1 0 / 2 ^ (x - 64) % 2 ≡ indicator (bit_at a x)
in_high a x l h =
    let e : x % 64 ≡ x - 64 = omega arith in
    let d : 2 * 0 + x / 64 ≡ 1 = omega arith in
    let z : 128 * 0 + x ≡ x = omega arith in
    rw (e, d, z) at (marked_law a 0 x)

pub one_span : (t : Bool) (i v : ℕ) → i < 256 → v ≡ indicator t → (k : ℕ) → k < 256
    → bit_at (set (replicate 4 0) (i / 64) ((v * 2 ^ (i % 64)) % 2 ^ 64)) k ≡ (eqb k i && t)
unfolding bit_at
one_span t i v l e k h =
    ⊎_elim
    (λ (z : k / 64 ≡ i / 64).
    rw (z, e) (ap (has_bit (k % 64)) (get_or-set_same (replicate 4 0) (i / 64) _ 0 (simp length-replicate (omega arith)))
    ∙ moved_bit t (k % 64) (i % 64) (omega arith) ∙ ap (◌&& t) (same_test k i z)))
    (λ (z : k / 64 ≡ i / 64 → ⊥).
    ap (has_bit (k % 64)) (get_or-set_other (replicate 4 0) (i / 64) (k / 64) _ 0 z ∙ get_or-replicate 4 (k / 64) 0 0 (omega arith))
    ∙ zero_has (k % 64) ∙ sym (ap (◌&& t) (ne_eqb k i (λ (d : k ≡ i). z (ap (λ (n : ℕ). n / 64) d)))))
    (same_or_not (k / 64) (i / 64))
  where
    same_test : (k i : ℕ) → k / 64 ≡ i / 64 → eqb (k % 64) (i % 64) ≡ eqb k i
    same_test k i z =
        ⊎_elim (λ (d : k ≡ i). rw (eq-eqb (k % 64) (i % 64) (ap (λ (n : ℕ). n % 64) d), eq-eqb k i d))
        (λ (d : k ≡ i → ⊥). rw (ne_eqb (k % 64) (i % 64) (λ e. d (omega arith)), ne_eqb k i d)) (same_or_not k i)
