-- Marks as numbers, two for each number of used events. Assumes nothing.
use mathlib.Core.Path.{◌≡◌, sym, ap, ap₂, ◌∙◌}
use mathlib.Core.Logic.{inl, inr, ⊎_elim}
use mathlib.Core.List.{List, [], ◌∷◌}
use Prim.Native.Nat.{ℕ, ◌+◌, ◌*◌, ◌/◌, ◌%◌, ◌<◌}
use native.Mathlib.Omega.{arith}
use lib.ListN.{length, get_or, set, length-set}
use lib.Seq.{get_or-set_same, get_or-set_other}
use Rattle.bits.specs.Bit.{has_bit, bit_at}
use Rattle.bits.specs.Runs.{tally_below, Merged, Adds}
use Rattle.bits.proofs.Digits.{same_or_not}
use Rattle.bits.proofs.Laws.{adds_as}
use Rattle.bits.proofs.Tally.{tally_same, tally_add}
use Rattle.bits.proofs.Laws.{low_bit, high_bit, by_half}
use Rattle.moves.proofs.RowLaws.{row_low, row_high, row_merged}
use Rattle.marks.specs.Marks.{PlaceOf, StoredAt, MarkedAt, MarkedIn}

pub place_law : (e : List ℕ) {a b c : List ℕ} (j : ℕ) → Merged a (2 * j) (get_or e 0 0) b → Merged b (2 * j + 1) (get_or e 1 0) c
    → Adds a (PlaceOf e j) c
place_law e j f g =
    adds_as
    (λ q u. let y : 128 * 0 + q % 128 ≡ q % 128 = omega arith in record { number = u.0; there = rw y at u.1 })
    (λ q u. let y : 128 * 0 + q % 128 ≡ q % 128 = omega arith in (u.number, rw y u.there))
    (row_merged e j 0 f g)

pub marked_law : (m : List ℕ) {a b c : List ℕ} (j : ℕ) → Merged a 0 (get_or m (2 * j) 0) b → Merged b 1 (get_or m (2 * j + 1) 0) c
    → Adds a (MarkedAt m j) c
marked_law m j f g =
    adds_as
    (λ q u. let n = u.0 in let y : q % 128 ≡ q = omega arith in record { small = omega arith; there = rw y at u.1 })
    (λ q u. let n = u.small in let y : q % 128 ≡ q = omega arith in (omega arith, rw y u.there))
    (row_merged m 0 j f g)

-- two numbers of the marks as a set
pub pair_law : (m : List ℕ) (j s : ℕ) → s < 128 → bit_at (get_or m (2 * j) 0 ∷ get_or m (2 * j + 1) 0 ∷ []) s ≡ bit_at m (128 * j + s)
pair_law m j =
    let p = get_or m (2 * j) 0 ∷ get_or m (2 * j + 1) 0 ∷ [] in
    by_half (λ (s : ℕ). bit_at p s ≡ bit_at m (128 * j + s))
    (λ s l. low_bit p s l ∙ sym (row_low m j s l))
    (λ s l. high_bit p s l ∙ sym (row_high m j s l))

-- the states of a set, by its two numbers
pub set_count_law : (a : List ℕ)
    → tally_below 128 (bit_at a) ≡ tally_below 64 (λ (b : ℕ). has_bit b (get_or a 0 0)) + tally_below 64 (λ (b : ℕ). has_bit b (get_or a 1 0))
set_count_law a =
    tally_add 64 64 (bit_at a) ∙ ap₂ (λ (x y : ℕ). x + y) (tally_same 64 _ _ (low_bit a)) (tally_same 64 _ _ (high_bit a))

-- the places of number j, by its two numbers
pub count_law : (a : List ℕ) (j : ℕ)
    → tally_below 128 (λ (s : ℕ). bit_at a (128 * j + s))
    ≡ tally_below 64 (λ (b : ℕ). has_bit b (get_or a (2 * j) 0)) + tally_below 64 (λ (b : ℕ). has_bit b (get_or a (2 * j + 1) 0))
count_law a j =
    tally_add 64 64 (λ (s : ℕ). bit_at a (128 * j + s))
    ∙ ap₂ (λ (x y : ℕ). x + y) (tally_same 64 _ _ (row_low a j)) (tally_same 64 _ _ (row_high a j))

-- the places up to number j, and those of j
pub tally_level : (b : List ℕ) (j : ℕ)
    → tally_below (128 * (j + 1)) (bit_at b) ≡ tally_below (128 * j) (bit_at b) + tally_below 128 (λ (s : ℕ). bit_at b (128 * j + s))
tally_level b j = let e : 128 * (j + 1) ≡ 128 * j + 128 = omega arith in rw e (tally_add (128 * j) 128 (bit_at b))

-- ---- a set stored

pub store_law : (a s : List ℕ) (j : ℕ) → j < 256 → length a ≡ 512
    → StoredAt a s j (set (set a (2 * j) (get_or s 0 0)) (2 * j + 1) (get_or s 1 0))
unfolding bit_at
store_law a s j l n = record {
  here = λ q e.
      ⊎_elim
      (λ (h : q / 64 ≡ 2 * j).
      let z : q % 128 / 64 ≡ 0 = omega arith in
      let m : q % 128 % 64 ≡ q % 64 = omega arith in
      rw (h, z, m) (ap (has_bit (q % 64)) (get_or-set_other (set a (2 * j) (get_or s 0 0)) (2 * j + 1) (2 * j) (get_or s 1 0) 0 (λ d. omega arith)
      ∙ get_or-set_same a (2 * j) (get_or s 0 0) 0 (omega arith))))
      (λ (h : q / 64 ≡ 2 * j → ⊥).
      let k : q / 64 ≡ 2 * j + 1 = omega arith in
      let z : q % 128 / 64 ≡ 1 = omega arith in
      let m : q % 128 % 64 ≡ q % 64 = omega arith in
      rw (k, z, m)
      (ap (has_bit (q % 64)) (get_or-set_same (set a (2 * j) (get_or s 0 0)) (2 * j + 1) (get_or s 1 0) 0 (simp length-set (omega arith)))))
      (same_or_not (q / 64) (2 * j));
  other = λ q ne.
      ap (has_bit (q % 64))
      (get_or-set_other (set a (2 * j) (get_or s 0 0)) (2 * j + 1) (q / 64) (get_or s 1 0) 0 (λ (d : q / 64 ≡ 2 * j + 1). ne (omega arith))
      ∙ get_or-set_other a (2 * j) (q / 64) (get_or s 0 0) 0 (λ (d : q / 64 ≡ 2 * j). ne (omega arith)));
  long = simp length-set;
}

-- a set stored over some of its own states adds the others
pub stored_adds : {a e b : List ℕ} {j : ℕ} → MarkedIn a e j → StoredAt a e j b → Adds a (PlaceOf e j) b
stored_adds {a} {e} {b} {j} inside h = record {
  old = λ q d.
      ⊎_elim
      (λ (n : q / 128 ≡ j).
      let p : q ≡ 128 * j + q % 128 = omega arith in
      h.here q n ∙ inside (q % 128) (omega arith) (ap (bit_at a) (sym p) ∙ d))
      (λ (n : q / 128 ≡ j → ⊥). h.other q n ∙ d) (same_or_not (q / 128) j);
  new = λ q p. h.here q p.number ∙ p.there;
  only = λ q d.
      ⊎_elim (λ (n : q / 128 ≡ j). inr record { number = n; there = sym (h.here q n) ∙ d })
      (λ (n : q / 128 ≡ j → ⊥). inl (sym (h.other q n) ∙ d)) (same_or_not (q / 128) j);
  long = h.long;
}
