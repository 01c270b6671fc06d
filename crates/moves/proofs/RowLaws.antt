-- Rows of pairs of states: row k is the numbers 2 * k and 2 * k + 1 of a run, and bit 128 * k + t is the pair of k and t. Assumes nothing.
use mathlib.Core.Path.{◌≡◌, sym, ap, ◌∙◌}
use mathlib.Core.Bool.{true}
use mathlib.Core.Logic.{inl, inr, ⊎_elim}
use mathlib.Core.List.{List}
use Prim.Native.Nat.{ℕ, ◌+◌, ◌*◌, ◌/◌, ◌%◌, ◌<◌}
use native.Mathlib.Omega.{arith}
use lib.ListN.{get_or}
use Rattle.bits.specs.Bit.{has_bit, bit_at}
use Rattle.bits.specs.Runs.{Merged, Adds}
use Rattle.bits.proofs.Digits.{same_or_not}
use Rattle.bits.proofs.Laws.{word_bit, merged_adds, adds_then, adds_as}

-- ---- bits, by rows

pub row_low : (a : List ℕ) (k s : ℕ) → s < 64 → bit_at a (128 * k + s) ≡ has_bit s (get_or a (2 * k) 0)
row_low a k s l = let e : 128 * k + s ≡ 64 * (2 * k) + s = omega arith in ap (bit_at a) e ∙ word_bit a (2 * k) s l

pub row_high : (a : List ℕ) (k s : ℕ) → s < 64 → bit_at a (128 * k + (64 + s)) ≡ has_bit s (get_or a (2 * k + 1) 0)
row_high a k s l = let e : 128 * k + (64 + s) ≡ 64 * (2 * k + 1) + s = omega arith in ap (bit_at a) e ∙ word_bit a (2 * k + 1) s l

-- ---- rows

-- v is the number of row k in which the bit of the pair of k and q % 128 stands
row_bit_lem : (c : List ℕ) (k q v : ℕ) → v ≡ 2 * k + q % 128 / 64 → bit_at c (128 * k + q % 128) ≡ has_bit (q % 64) (get_or c v 0)
unfolding bit_at
row_bit_lem c k q v e =
    let a : (128 * k + q % 128) % 64 ≡ q % 64 = omega arith in
    let b : (128 * k + q % 128) / 64 ≡ v = omega arith in
    rw (a, b)

-- row k of c merged into row s of a
pub row_merged : (c : List ℕ) {a b d : List ℕ} (s k : ℕ)
    → Merged a (2 * s) (get_or c (2 * k) 0) b → Merged b (2 * s + 1) (get_or c (2 * k + 1) 0) d
    → Adds a (λ (q : ℕ). (q / 128 ≡ s) × (bit_at c (128 * k + q % 128) ≡ true)) d
row_merged c s k f g =
    adds_as
    (λ q.
    ⊎_elim
    (λ (u : (q / 64 ≡ 2 * s) × (has_bit (q % 64) (get_or c (2 * k) 0) ≡ true)).
    let n = u.0 in
    (omega arith, row_bit_lem c k q (2 * k) (omega arith) ∙ u.1))
    (λ (u : (q / 64 ≡ 2 * s + 1) × (has_bit (q % 64) (get_or c (2 * k + 1) 0) ≡ true)).
    let n = u.0 in
    (omega arith, row_bit_lem c k q (2 * k + 1) (omega arith) ∙ u.1)))
    (λ q u.
    let n = u.0 in
    ⊎_elim (λ (h : q / 64 ≡ 2 * s). inl (h, sym (row_bit_lem c k q (2 * k) (omega arith)) ∙ u.1))
    (λ (h : q / 64 ≡ 2 * s → ⊥). inr (omega arith, sym (row_bit_lem c k q (2 * k + 1) (omega arith)) ∙ u.1))
    (same_or_not (q / 64) (2 * s)))
    (adds_then (merged_adds f) (merged_adds g))
