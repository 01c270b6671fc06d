-- The next end of a row, looked for number by number. Assumes nothing.
use Prim.Native.Nat.{ℕ, ◌+◌, ◌-◌, ◌*◌, ◌/◌, ◌%◌, ◌^◌, ◌≤◌, ◌<◌}
use native.Mathlib.Omega.{arith}
use mathlib.Core.Path.{◌≡◌, refl, sym, ap, ◌∙◌}
use mathlib.Core.Logic.{⊎_elim}
use mathlib.Core.Bool.{Bool, true, false}
use mathlib.Core.List.{List}
use lib.Dec.{ltb}
use lib.ListN.{get_or}
use borrow.Author.Tests.{ltb-true, ltb-false}
use Rattle.bits.specs.Bit.{has_bit, bit_at}
use Rattle.bits.specs.Runs.{NoneLacks, Lowest}
use Rattle.bits.proofs.Digits.{below_or_not, mask_has}
use Rattle.listing.specs.Marked.{Next}

fails : (x : Bool) → (x ≡ true → ⊥) → x ≡ false
fails false h = refl
fails true h = absurd (h refl)

-- bit k, by its number q
by_number : (row : List ℕ) (k q : ℕ) → k / 64 ≡ q → bit_at row k ≡ has_bit (k % 64) (get_or row q 0)
unfolding bit_at
by_number row k q e = ap (λ (h : ℕ). has_bit (k % 64) (get_or row h 0)) e

-- no bit is 1 from `from` on and before j
abbrev pub None : List ℕ → ℕ → ℕ → Type 0
None row from j = (k : ℕ) → from ≤ k → k < j → bit_at row k ≡ false

-- the number of j, where y - 1 has the bits before j
module _ (row : List ℕ) {from j y : ℕ} (none : None row from j) (power : y ≡ 2 ^ (j % 64)) where
  -- the bits before j are left out
  left_out : (c : ℕ) → has_bit c (y - 1) ≡ ltb c (j % 64)
  left_out c = rw power (mask_has c (j % 64))

  -- no bit from j on is 1 before bit b of the number
  before : (b : ℕ) → b ≤ 64
      → ((d : ℕ) → d < b → has_bit d (get_or row (j / 64) 0) ≡ true → has_bit d (y - 1) ≡ true) → None row from (64 * (j / 64) + b)
  before b w below k l m =
      ⊎_elim (λ (s : k < j). none k l s)
      (λ (s : j ≤ k).
      let q : k / 64 ≡ j / 64 = omega arith in
      by_number row k (j / 64) q
      ∙ fails (has_bit (k % 64) (get_or row (j / 64) 0)) (λ e.
      let t = ltb-true (k % 64) (j % 64) (sym (left_out (k % 64)) ∙ below (k % 64) (omega arith) e) in
      omega arith))
      (below_or_not k j)

  -- it has none
  pub none_on : NoneLacks (get_or row (j / 64) 0) (y - 1) → None row from (64 * (j / 64) + 64)
  none_on h = before 64 (omega arith) h

  -- b is the first
  pub next_found : (n b : ℕ) → from ≤ j → Lowest (get_or row (j / 64) 0) (y - 1) b → 64 * (j / 64) + b ≤ n
      → Next (bit_at row) from n (64 * (j / 64) + b)
  next_found n b f h w =
      let l = h.within in
      let s = ltb-false b (j % 64) (sym (left_out b) ∙ h.fresh) in
      let q : (64 * (j / 64) + b) / 64 ≡ j / 64 = omega arith in
      let r : (64 * (j / 64) + b) % 64 ≡ b = omega arith in
      record {
        from = omega arith;
        within = w;
        there =
            by_number row (64 * (j / 64) + b) (j / 64) q ∙ ap (λ (c : ℕ). has_bit c (get_or row (j / 64) 0)) r ∙ h.there;
        none = before b (omega arith) h.below;
      }

  -- the first is beyond n
  pub none_left : (n b : ℕ) → Lowest (get_or row (j / 64) 0) (y - 1) b → n < 64 * (j / 64) + b
      → (k : ℕ) → from ≤ k → k ≤ n → bit_at row k ≡ false
  none_left n b h w k l m = before b (omega (arith, h.within)) h.below k l (omega arith)
