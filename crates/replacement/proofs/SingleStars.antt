-- No star stands directly after a star in a replaced text, if none does in the written text and in what its names stand for. Assumes nothing.
use Prim.Native.Nat.{ℕ}
use native.Mathlib.Omega.{arith}
use mathlib.Core.List.{List, ◌∷◌, ◌++◌}
use Rattle.expression.specs.Stars.{NoDouble}
use Rattle.expression.proofs.DoubleLaws.{no_double_behind, no_double_with, no_double_end, no_double_joined}
use Rattle.replacement.specs.Replaced.{Replaced, ends, byte, name}

module _ {R : List ℕ → List ℕ → Type 0} (named : (n v : List ℕ) → R n v → NoDouble v) where
  -- behind the byte p
  no_double_after : {s u : List ℕ} → Replaced R s u → (p : ℕ) → NoDouble (p ∷ s) → NoDouble (p ∷ u)
  no_double_after ends p h = h
  no_double_after (byte {b = b} {s = s} {u = u} e r) p h =
      no_double_with p (b ∷ u) (λ x y. h 1 (x, y)) (no_double_after r b (no_double_behind p (b ∷ s) h))
  no_double_after (name {n = n} {v = v} {s = s} {u = u} a w r) p h =
      let l = no_double_behind 62 s (no_double_end (p ∷ 60 ∷ n) (62 ∷ s) h) in
      let t = no_double_after r 41 (no_double_with 41 s (λ e. absurd (omega arith)) l) in
      let q = no_double_joined (40 ∷ v) (41 ∷ u) (λ e. omega arith) (no_double_with 40 v (λ e. absurd (omega arith)) (named n v w)) t in
      no_double_with p (40 ∷ (v ++ 41 ∷ u)) (λ e f. omega arith) q

  pub replaced_no_double : {s u : List ℕ} → Replaced R s u → NoDouble s → NoDouble u
  replaced_no_double {s} {u} r h = no_double_behind 0 u (no_double_after r 0 (no_double_with 0 s (λ e. absurd (omega arith)) h))
