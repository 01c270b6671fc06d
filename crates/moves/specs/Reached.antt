-- What steps lead to, one after another. Assumes nothing.
use Rattle.std.specs.Prelude.{ℕ}

-- the numbers that steps of R lead to from those of S
pub data Reached (S : ℕ → Type 0) (R : ℕ → ℕ → Type 0) : ℕ → Type 0 where
  start : {p : ℕ} → S p → Reached S R p
  after : {p q : ℕ} → Reached S R p → R p q → Reached S R q
