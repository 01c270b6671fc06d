-- Stars directly after a star. Assumes nothing.
use Rattle.std.specs.Prelude.{ℕ, zero, suc, ◌<◌, ◌≡◌, List, get_or}

-- 02 f), number 21: "a star directly after a star": it stands at the offset n
abbrev pub Double : List ℕ → ℕ → Type 0
Double s zero = ⊥
Double s (suc i) = (get_or s i 0 ≡ 42) × (get_or s (suc i) 0 ≡ 42)

-- "place the first such star"
pub record FirstDouble (s : List ℕ) (n : ℕ) : Type 0 where
  pub there : Double s n
  pub first : (j : ℕ) → j < n → Double s j → ⊥

-- there is none
abbrev pub NoDouble : List ℕ → Type 0
NoDouble s = (n : ℕ) → Double s n → ⊥
