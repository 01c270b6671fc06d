-- Lists of spans, and their order. Assumes nothing.
use Rattle.std.specs.Prelude.{◌≡◌, ◌⊎◌, ℕ, ◌<◌}
use mathlib.Core.List.{List, [], ◌∷◌, Memᴰ}

abbrev pub Spans : Type 0
Spans = List (ℕ × ℕ)

-- 01, The program: "by rising i and then rising j"
abbrev pub Before : ℕ × ℕ → ℕ × ℕ → Type 0
Before p q = (p.0 < q.0) ⊎ ((p.0 ≡ q.0) × (p.1 < q.1))

abbrev pub InOrder : Spans → Type 0
InOrder [] = Unit {0}
InOrder (p ∷ l) = ((q : ℕ × ℕ) → Memᴰ q l → Before p q) × InOrder l
