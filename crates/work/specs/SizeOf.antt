-- The size of a collection. Assumes nothing.
use Rattle.std.specs.Prelude.{◌≡◌, ◌↔◌, ℕ, length}
use mathlib.Core.List.{List, [], ◌∷◌, Memᴰ}

-- no member of the list stands in it twice
abbrev pub Once : {A : Type 0} → List A → Type 0
Once [] = Unit {0}
Once (p ∷ l) = (Memᴰ p l → ⊥) × Once l

-- 01: "the count equals the size of that collection": the length of a list that has each member of P once, and nothing else
pub record SizeOf {A : Type 0} (P : A → Type 0) (n : ℕ) : Type 0 where
  pub list : List A
  pub once : Once list
  pub holds : (p : A) → Memᴰ p list ↔ P p
  pub count : length list ≡ n
