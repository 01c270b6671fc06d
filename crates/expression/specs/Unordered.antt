-- The order of the letters inside brackets. Assumes nothing.
use Rattle.std.specs.Prelude.{ℕ, ◌+◌, ◌≤◌, ◌<◌, ◌≡◌, List, [], ◌∷◌, ◌++◌, length}
use Rattle.event.specs.Event.{Events}

-- 02 e), number 20: "a letter inside brackets that is not above the one before it in byte order": it stands at the offset i
pub record Unordered (s : List ℕ) (i : ℕ) : Type 0 where
  pub before : List ℕ
  pub letters : List ℕ
  pub last : ℕ
  pub next : ℕ
  pub rest : List ℕ
  pub whole : s ≡ before ++ 91 ∷ (letters ++ last ∷ next ∷ rest)
  pub inside : Events (letters ++ last ∷ next ∷ [])
  pub not_above : next ≤ last
  pub place : i ≡ length before + 1 + length letters + 1

-- "place the offset of the first such letter"
pub record FirstUnordered (s : List ℕ) (i : ℕ) : Type 0 where
  pub there : Unordered s i
  pub first : (j : ℕ) → j < i → Unordered s j → ⊥

-- there is none
abbrev pub Ordered : List ℕ → Type 0
Ordered s = (i : ℕ) → Unordered s i → ⊥
