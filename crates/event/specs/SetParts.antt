-- What the laws and the functions of sets of letters speak of. Assumes nothing.
use Rattle.std.specs.Prelude.{ℕ, ◌+◌, ◌≤◌, ◌<◌, ◌≡◌, Bool, true, false, cond, ◌||◌, List, [], ◌∷◌, T, ltb, eqb, Option, MatchOption}
use Rattle.bits.specs.Bit.{has_bit}
use Rattle.event.specs.Event.{Word}
use Rattle.event.specs.declared.sets.LetterSet.{LetterSet}

-- the letter at an index
abbrev pub letter_at : ℕ → ℕ
letter_at i = cond (ltb i 26) (i + 65) (i + 71)

-- a number stands in a text
unfoldable pub is_in : ℕ → List ℕ → Bool
is_in x [] = false
is_in x (b ∷ u) = eqb x b || is_in x u

-- r is the first index from i on whose bit the set has
pub record FirstIndex (c : LetterSet) (i r : ℕ) : Type 0 where
  pub from : i ≤ r
  pub within : r < 64
  pub there : has_bit r c.bits ≡ true
  pub between : (j : ℕ) → i ≤ j → j < r → has_bit j c.bits ≡ true → ⊥

-- the set has no bit from index i on
abbrev pub NoIndex : LetterSet → ℕ → Type 0
NoIndex c i = (j : ℕ) → i ≤ j → j < 64 → has_bit j c.bits ≡ true → ⊥

-- the first index from i on whose bit the set has, if there is one
abbrev pub NextIndex : LetterSet → ℕ → Option ℕ → Type 0
NextIndex c i found = MatchOption found (NoIndex c i) (FirstIndex c i)

-- no bit stands for anything but a letter
abbrev pub OnlyLetters : LetterSet → Type 0
OnlyLetters c = c.bits < 4503599627370496

-- a word of one event, which passes a test
abbrev pub OneOf : (ℕ → Bool) → Word → Type 0
OneOf f w = (x : ℕ) × (w ≡ x ∷ []) × T (f x)
