-- A written text cut into its bytes and names, and its shape: one byte for each. Assumes nothing.
use Rattle.std.specs.Prelude.{ℕ, zero, suc, Bool, cond, ◌&&◌, List, [], ◌∷◌, ◌++◌, leb, eqb, get_or, take}
use Rattle.event.specs.Leading.{leading}
use Rattle.replacement.specs.Replaced.{is_lower}

-- a byte of the text, or a name in angle brackets
pub data Piece : Type 0 where
  own : ℕ → Piece
  named : List ℕ → Piece

-- k letters, 1 to 12, and then the byte c
abbrev pub is_named : ℕ → List ℕ → ℕ → Bool
is_named c s k = leb 1 k && (leb k 12 && eqb (get_or s k 0) c)

-- the length of the name that s begins with, if the byte c follows it; else 0
unfoldable pub name_length : ℕ → List ℕ → ℕ
name_length c s = let k = leading is_lower s in cond (is_named c s k) k 0

-- what a `<` opens: a name and what follows its `>`, or, where there is none, the byte alone
abbrev pub opened : (ℕ → List Piece) → List ℕ → ℕ → List Piece
opened rest s zero = own 60 ∷ rest 0
opened rest s (suc k) = named (take (suc k) s) ∷ rest (suc (suc k))

-- the pieces after the next k bytes
unfoldable pub pieces_from : List ℕ → ℕ → List Piece
pieces_from [] k = []
pieces_from (b ∷ s) zero = cond (eqb b 60) (opened (pieces_from s) s (name_length 62 s)) (own b ∷ pieces_from s 0)
pieces_from (b ∷ s) (suc k) = pieces_from s k

abbrev pub pieces : List ℕ → List Piece
pieces s = pieces_from s 0

-- the shape: each name made the operand `1`, every other byte as it is
unfoldable pub shape_of : List Piece → List ℕ
shape_of [] = []
shape_of (own b ∷ ps) = b ∷ shape_of ps
shape_of (named n ∷ ps) = 49 ∷ shape_of ps

abbrev pub shape : List ℕ → List ℕ
shape s = shape_of (pieces s)

-- the replaced text, where v gives each name's text
unfoldable pub filled : (List ℕ → List ℕ) → List Piece → List ℕ
filled v [] = []
filled v (own b ∷ ps) = b ∷ filled v ps
filled v (named n ∷ ps) = 40 ∷ (v n ++ 41 ∷ filled v ps)
