-- The parts of a rule in the order of its records. Assumes nothing.
use Rattle.std.specs.Prelude.{List, [], ◌∷◌, ◌++◌, ℕ, T, get_or}
use Rattle.expression.specs.Tree.{Tree, empty, epsilon, letter, union, intersection, concatenation, complement, star, is_special}

-- the part that each record heads
unfoldable pub all_parts : Tree → List Tree
all_parts (empty o) = empty o ∷ []
all_parts (epsilon o) = epsilon o ∷ []
all_parts (letter o c) = letter o c ∷ []
all_parts (union o a b) = all_parts a ++ all_parts b ++ (union o a b ∷ [])
all_parts (intersection o a b) = all_parts a ++ all_parts b ++ (intersection o a b ∷ [])
all_parts (concatenation o a b) = all_parts a ++ all_parts b ++ (concatenation o a b ∷ [])
all_parts (complement o a) = all_parts a ++ (complement o a ∷ [])
all_parts (star o a) = all_parts a ++ (star o a ∷ [])

-- the part that record y heads; `0` past the last record
abbrev pub part_at : Tree → ℕ → Tree
part_at t y = get_or (all_parts t) y (empty 0)

-- record y is a special node
abbrev pub SpecialAt : Tree → ℕ → Type 0
SpecialAt t y = T (is_special (part_at t y))
