-- The star of the empty word, and sets of letters, by computation. Assumes nothing.
use Prim.Native.String.{String}
use mathlib.Core.Path.{◌≡◌, refl}
use mathlib.Core.List.{List, [], ◌∷◌, map}
use mathlib.Core.Bool.{Bool, true, false}
use Rattle.bits.specs.Bit.{has_bit}
use Rattle.event.specs.Event.{is_event}
use Rattle.event.specs.Leading.{leading}
use Rattle.event.specs.LetterSets.{holds, bit_of, gathered}
use Rattle.event.specs.Text.{bytes}
use Rattle.expression.specs.Accept.{accepts}
use Rattle.expression.specs.Leaves.{leaf_at}
use Rattle.expression.specs.Parse.{parse}
use Rattle.expression.specs.TreeOf.{tree_of}
use Rattle.work.specs.Count.{full_count}

-- "`1*` has count 4 on the empty word and must finish"
star_of_empty_word : full_count [] (tree_of (bytes "1*")) ≡ 4
unfolding tree_of parse leaf_at is_event full_count accepts
star_of_empty_word = refl

-- which of a few words a rule has
abbrev of_words : String → List Bool
of_words s = map (λ (w : String). accepts (tree_of (bytes s)) (bytes w)) ("" ∷ "a" ∷ "b" ∷ "Z" ∷ "aZ" ∷ "[" ∷ [])

-- 02 e): "one node that fits any of the letters inside"; "`.` one node for all 52"
set_of_two : of_words "[Za]" ≡ false ∷ true ∷ false ∷ true ∷ false ∷ false ∷ []
unfolding tree_of parse leaf_at leading gathered is_event holds bit_of has_bit accepts
set_of_two = refl

set_of_all : of_words "." ≡ false ∷ true ∷ true ∷ true ∷ false ∷ false ∷ []
unfolding tree_of parse leaf_at leading gathered is_event holds bit_of has_bit accepts
set_of_all = refl

-- 02 e): "Sites write `(a|b|c)` until they run out of nodes": a set is counted as a letter is, and not as a union
set_counts : (full_count (bytes "a") (tree_of (bytes "[ab]")) ≡ 3) × (full_count (bytes "a") (tree_of (bytes "(a|b)")) ≡ 8)
unfolding tree_of parse leaf_at leading gathered is_event holds bit_of has_bit accepts full_count
set_counts = (refl, refl)
