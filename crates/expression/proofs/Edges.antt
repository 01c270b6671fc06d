-- The complement of a letter, asked of words with capitals, by computation. Assumes nothing.
use Prim.Native.String.{String}
use mathlib.Core.Path.{◌≡◌, refl}
use mathlib.Core.List.{[], ◌∷◌, map}
use mathlib.Core.Bool.{true, false}
use Rattle.bits.specs.Bit.{has_bit}
use Rattle.event.specs.Event.{is_event}
use Rattle.event.specs.LetterSets.{single, holds, bit_of}
use Rattle.event.specs.Text.{bytes}
use Rattle.expression.specs.Tree.{complement, letter}
use Rattle.expression.specs.Accept.{accepts}

-- 02 a): "complement is taken against all words over the 52": `!a` has every word of letters but `a`, and no word with another byte
complement_of_a : map (λ (s : String). accepts (complement 0 (letter 1 (single 97))) (bytes s)) ("a" ∷ "A" ∷ "Z" ∷ "aZ" ∷ "" ∷ "a[" ∷ "`" ∷ [])
    ≡ false ∷ true ∷ true ∷ true ∷ true ∷ false ∷ false ∷ []
unfolding accepts is_event holds bit_of has_bit
complement_of_a = refl
