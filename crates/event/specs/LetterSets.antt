-- Sets of letters. Assumes nothing.
use Rattle.std.specs.Prelude.{ℕ, ◌-◌, ◌^◌, Bool, cond, ◌&&◌, List, [], ◌∷◌, leb}
use Rattle.std.specs.Int.Bits.{bit_or}
use Rattle.bits.specs.Bit.{has_bit}
use Rattle.event.specs.Event.{is_event}
use Rattle.event.specs.declared.sets.LetterSet.{LetterSet}

-- the index of a letter's bit in a set: A to Z have 0 to 25, a to z 26 to 51
abbrev pub letter_index : ℕ → ℕ
letter_index b = cond (leb b 90) (b - 65) (b - 71)

-- the set has the letter b
unfoldable pub holds : LetterSet → ℕ → Bool
holds c b = is_event b && has_bit (letter_index b) c.bits

-- the bit of a letter alone; none of a byte that is no letter
unfoldable pub bit_of : ℕ → ℕ
bit_of b = cond (is_event b) (2 ^ letter_index b) 0

-- no letter; all 52
abbrev pub none : LetterSet
none = record { bits = 0 }

abbrev pub every : LetterSet
every = record { bits = 2 ^ 52 - 1 }

-- the set with one letter more
abbrev pub plus : LetterSet → ℕ → LetterSet
plus c b = record { bits = bit_or c.bits (bit_of b) }

-- 02 e): "a single letter as a set of one"
abbrev pub single : ℕ → LetterSet
single b = plus none b

-- the set with the letters of a text more
unfoldable pub gathered : LetterSet → List ℕ → LetterSet
gathered c [] = c
gathered c (b ∷ u) = gathered (plus c b) u

-- the letters of a text
abbrev pub letters_of : List ℕ → LetterSet
letters_of u = gathered none u
