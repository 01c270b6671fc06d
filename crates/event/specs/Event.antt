-- Events and words. Assumes nothing.
use Rattle.std.specs.Prelude.{Bool, ◌&&◌, ◌||◌, List, [], ◌∷◌, ℕ, T, leb}

-- 02 a): "An event is now one of 52 letters": 01's "one byte, a to z", and "A to Z" of 02 a).
unfoldable pub is_event : ℕ → Bool
is_event b = (leb 65 b && leb b 90) || (leb 97 b && leb b 122)

-- 01, Events and rules: "A word is 0 to 255 events" (its length is judged where a word is taken).
abbrev pub Word : Type 0
Word = List ℕ

-- 02 a): "all words over the 52"
abbrev pub Events : Word → Type 0
Events [] = Unit {0}
Events (x ∷ w) = T (is_event x) × Events w
