-- The events among all 256 bytes, and sets of them, by computation. Assumes nothing.
use mathlib.Core.Path.{◌≡◌, refl}
use Rattle.event.specs.Event.{is_event}
use mathlib.Core.List.{[], ◌∷◌, map}
use Prim.Native.String.{String}
use Rattle.event.specs.LetterSets.{bit_of, every, gathered, letters_of}
use Rattle.event.specs.Letters.{events_below}
use Rattle.event.specs.Text.{bytes}

-- 02 a): "An event is now one of 52 letters"
fifty_two : events_below 256 ≡ bytes "ABCDEFGHIJKLMNOPQRSTUVWXYZabcdefghijklmnopqrstuvwxyz"
unfolding is_event events_below
fifty_two = refl

-- 02 e): "all 52", as one set
all_letters : letters_of (bytes "ABCDEFGHIJKLMNOPQRSTUVWXYZabcdefghijklmnopqrstuvwxyz") ≡ every
unfolding is_event bit_of gathered
all_letters = refl

-- the first and the last letter of each run
ends : map (λ (s : String). (letters_of (bytes s)).bits) ("A" ∷ "Z" ∷ "a" ∷ "z" ∷ "Zz" ∷ []) ≡ 1 ∷ 33554432 ∷ 67108864 ∷ 2251799813685248 ∷ 2251799847239680 ∷ []
unfolding is_event bit_of gathered
ends = refl
