-- The places of one number of used events, marked and counted, and the next event. Assumes nothing.
use Rattle.std.specs.Prelude.{ℕ, ◌+◌, ◌*◌, ◌/◌, ◌%◌, ◌≤◌, ◌<◌, ◌≡◌, List, Bool, true, false, length, get_or}
use Rattle.bits.specs.Bit.{bit_at}
use Rattle.bits.specs.Runs.{tally_below, Adds}
use Rattle.levels.specs.Sets.{LetterExit}
use Rattle.marks.specs.Marks.{PlaceOf}

-- q is the place, at the number after j, of the exit of a node that fits event j of the word, if there is one, and whose entry is in the set
pub record NextExit (letters word set : List ℕ) (j q : ℕ) : Type 0 where
  pub within : j < length word
  pub number : q / 128 ≡ j + 1
  pub exit : LetterExit letters set (get_or word j 0) (q % 128)

-- the set's places at number j are marked and counted, and the next event is read
pub record WentOn (letters word set : List ℕ) (j count limit : ℕ) (a b : List ℕ) (c : ℕ) : Type 0 where
  pub middle : List ℕ
  pub marked : Adds a (PlaceOf set j) middle
  pub read : Adds middle (NextExit letters word set j) b
  pub counted : c ≡ count + tally_below 128 (λ (s : ℕ). bit_at middle (128 * j + s))
  pub bounded : c ≤ limit

-- the set's places at number j are marked, and with them the limit is passed
pub record Stopped (set : List ℕ) (j count limit : ℕ) (a b : List ℕ) (c : ℕ) : Type 0 where
  pub marked : Adds a (PlaceOf set j) b
  pub spends : c ≡ limit
  pub over : limit < count + tally_below 128 (λ (s : ℕ). bit_at b (128 * j + s))

-- the one or the other
pub record Advanced (letters word set : List ℕ) (j count limit : ℕ) (a b : List ℕ) (c : ℕ) (spent : Bool) : Type 0 where
  pub on : spent ≡ false → WentOn letters word set j count limit a b c
  pub stop : spent ≡ true → Stopped set j count limit a b c
