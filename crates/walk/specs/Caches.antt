-- Cached closures. Assumes nothing.
use Rattle.std.specs.Prelude.{ℕ, ◌<◌, List, [], get_or}
use Rattle.levels.specs.Sets.{AllLed}
use Rattle.walk.specs.declared.cache.Slot.{Slot}

-- a slot past the cache's end
abbrev pub no_slot : Slot
no_slot = record { set = []; closure = [] }

-- the cache has a slot for each of 256 numbers, of a set of states and of all that free moves lead to from it
abbrev pub Remembered : (closed : List ℕ) (cache : List Slot) → Type 0
Remembered closed cache = (j : ℕ) → j < 256 → AllLed closed (get_or cache j no_slot).set (get_or cache j no_slot).closure
