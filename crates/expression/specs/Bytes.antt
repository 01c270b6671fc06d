-- The bytes with which an operand of a rule text begins. Assumes nothing.
use Rattle.std.specs.Prelude.{ℕ, Bool, ◌||◌, eqb}
use Rattle.event.specs.Event.{is_event}

-- a leaf of one byte: `0`, `1`, `.` or a letter
abbrev pub is_leaf : ℕ → Bool
is_leaf b = eqb b 48 || eqb b 49 || eqb b 46 || is_event b

-- one of those, `!`, `(` or `[`
abbrev pub is_start : ℕ → Bool
is_start b = eqb b 33 || eqb b 40 || eqb b 91 || is_leaf b
