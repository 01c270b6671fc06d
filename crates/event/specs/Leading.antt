-- How far a list passes a test from its front. Assumes nothing.
use Rattle.std.specs.Prelude.{ℕ, Bool, cond, not, List, length, ltb, Option, Some, None, position}
use Rattle.std.specs.List.{take_while}

-- how many elements pass before the first that does not
unfoldable pub leading : (ℕ → Bool) → List ℕ → ℕ
leading f s = length (take_while f s)

-- the place of the first that does not, if there is one
abbrev pub first_other : (ℕ → Bool) → List ℕ → Option ℕ
first_other f s = position (λ b. not (f b)) s

-- an offset as a place in a list; the end of the list is none
abbrev pub place_in : List ℕ → ℕ → Option ℕ
place_in s n = cond (ltb n (length s)) (Some n) None
