-- Bits of a number and of a run of 64-bit numbers. Assumes nothing.
use Rattle.std.specs.Prelude.{ℕ, ◌+◌, ◌/◌, ◌%◌, ◌^◌, List, [], ◌∷◌, Bool, eqb, get_or}
use Rattle.std.specs.Int.Count.{ones}

-- the bit of x that is worth 2 to the power b is 1
unfoldable pub has_bit : ℕ → ℕ → Bool
has_bit b x = eqb (x / 2 ^ b % 2) 1

-- bit p of a run is 1, where each number of the run holds 64 bits, the lowest first
unfoldable pub bit_at : List ℕ → ℕ → Bool
bit_at a p = has_bit (p % 64) (get_or a (p / 64) 0)

-- the number of ones in a run
unfoldable pub ones_of : List ℕ → ℕ
ones_of [] = 0
ones_of (x ∷ a) = ones x + ones_of a
