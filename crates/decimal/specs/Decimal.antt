-- The decimal numeral of a number, computed. Assumes nothing.
use Rattle.std.specs.Prelude.{ℕ, zero, suc, ◌+◌, ◌/◌, ◌%◌, cond, List, [], ◌∷◌, ◌++◌, ltb}

-- the digits of x, of which d + 1 are enough: the last one is x % 10, and those before it write x / 10
unfoldable pub decimal_in : ℕ → ℕ → List ℕ
decimal_in zero x = (48 + x % 10) ∷ []
decimal_in (suc d) x = cond (ltb x 10) ((48 + x) ∷ []) (decimal_in d (x / 10) ++ (48 + x % 10) ∷ [])

-- 01, The program: "decimal without leading zeros"; 20 digits are enough for 64 bits. The code makes them without dividing, as 02 d) asks:
-- "subtract from a table of the powers of ten". That this is the one numeral of x are `decimal_numeral` and `numeral_is` in
-- proofs/NumeralLaws.
abbrev pub decimal : ℕ → List ℕ
decimal x = decimal_in 19 x
