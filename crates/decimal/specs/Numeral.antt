-- Decimal numerals: what a row of digits writes. Assumes nothing.
use Rattle.std.specs.Prelude.{ℕ, ◌+◌, ◌-◌, ◌*◌, ◌≤◌, ◌≡◌, Bool, ◌&&◌, List, [], ◌∷◌, T, leb, length, get_or}

-- decimal digits, and the number that a row of them writes after those that wrote x
abbrev pub is_digit : ℕ → Bool
is_digit b = leb 48 b && leb b 57

abbrev pub AllDigits : List ℕ → Type 0
AllDigits [] = Unit {0}
AllDigits (b ∷ ds) = T (is_digit b) × AllDigits ds

abbrev pub value_from : ℕ → List ℕ → ℕ
value_from x [] = x
value_from x (b ∷ ds) = value_from (x * 10 + (b - 48)) ds

abbrev pub value_of : List ℕ → ℕ
value_of ds = value_from 0 ds

-- 01, The program: "decimal without leading zeros"; the number 0 is the one digit `0`
pub record Numeral (ds : List ℕ) (x : ℕ) : Type 0 where
  pub some : 1 ≤ length ds
  pub digits : AllDigits ds
  pub leading : get_or ds 0 0 ≡ 48 → length ds ≡ 1
  pub value : value_of ds ≡ x
