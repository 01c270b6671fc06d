-- The table of the powers of ten. Assumes nothing.
use Rattle.std.specs.Prelude.{ℕ, ◌^◌, ◌<◌, ◌≡◌, List, get_or}

-- 02 d): "a table of the powers of ten"; entry i is ten to the power i
pub record Powers (ps : List ℕ) : Type 0 where
  pub entry : (i : ℕ) → i < 20 → get_or ps i 0 ≡ 10 ^ i
