-- When two answers agree. Assumes nothing.
use Rattle.std.specs.Prelude.{ℕ, ◌≡◌, ◌⊎◌, take}
use Rattle.matcher.specs.MatchAnswer.{MatchAnswer}

-- two answers that agree but for what lies beyond the first `need` numbers, and for tables that nothing was written into
pub record Agree (need : ℕ) (a b : MatchAnswer) : Type 0 where
  pub number : a.number ≡ b.number
  pub place : a.place ≡ b.place
  pub found : a.found ≡ b.found
  pub count : a.count ≡ b.count
  pub written : (a.number ≡ 0) ⊎ (a.number ≡ 10) → take need a.table ≡ take need b.table
