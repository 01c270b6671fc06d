-- `is_empty` tests both numbers for 0 at once. Assumes nothing.
use borrow.Author.Tests.{eqb-true, eq-eqb}
use borrow.Author.Rules.{rules}
use Rattle.levels.proofs.SetLaws.{empty_set, zero_set}
use Rattle.levels.proofs.is_empty.Goals as goal

pub returns : goal.returns
returns c = (
  λ e. empty_set _ (search rules) (eqb-true _ _ e),
  λ z. eq-eqb _ _ (zero_set _ (search rules) (search rules) (λ s _. z s)),
)
