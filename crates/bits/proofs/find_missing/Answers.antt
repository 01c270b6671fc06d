-- `find_missing` looks into one number and then into the other. Assumes nothing.
use Rattle.bits.proofs.Laws.{missing_low, missing_high, none_missing}
use Rattle.bits.proofs.find_missing.Goals as goal

pub returns-in-Some : goal.returns-in-Some
returns-in-Some c = missing_low _ _ _ c.in-Some.ensures

pub returns-in_err-p : goal.returns-in_err-p
returns-in_err-p c = rw c.from_residual.ensures (none_missing _ _ c.in_default.ensures c.in_err-p.ensures)

pub returns : goal.returns
returns c = missing_high _ _ c.in_default.ensures _ c.in_ok-p.ensures
