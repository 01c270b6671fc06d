-- `merge` joins bit by bit. Assumes nothing.
use native.Mathlib.Omega.{arith}
use Rattle.bits.proofs.Laws.{merge_law}
use Rattle.bits.proofs.merge.Goals as goal

pub returns-clause-bits : goal.returns-clause-bits
returns-clause-bits c = merge_law _ _ _ (omega arith)
