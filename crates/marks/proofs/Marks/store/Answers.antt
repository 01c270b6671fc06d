-- `store` stores two numbers. Assumes nothing.
use native.Mathlib.Omega.{arith}
use Rattle.marks.proofs.MarkLaws.{store_law}
use Rattle.marks.proofs.Marks.store.Goals as goal

pub returns : goal.returns
returns c =
    store_law _ _ _ c.requires (omega arith)
