-- `complete` follows the states of a row, one after another. Assumes nothing.
use mathlib.Core.Path.{refl}
use mathlib.Core.Logic.{inl}
use Rattle.moves.proofs.ClosingLaws.{completing_start, completing_turn, completing_done, next_less}
use Rattle.moves.proofs.closure.complete.Goals as goal

pub loop-k-init : goal.loop-k-init
loop-k-init c = λ m f. completing_start m _ _ f

pub loop-k-smaller : goal.loop-k-smaller
loop-k-smaller c = next_less c.in-Some.ensures c.mark_followed.ensures (inl refl)

pub loop-k-preserved : goal.loop-k-preserved
loop-k-preserved c =
    λ m f. completing_turn c.requires (c.loop-k.invariant m f) c.row.ensures c.in-Some.ensures c.merge_row.ensures c.mark_followed.ensures

pub returns : goal.returns
returns c = λ m f. completing_done _ (c.loop-k.invariant m f) c.row.ensures c.in_default.ensures
