-- `add_moves` adds the moves node by node. Assumes nothing.
use Rattle.moves.proofs.RecordLaws.{moves_none, moves_turn}
use Rattle.moves.proofs.free.add_moves.Goals as goal

pub loop-i-init : goal.loop-i-init
loop-i-init c = moves_none _ _ _

pub loop-i-preserved : goal.loop-i-preserved
loop-i-preserved c = moves_turn _ _ _ c.loop-i.invariant c.node_moves.ensures
