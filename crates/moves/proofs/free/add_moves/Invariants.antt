-- `add_moves` adds the moves node by node. Assumes nothing.
use Rattle.bits.specs.Runs.{Adds}
use Rattle.moves.specs.Moves.{RecordMove}
use Rattle.moves.proofs.free.add_moves.Given as goal

abbrev pub invariant-loop-i : goal.invariant-loop-i
invariant-loop-i l = Adds l.initial.moves (RecordMove l.records.nodes l.lefts l.i) l.moves
