-- `special_entries` adds the entries node by node. Assumes nothing.
use Rattle.bits.specs.Runs.{Adds}
use Rattle.moves.specs.Moves.{SpecialEntry}
use Rattle.moves.proofs.special_entries.Given as goal

abbrev pub invariant-loop-i : goal.invariant-loop-i
invariant-loop-i l = Adds l.initial.entries (SpecialEntry l.records.nodes l.i) l.entries
