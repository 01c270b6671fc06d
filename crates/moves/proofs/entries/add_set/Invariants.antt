-- `add_set` adds one bit for each letter of the set, by rising index. Assumes nothing.
use Prim.Native.Nat.{◌-◌, ◌≤◌}
use Rattle.bits.specs.Runs.{Adds}
use Rattle.moves.proofs.LetterLaws.{LetterBelow}
use Rattle.moves.proofs.entries.add_set.Given as goal

abbrev pub invariant-loop-index : goal.invariant-loop-index
invariant-loop-index l = (l.from ≤ 52) × Adds l.initial.entries (LetterBelow l.set l.i l.from) l.entries

abbrev pub decreases-loop-index : goal.decreases-loop-index
decreases-loop-index l = 52 - l.from
