-- `add_every` adds one bit for each letter, by rising index. Assumes nothing.
use Rattle.bits.specs.Runs.{Adds}
use Rattle.event.specs.LetterSets.{every}
use Rattle.moves.proofs.LetterLaws.{LetterBelow}
use Rattle.moves.proofs.entries.add_every.Given as goal

abbrev pub invariant-loop-index : goal.invariant-loop-index
invariant-loop-index l = Adds l.initial.entries (LetterBelow every l.i l.index) l.entries
