-- `letter_entries` adds the entries node by node. Assumes nothing.
use native.Mathlib.Omega.{arith}
use Rattle.moves.proofs.RecordLaws.{letters_none, letters_turn}
use Rattle.moves.proofs.letter_entries.Goals as goal

pub loop-i-init : goal.loop-i-init
loop-i-init c = letters_none _ _

pub loop-i-preserved : goal.loop-i-preserved
loop-i-preserved c = letters_turn _ _ (omega arith) c.loop-i.invariant c.add_letter.ensures
