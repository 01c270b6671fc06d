-- `add_every` adds one bit for each letter, by rising index. Assumes nothing.
use native.Mathlib.Omega.{arith}
use Rattle.moves.proofs.LetterLaws.{below_none, below_all, every_turn}
use Rattle.moves.proofs.entries.add_every.Goals as goal

pub loop-index-init : goal.loop-index-init
loop-index-init c = below_none _ _ _

pub loop-index-preserved : goal.loop-index-preserved
loop-index-preserved c =
    every_turn _ c.loop-index.index (omega arith) c.loop-index-test.true c.loop-index.invariant (rw (← c.letter_at-letter.ensures) c.put.ensures.bits)

pub returns : goal.returns
returns c = below_all _ _ _ (λ j l m _. omega arith) c.loop-index.invariant
