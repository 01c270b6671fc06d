-- `add_set` adds one bit for each letter of the set, by rising index. Assumes nothing.
use native.Mathlib.Omega.{arith}
use Rattle.moves.proofs.LetterLaws.{below_none, below_turn, below_all}
use Rattle.moves.proofs.entries.add_set.Goals as goal

pub loop-index-init : goal.loop-index-init
loop-index-init c = (omega arith, below_none _ _ _)

pub returns-then-index-ge52 : goal.returns-then-index-ge52
returns-then-index-ge52 c = below_all _ _ _ (λ j l m. c.in-Some.ensures.between j l (omega arith)) c.loop-index.invariant.1

pub loop-index-preserved : goal.loop-index-preserved
loop-index-preserved c =
    (omega arith, below_turn _ _ (omega arith) (omega arith) c.in-Some.ensures c.loop-index.invariant.1 (rw (← c.letter_at-letter.ensures) c.put.ensures.bits))

pub returns : goal.returns
returns c = below_all _ _ _ (λ j l m. c.in_default.ensures j l (omega arith)) c.loop-index.invariant.1
