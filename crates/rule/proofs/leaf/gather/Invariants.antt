-- `gather` has gathered the letters up to the index. Assumes nothing.
use mathlib.Core.Path.{◌≡◌}
use lib.ListN.{drop}
use Rattle.event.specs.LetterSets.{gathered, letters_of}
use Rattle.rule.proofs.leaf.gather.Given as goal

abbrev pub invariant-loop-b : goal.invariant-loop-b
invariant-loop-b l = letters_of l.s ≡ gathered l.set (drop l.b-index l.s)
