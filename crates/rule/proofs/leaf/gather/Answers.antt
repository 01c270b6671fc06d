-- `gather` is the set of a text's letters. Assumes nothing.
use Prim.Native.Nat.{◌+◌}
use mathlib.Core.Path.{sym, ap, ◌∙◌}
use lib.ListN.{drop}
use Rattle.event.specs.LetterSets.{gathered}
use Rattle.event.specs.declared.sets.LetterSet.{LetterSet}
use Rattle.event.proofs.SetLaws.{gathered_on, gathered_end}
use Rattle.rule.proofs.leaf.gather.Goals as goal

pub loop-b-preserved : goal.loop-b-preserved
loop-b-preserved c =
    let s = c.args.s.now in
    let i = c.loop-b.b-index in
    c.loop-b.invariant ∙ gathered_on s i c.loop-b.set c.loop-b-test.true ∙ ap (λ (q : LetterSet). gathered q (drop (i + 1) s)) (sym c.plus-set.ensures)

pub returns : goal.returns
returns c = sym (c.loop-b.invariant ∙ gathered_end c.args.s.now c.loop-b.b-index c.loop-b.set c.loop-b-test.false)
