-- `due` looks at the open nodes, one after another. Assumes nothing.
use mathlib.Core.Path.{sym, ◌∙◌}
use Rattle.levels.proofs.ExitLaws.{dues_start, dues_turn, dues_done, due_law, put_if, put_not}
use Rattle.levels.proofs.SetLaws.{missing_less}
use Rattle.levels.proofs.open.Open.due.Goals as goal

pub exits_of-states-requires : goal.exits_of-states-requires
exits_of-states-requires c = λ s l d. c.requires.entries s l (c.requires.full_at s l d).0

pub loop-s-init : goal.loop-s-init
loop-s-init c = dues_start _ _ _ c.requires.full_at c.exits_of-states.ensures

pub loop-s-smaller : goal.loop-s-smaller
loop-s-smaller c = missing_less c.in-Some.ensures c.put_in_two.ensures

pub loop-s-smaller-then-test : goal.loop-s-smaller-then-test
loop-s-smaller-then-test c = missing_less c.in-Some.ensures c.put_in_two.ensures

pub loop-s-preserved-then-test : goal.loop-s-preserved-then-test
loop-s-preserved-then-test c =
    let e = sym c.test.ensures ∙ c.if-test.true in
    dues_turn _ _ _ c.loop-s.invariant c.in-Some.ensures c.put_in_two.ensures (put_if _ _ e c.put_in_two-then-test.ensures)

pub loop-s-preserved : goal.loop-s-preserved
loop-s-preserved c =
    let e = sym c.test.ensures ∙ c.if-test.false in
    dues_turn _ _ _ c.loop-s.invariant c.in-Some.ensures c.put_in_two.ensures (put_not _ _ _ _ e)

pub returns : goal.returns
returns c = due_law c.requires.full_at c.exits_of-states.ensures (dues_done _ _ _ c.loop-s.invariant c.in_default.ensures)
