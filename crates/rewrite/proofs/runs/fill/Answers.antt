-- `fill` writes the bytes that stay. Assumes nothing.
use native.Mathlib.Omega.{arith}
use mathlib.Core.Path.{sym, ◌∙◌}
use Rattle.rewrite.proofs.Turns.{writing_begins, writing_kept, writing_left, writing_fits, writing_ends}
use Rattle.rewrite.proofs.runs.fill.Goals as goal
use Rattle.rewrite.proofs.runs.fill.Goals.{then-not-is_double, else-not-is_double}

pub loop-b-init : goal.loop-b-init
loop-b-init c =
    writing_begins _ _ c.requires

pub bounds-out-n : goal.bounds-out-n
bounds-out-n c =
    writing_fits c.loop-b.invariant c.loop-b-test.true (sym c.is_double.ensures ∙ c.if-not-is_double.true)

pub overflow_add-n : goal.overflow_add-n
overflow_add-n c =
    let f = writing_fits c.loop-b.invariant c.loop-b-test.true (sym c.is_double.ensures ∙ c.if-not-is_double.true) in
    omega arith

pub loop-b-preserved : goal.loop-b-preserved
loop-b-preserved c =
    elim c.if-not-is_double.branch [
      | then-not-is_double w ↦ rw (w.before-is, w.n-is, w.out-is) (writing_kept c.loop-b.invariant c.loop-b-test.true (sym c.is_double.ensures ∙ w.if-not-is_double.true))
      | else-not-is_double w ↦ rw (w.before-is, w.n-is, w.out-is) (writing_left c.loop-b.invariant c.loop-b-test.true (sym c.is_double.ensures ∙ w.if-not-is_double.false))
    ]

pub shape_of-out : goal.shape_of-out
shape_of-out c =
    c.loop-b.invariant.long

pub returns : goal.returns
returns c =
    writing_ends c.loop-b.invariant c.loop-b-test.false c.requires
