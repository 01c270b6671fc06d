-- `new_length` counts the bytes that stay. Assumes nothing.
use native.Mathlib.Omega.{arith}
use mathlib.Core.Path.{sym, ◌∙◌}
use Rattle.rewrite.proofs.Turns.{counting_kept, counting_left, counting_ends}
use Rattle.rewrite.proofs.runs.new_length.Goals as goal
use Rattle.rewrite.proofs.runs.new_length.Goals.{then-not-is_double, else-not-is_double}

pub loop-b-init : goal.loop-b-init
loop-b-init c = record { within = omega arith; few = omega arith; total = omega arith }

pub loop-b-preserved : goal.loop-b-preserved
loop-b-preserved c =
    elim c.if-not-is_double.branch [
      | then-not-is_double w ↦ rw (w.before-is, w.n-is) (counting_kept c.loop-b.invariant c.loop-b-test.true (sym c.is_double.ensures ∙ w.if-not-is_double.true))
      | else-not-is_double w ↦ rw (w.before-is, w.n-is) (counting_left c.loop-b.invariant c.loop-b-test.true (sym c.is_double.ensures ∙ w.if-not-is_double.false))
    ]

pub returns : goal.returns
returns c = counting_ends c.loop-b.invariant c.loop-b-test.false
