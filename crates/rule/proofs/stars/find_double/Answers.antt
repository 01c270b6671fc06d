-- `find_double` is `double_at`. Assumes nothing.
use native.Mathlib.Omega.{arith}
use mathlib.Core.Path.{sym, ◌∙◌}
use Rattle.event.proofs.LeadingLaws.{place_found}
use Rattle.expression.proofs.DoubleLaws.{double_on, double_here}
use Rattle.rule.proofs.stars.find_double.Goals as goal

pub returns-then-is_double : goal.returns-then-is_double
returns-then-is_double c =
    let s = c.args.text.now in
    let e = double_here s c.loop-i.i c.loop-i.before c.loop-i-test.true (sym c.is_double.ensures ∙ c.if-is_double.true) in
    place_found s _ c.loop-i.i (omega (arith, c.loop-i.invariant)) c.loop-i-test.true

pub loop-i-preserved : goal.loop-i-preserved
loop-i-preserved c =
    let e = double_on c.args.text.now c.loop-i.i c.loop-i.before c.loop-i-test.true (sym c.is_double.ensures ∙ c.if-is_double.false) in
    omega (arith, c.loop-i.invariant)
