-- `find_unordered` is `unordered_at`. Assumes nothing.
use Prim.Native.Nat.{◌+◌}
use Rattle.expression.specs.declared.Noted.{Noted}
use native.Mathlib.Omega.{arith}
use mathlib.Core.Path.{sym, ap, ◌∙◌}
use lib.ListN.{drop}
use Rattle.event.proofs.LeadingLaws.{place_found}
use Rattle.expression.specs.OrderComputed.{unordered_from}
use Rattle.expression.proofs.UnorderedLaws.{unordered_on, unordered_here}
use Rattle.rule.proofs.order.find_unordered.Goals as goal

pub returns-then-falls : goal.returns-then-falls
returns-then-falls c =
    let s = c.args.text.now in
    let e = unordered_here s c.loop-i.i c.loop-i.before c.loop-i-test.true (sym c.falls.ensures ∙ c.if-falls.true) in
    place_found s _ c.loop-i.i (omega (arith, c.loop-i.invariant)) c.loop-i-test.true

pub loop-i-preserved : goal.loop-i-preserved
loop-i-preserved c =
    let s = c.args.text.now in
    let e = unordered_on s c.loop-i.i c.loop-i.before c.loop-i-test.true (sym c.falls.ensures ∙ c.if-falls.false) in
    let k = ap (λ (q : Noted). unordered_from q (drop (c.loop-i.i + 1) s)) c.note-before.ensures in
    omega (arith, c.loop-i.invariant)
