-- `scan` is `scanned`: what the scan finds from where the loop has come is what it finds of the whole text. Assumes nothing.
use native.Mathlib.Omega.{arith}
use mathlib.Core.Path.{◌≡◌, sym, ap, ◌∙◌}
use Prim.Native.Nat.{ℕ}
use lib.ListN.{length, get_or}
use Rattle.std.proofs.Common.{Some, None, Err}
use Rattle.std.proofs.lemmas.Result.{err_from_is_err_and}
use Rattle.expression.specs.Scan.{finish}
use Rattle.rule.proofs.ScanLaws.{near, turn_stuck, turn_on, turn_end}
use Rattle.rule.proofs.scan.scan.Goals as goal

pub returns-in_err-q : goal.returns-in_err-q
returns-in_err-q c =
    let p = err_from_is_err_and c.from_residual.result c.from_residual.ensures.1 in
    let r : (c.step.result ≡ None) × (c.loop-i.i ≡ c.in_err-q.field-0.0) = grind arith in
    rw (p.1, p.2) (ap (λ (j : ℕ). Err j) (sym r.1) ∙ sym (c.loop-i.invariant.rest ∙ turn_stuck _ _ _ c.loop-i-test.true (sym r.0 ∙ c.step.ensures)))

pub loop-i-preserved : goal.loop-i-preserved
loop-i-preserved c =
    let s = c.args.text.now in
    let q = c.in_ok-q.q in
    let r : c.step.result ≡ Some q = grind arith in
    let on = sym r ∙ c.step.ensures in
    let n = near c.loop-i.q q (get_or s c.loop-i.i 0) on in
    record {
      depth = omega arith;
      nodes = omega arith;
      specials = omega arith;
      rest = c.loop-i.invariant.rest ∙ turn_on s c.loop-i.i c.loop-i.q q c.loop-i-test.true on;
    }

pub returns : goal.returns
returns c =
    let e : length c.args.text.now ≡ c.loop-i.i = omega arith in
    c.finish.ensures ∙ ap (λ (i : ℕ). finish i c.loop-i.q) e
    ∙ sym (c.loop-i.invariant.rest ∙ turn_end c.args.text.now c.loop-i.i c.loop-i.q (omega arith))
