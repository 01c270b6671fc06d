-- `digit_step` finds quotient and rest by subtracting. Assumes nothing.
use mathlib.Core.Path.{sym, ◌∙◌}
use Prim.Native.Nat.{◌≤◌}
use native.Mathlib.Omega.{arith}
use native.Mathlib.Nat.{div-eq-sub-div, mod-eq-sub-mod}
use Rattle.decimal.proofs.digit_step.Goals as goal

pub loop-rest-preserved : goal.loop-rest-preserved
loop-rest-preserved c =
    let t : c.args.power ≤ c.loop-rest.rest = omega arith in
    (omega (arith, div-eq-sub-div c.requires.0 t), sym (mod-eq-sub-mod t) ∙ c.loop-rest.invariant.1)
