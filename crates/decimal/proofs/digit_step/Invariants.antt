-- `digit_step` finds quotient and rest by subtracting. Assumes nothing.
use mathlib.Core.Path.{◌≡◌}
use Prim.Native.Nat.{◌+◌, ◌/◌, ◌%◌}
use Rattle.decimal.proofs.digit_step.Given as goal

abbrev pub invariant-loop-rest : goal.invariant-loop-rest
invariant-loop-rest l =
    (l.digit + l.rest / l.power ≡ 48 + l.x / l.power) × (l.rest % l.power ≡ l.x % l.power)

abbrev pub decreases-loop-rest : goal.decreases-loop-rest
decreases-loop-rest l =
    l.rest
