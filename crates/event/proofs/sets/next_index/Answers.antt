-- `next_index` finds the lowest bit from a index on. Assumes nothing.
use native.Mathlib.Omega.{arith}
use mathlib.Core.Path.{ap}
use Prim.Native.Nat.{ℕ, ◌-◌}
use lib.Pow.{pow_pos}
use Rattle.event.proofs.SetLaws.{next_found}
use Rattle.event.proofs.sets.next_index.Goals as goal

pub overflow_sub-one : goal.overflow_sub-one
overflow_sub-one c =
    omega (arith, c.one.ensures, pow_pos c.args.from)

pub returns : goal.returns
returns c =
    next_found c.args.set c.args.from _ _ c.requires (ap (λ (n : ℕ). n - 1) c.one.ensures) c.first.ensures
