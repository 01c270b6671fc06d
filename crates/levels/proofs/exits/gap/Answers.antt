-- `gap` looks through the numbers of a row. Assumes nothing.
use mathlib.Core.Path.{ap}
use Prim.Native.Nat.{ℕ, ◌-◌}
use native.Mathlib.Omega.{arith}
use Rattle.levels.proofs.ExitLaws.{gap_start, gap_law, gap_turn, gap_none}
use Rattle.levels.proofs.exits.gap.Goals as goal

pub loop-w-init : goal.loop-w-init
loop-w-init c = gap_start _ _ _ _ (ap (λ (n : ℕ). n - 1) c.one-below.ensures)

pub returns-in-Some : goal.returns-in-Some
returns-in-Some c = gap_law _ _ _ c.loop-w.invariant c.loop-w-test.true c.in-Some.ensures

pub loop-w-preserved : goal.loop-w-preserved
loop-w-preserved c = gap_turn _ _ _ c.loop-w.invariant c.in_default.ensures

pub returns : goal.returns
returns c = gap_none _ _ _ c.loop-w.invariant (omega arith)
