-- `follow_word` follows the states of a number, one after another. Assumes nothing.
use mathlib.Core.Path.{◌≡◌}
use Prim.Native.Nat.{ℕ, ◌-◌}
use lib.ListN.{get_or}
use Rattle.bits.specs.Bit.{has_bit}
use Rattle.bits.specs.Runs.{tally_below}
use Rattle.levels.proofs.Following.{Following}
use Rattle.levels.proofs.free.follow_word.Given as goal

abbrev pub invariant-loop-b : goal.invariant-loop-b
invariant-loop-b l = (l.wanted ≡ get_or l.todo l.w 0) × Following l.closed l.todo l.w l.done l.initial.set l.set

abbrev pub decreases-loop-b : goal.decreases-loop-b
decreases-loop-b l = 64 - tally_below 64 (λ (q : ℕ). has_bit q l.done)
