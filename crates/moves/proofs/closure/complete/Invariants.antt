-- `complete` follows the states of a row, one after another. Assumes nothing.
use mathlib.Core.List.{List}
use Prim.Native.Nat.{ℕ, ◌-◌}
use Rattle.bits.specs.Bit.{bit_at}
use Rattle.bits.specs.Runs.{tally_below}
use Rattle.moves.specs.Closing.{Completed}
use Rattle.moves.proofs.ClosingLaws.{Completing}
use Rattle.moves.proofs.closure.complete.Given as goal

abbrev pub invariant-loop-k : goal.invariant-loop-k
invariant-loop-k l = (m : List ℕ) → Completed m l.s l.initial.c → Completing m l.s l.c l.followed

abbrev pub decreases-loop-k : goal.decreases-loop-k
decreases-loop-k l = 128 - tally_below 128 (bit_at l.followed)
