-- `due` looks at the open nodes, one after another. Assumes nothing.
use Prim.Native.Nat.{◌-◌}
use Rattle.bits.specs.Bit.{bit_at}
use Rattle.bits.specs.Runs.{tally_below}
use Rattle.levels.proofs.ExitLaws.{Dues}
use Rattle.levels.proofs.open.Open.due.Given as goal

abbrev pub invariant-loop-s : goal.invariant-loop-s
invariant-loop-s l = Dues l.self.exits l.self.opened l.j l.done l.initial.states l.states

abbrev pub decreases-loop-s : goal.decreases-loop-s
decreases-loop-s l = 128 - tally_below 128 (bit_at l.done)
