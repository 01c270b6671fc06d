-- `enter_specials` enters the special nodes that it comes to, one after another. Assumes nothing.
use Prim.Native.Nat.{◌-◌}
use Rattle.bits.specs.Bit.{bit_at}
use Rattle.bits.specs.Runs.{tally_below}
use Rattle.levels.proofs.Saturating.{Saturating}
use Rattle.levels.proofs.automaton.Automaton.enter_specials.Given as goal

abbrev pub invariant-loop-s : goal.invariant-loop-s
invariant-loop-s l =
    Saturating l.self.closed l.self.specials l.self.firsts l.table l.n l.j l.set l.initial.held.exits l.initial.held.opened l.initial.held.full
    l.held.exits l.held.opened l.held.full l.entered l.reached

abbrev pub decreases-loop-s : goal.decreases-loop-s
decreases-loop-s l = 128 - tally_below 128 (bit_at l.entered)
