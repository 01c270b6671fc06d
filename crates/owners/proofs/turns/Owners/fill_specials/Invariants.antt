-- `fill_specials` gives each special node its turn. Assumes nothing.
use mathlib.Core.Path.{◌≡◌}
use Rattle.owners.specs.Filling.{tree_from}
use Rattle.owners.proofs.Turning.{Turning}
use Rattle.owners.proofs.turns.Owners.fill_specials.Given as goal

abbrev pub invariant-loop-i : goal.invariant-loop-i
invariant-loop-i l = record {
  turning : Turning (tree_from l.self.records.now.nodes l.self.records.now.m) l.self.word.now l.self.automaton.now.firsts l.limit l.initial.table l.table l.work.count l.i;
  limit : l.work.limit ≡ l.limit;
}
