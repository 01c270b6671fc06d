-- `fill` builds the automaton, makes the blocks of a rule, or clears the table. Assumes nothing.
use mathlib.Core.Path.{ap}
use mathlib.Core.Bool.{not}
use native.Mathlib.Omega.{arith}
use Rattle.std.proofs.Common.{rules}
use Rattle.owners.proofs.Automata.{closed_reflexive, closed_transitive, letters_even, specials_even}
use Rattle.owners.proofs.SideLaws.{lefts_low}
use Rattle.owners.proofs.Settings.{setting, whole_beside, filled_within}
use Rattle.owners.proofs.fill.Goals as goal

pub closed_moves-requires-clause-sides_before : goal.closed_moves-requires-clause-sides_before
closed_moves-requires-clause-sides_before c =
    let l = c.left_sides-lefts in
    lefts_low l.result c.requires.recorded l.ensures

pub invariant_of-automaton : goal.invariant_of-automaton
invariant_of-automaton c = record {
  reflexive = closed_reflexive c.closed_moves.ensures.closed;
  transitive = closed_transitive c.closed_moves.ensures.closed;
  letter = letters_even c.letter_entries.ensures;
  special = specials_even c.special_entries.ensures;
}

pub fill_all-work-requires-clause-setting : goal.fill_all-work-requires-clause-setting
fill_all-work-requires-clause-setting c =
    setting _ c.requires c.first_numbers.ensures _ c.left_sides-lefts.ensures (omega arith)
    (record { moves = c.closed_moves.ensures; letter = c.letter_entries.ensures; special = c.special_entries.ensures })

pub fill_all-work-requires-clause-whole_apart : goal.fill_all-work-requires-clause-whole_apart
fill_all-work-requires-clause-whole_apart c =
    whole_beside c.requires c.first_numbers.ensures

pub returns-else-is_none : goal.returns-else-is_none
returns-else-is_none c =
    let w = c.fill_all-work in
    filled_within w.ensures w.auto.table (ap not c.if-is_none.ensures) c.requires c.first_numbers.ensures
    (λ i. search rules) (λ i. search rules)
