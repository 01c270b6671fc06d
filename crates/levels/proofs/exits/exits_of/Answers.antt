-- `exits_of` moves the entries up by a bit, number by number. Assumes nothing.
use mathlib.Core.Path.{refl}
use native.Mathlib.Omega.{arith}
use Rattle.levels.proofs.EventLaws.{entry_top, exits_law}
use Rattle.levels.proofs.exits.exits_of.Goals as goal

pub move_up-requires : goal.move_up-requires
move_up-requires c = entry_top _ c.requires 0 (omega arith) _ refl

pub move_up-requires-2 : goal.move_up-requires-2
move_up-requires-2 c = entry_top _ c.requires 1 (omega arith) _ refl

pub returns : goal.returns
returns c = exits_law _ c.requires _ _ c.move_up.ensures c.move_up-2.ensures
