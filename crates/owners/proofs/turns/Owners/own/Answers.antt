-- `own` gives a special node its turn. Assumes nothing.
use native.Mathlib.Omega.{arith}
use mathlib.Core.Path.{refl}
use Rattle.owners.proofs.Settings.{has_room, own_low, own_past, own_exits}
use Rattle.owners.proofs.Turning.{own_apart, own_turn}
use Rattle.owners.proofs.turns.Owners.own.Goals as goal

pub overflow_mul-left : goal.overflow_mul-left
overflow_mul-left c =
    let z = own_low c.requires.setting c.args.i c.requires.i_lt_m.0 in omega (arith, z.0, z.1)

pub overflow_add-left : goal.overflow_add-left
overflow_add-left c =
    let z = own_low c.requires.setting c.args.i c.requires.i_lt_m.0 in omega (arith, z.0, z.1)

pub overflow_sub-right : goal.overflow_sub-right
overflow_sub-right c =
    let y = own_past c.requires.setting c.args.i c.requires.i_lt_m.0 c.requires.i_lt_m.1 in omega (arith, y)

pub invariant_of-target : goal.invariant_of-target
invariant_of-target c =
    let z = own_exits c.requires.setting c.args.i c.requires.i_lt_m.0 c.requires.i_lt_m.1 in
    record { left_bound = z.0.1; right_bound = z.1.1 }

pub fill_block-requires : goal.fill_block-requires
fill_block-requires c =
    let h = c.requires.i_lt_m.0 in
    let e = c.requires.i_lt_m.1 in
    let z = own_exits c.requires.setting c.args.i h e in
    record {
      room = has_room c.requires.setting _ refl;
      lies = c.requires.setting.spaced.room c.args.i;
      apart = own_apart c.requires.setting _ c.args.i h c.requires.blocks_below e _ _ refl c.is_complement-complement.ensures z.0.1 z.1.1;
    }

pub returns-clause-turned : goal.returns-clause-turned
returns-clause-turned c =
    let h = c.requires.i_lt_m.0 in
    own_turn c.requires.setting _ c.args.i h c.requires.blocks_below c.requires.i_lt_m.1 _ _ refl
    c.is_complement-complement.ensures _ _ c.fill_block.ensures.filled
