-- `add_row` joins the row's numbers one after another. Assumes nothing.
use mathlib.Core.Path.{◌≡◌, refl}
use native.Mathlib.Omega.{arith}
use Rattle.table.proofs.Rows.{row_more, add_law}
use Rattle.table.proofs.Block.add_row.Goals as goal

pub loop-h-preserved : goal.loop-h-preserved
loop-h-preserved c = row_more _ _ _ c.loop-h.invariant c.merge.ensures.bits

pub returns : goal.returns
returns c =
    let e : c.loop-h.h ≡ 4 = omega arith in
    add_law _ c.args.self c.args.i _ refl c.requires.lies.short c.requires.by_index (rw e at c.loop-h.invariant)
