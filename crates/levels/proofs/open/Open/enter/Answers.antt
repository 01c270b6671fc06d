-- `enter` joins the row of a special node. Assumes nothing.
use mathlib.Core.Path.{◌∙◌}
use native.Mathlib.Omega.{arith}
use Rattle.levels.proofs.ExitLaws.{enter_law}
use Rattle.levels.proofs.open.Open.enter.Goals as goal

pub returns : goal.returns
returns c =
    let p = c.requires in
    let s = (p.room 0).short in
    record {
      node = enter_law p.s_bound.1 c.read_row-row.ensures c.test.ensures c.join_row.ensures c.put_in_two.ensures c.put_full.ensures;
      here = c.test-2.ensures ∙ c.read_row-row.ensures _ (omega arith);
    }
