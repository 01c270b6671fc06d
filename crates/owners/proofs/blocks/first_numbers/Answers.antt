-- `first_numbers` has the first numbers of all nodes' blocks. Assumes nothing.
use native.Mathlib.Omega.{arith}
use mathlib.Core.Path.{sym, ◌∙◌}
use Rattle.owners.proofs.FirstLoops.{special_first, plain_first, placing_begins, placing_on, placing_past}
use Rattle.owners.proofs.FirstLoops.{placing_same}
use Rattle.owners.proofs.blocks.first_numbers.Goals as goal
use Rattle.owners.proofs.blocks.first_numbers.Goals.{then-is_special, else-is_special}

pub loop-i-init : goal.loop-i-init
loop-i-init c =
    placing_begins c.requires.cleared

pub loop-i-preserved : goal.loop-i-preserved
loop-i-preserved c =
    let b = c.block_length-stride in
    let a = c.args in
    let r = a.records.now in
    let h = c.loop-i-test.true in
    let e = sym c.is_special.ensures in
    elim c.if-is_special.branch [
      | then-is_special w ↦ placing_same
          (placing_on c.loop-i.invariant (omega arith) h
          (special_first r.nodes r.m a.n a.special c.loop-i.i _ _ (e ∙ w.if-is_special.true) w.specials_before.ensures.0 b.ensures.0))
          w.firsts-is
      | else-is_special w ↦ placing_same
          (placing_past c.loop-i.invariant h (plain_first r.nodes r.m a.n a.special c.loop-i.i (e ∙ w.if-is_special.false)))
          w.firsts-is
    ]
