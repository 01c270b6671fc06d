-- `fill_specials` gives each special node its turn. Assumes nothing.
use Prim.Native.Nat.{◌<◌}
use native.Mathlib.Omega.{arith}
use mathlib.Core.Path.{refl, sym, subst, ◌∙◌}
use Rattle.owners.proofs.Turning.{plain_turn, turning_begins, turning_on, turning_spent, turning_ends}
use Rattle.owners.proofs.turns.Owners.fill_specials.Goals as goal
use Rattle.owners.proofs.turns.Owners.fill_specials.Goals.{then-is_special+in_ok-work, else-is_special}

pub loop-i-init : goal.loop-i-init
loop-i-init c =
    record { turning = rw c.new-work.ensures.count turning_begins; limit = c.new-work.ensures.limit }

pub returns-in_err-work-clause-turned : goal.returns-in_err-work-clause-turned
returns-in_err-work-clause-turned c =
    let v = c.loop-i.invariant in
    rw c.from_residual.ensures
    (turning_spent v.turning (omega (arith, c.requires.recorded.long)) refl (rw v.limit at c.in_err-work.ensures.turned))

pub loop-i-preserved : goal.loop-i-preserved
loop-i-preserved c =
    let v = c.loop-i.invariant in
    let h = c.loop-i-test.true in
    let z = subst (c.loop-i.i <◌) (sym c.requires.recorded.long) h in
    elim c.if-is_special.branch [
      | then-is_special+in_ok-work w ↦
          let o = w.in_ok-work.ensures in
          rw (w.table-is, w.work-is)
          (record { turning = turning_on v.turning z w.own.auto.table refl (rw v.limit at o.turned); limit = o.limit ∙ v.limit })
      | else-is_special w ↦
          let e = sym c.is_special.ensures ∙ w.if-is_special.false in
          rw (w.table-is, w.work-is)
          (record {
            turning = turning_on v.turning z refl refl (plain_turn c.requires _ c.loop-i.i h v.turning.done e v.turning.bounded);
            limit = v.limit;
          })
    ]

pub returns-clause-turned : goal.returns-clause-turned
returns-clause-turned c =
    turning_ends c.loop-i.invariant.turning (omega (arith, c.requires.recorded.long))
