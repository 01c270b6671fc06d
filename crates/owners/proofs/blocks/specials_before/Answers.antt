-- `specials_before` is `specials_before`. Assumes nothing.
use native.Mathlib.Omega.{arith}
use Prim.Native.Nat.{◌<◌}
use mathlib.Core.Path.{refl, sym, ◌∙◌}
use borrow.Author.Tests.{lt-ltb, le-ltb}
use Rattle.std.proofs.Common.{length-take}
use Rattle.std.proofs.lemmas.List.{get_or-take}
use Rattle.moves.specs.Moves.{no_node}
use Rattle.owners.proofs.FirstLoops.{counting_begins, counting_on, counting_past, counting_ends}
use Rattle.owners.proofs.blocks.specials_before.Goals as goal
use Rattle.owners.proofs.blocks.specials_before.Goals.{then-is_special+then-node-bound, else-is_special, else-is_special-via-then-is_special+else-node-bound, else-is_special-via-else-is_special}

pub loop-node-init : goal.loop-node-init
loop-node-init c =
    counting_begins

pub loop-node-preserved : goal.loop-node-preserved
loop-node-preserved c =
    let g = c.loop-node.invariant in
    let h : c.loop-node.node-index < c.args.records.now.m = omega (arith, c.loop-node-test.true, length-take c.args.records.now.m c.args.records.now.nodes) in
    let k = get_or-take c.args.records.now.m c.args.records.now.nodes c.loop-node.node-index no_node h in
    elim c.if-is_special.branch [
      | then-is_special+then-node-bound w ↦ rw w.count-is
          (counting_on g h (rw (← k, sym c.is_special.ensures ∙ w.if-is_special.true, lt-ltb _ _ w.if-node-bound.true) refl, omega arith))
      | else-is_special w ↦ rw w.count-is (counting_past g h (elim w.else-is_special.branch [
        | else-is_special-via-then-is_special+else-node-bound v ↦ rw (← k, sym c.is_special.ensures ∙ v.if-is_special.true, le-ltb _ _ v.if-node-bound.false) refl
        | else-is_special-via-else-is_special v ↦ rw (← k, sym c.is_special.ensures ∙ v.if-is_special.false) refl
      ]))
    ]

pub returns : goal.returns
returns c =
    let e = length-take c.args.records.now.m c.args.records.now.nodes in counting_ends c.loop-node.invariant (omega arith) (omega arith)
