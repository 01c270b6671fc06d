-- `graft` writes the records of the grafted tree. Assumes nothing.
use native.Mathlib.Omega.{arith}
use Rattle.rule_line.proofs.GraftCode.{node_start, node_inside, node_room, node_on}
use Rattle.rule_line.proofs.graft.graft.Goals as goal

pub loop-node-init : goal.loop-node-init
loop-node-init c =
    node_start _ _ _

pub offset_bounds-origins-node : goal.offset_bounds-origins-node
offset_bounds-origins-node c =
    let i = node_inside _ _ _ _ c.requires c.loop-node.node-index c.loop-node-test.true in omega (arith, i.0)

pub bounds-origins-node : goal.bounds-origins-node
bounds-origins-node c =
    (node_inside _ _ _ _ c.requires c.loop-node.node-index c.loop-node-test.true).0

pub offset_bounds-places-node : goal.offset_bounds-places-node
offset_bounds-places-node c =
    let i = node_inside _ _ _ _ c.requires c.loop-node.node-index c.loop-node-test.true in omega (arith, i.1)

pub bounds-places-node : goal.bounds-places-node
bounds-places-node c =
    (node_inside _ _ _ _ c.requires c.loop-node.node-index c.loop-node-test.true).1

pub put_node-requires : goal.put_node-requires
put_node-requires c =
    node_room _ _ _ _ c.requires c.loop-node.node-index c.loop-node-test.true _ c.loop-node.invariant

pub loop-node-preserved : goal.loop-node-preserved
loop-node-preserved c =
    node_on _ _ _ _ c.requires c.loop-node.node-index c.loop-node-test.true _ c.loop-node.invariant _ c.put_node.ensures
