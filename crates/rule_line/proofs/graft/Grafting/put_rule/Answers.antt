-- `put_rule` writes moved records. Assumes nothing.
use native.Mathlib.Omega.{arith}
use lib.Seq.{length-take-le}
use Rattle.rule_line.proofs.GraftCode.{move_start, move_room, move_on}
use Rattle.rule_line.proofs.graft.Grafting.put_rule.Goals as goal

pub loop-node-init : goal.loop-node-init
loop-node-init c =
    move_start _ _

pub put-requires : goal.put-requires
put-requires c =
    let r = c.args.rule.now in
    let l = length-take-le r.records.m r.records.nodes (omega (arith, r.nodes_long, r.records.m_bound)) in
    move_room _ _ _ _ _ c.loop-node-test.true c.loop-node.invariant (omega (arith, c.requires.0))

pub loop-node-preserved : goal.loop-node-preserved
loop-node-preserved c =
    move_on _ _ _ _ _ c.loop-node-test.true c.loop-node.invariant _ c.put.ensures
