-- `specials_before` is `specials_before`. Assumes nothing.
use Rattle.owners.proofs.FirstLoops.{Counting}
use Rattle.owners.proofs.blocks.specials_before.Given as goal

abbrev pub invariant-loop-node : goal.invariant-loop-node
invariant-loop-node l =
    Counting l.records.nodes l.bound l.records.m l.count l.node-index
