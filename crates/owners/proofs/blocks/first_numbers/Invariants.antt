-- `first_numbers` has the first numbers of all nodes' blocks. Assumes nothing.
use Rattle.owners.proofs.FirstLoops.{Placing}
use Rattle.owners.proofs.blocks.first_numbers.Given as goal

abbrev pub invariant-loop-i : goal.invariant-loop-i
invariant-loop-i l =
    Placing l.records.nodes l.records.m l.n l.special l.firsts l.i
