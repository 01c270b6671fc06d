-- `left_sides` has the left or only side of every node. Assumes nothing.
use Rattle.owners.specs.Filling.{tree_from}
use Rattle.owners.proofs.SideLaws.{Siding}
use Rattle.owners.proofs.sides.left_sides.Given as goal

abbrev pub invariant-loop-i : goal.invariant-loop-i
invariant-loop-i l =
    Siding (tree_from l.records.nodes l.records.m) l.records.m l.begins l.lefts l.i
