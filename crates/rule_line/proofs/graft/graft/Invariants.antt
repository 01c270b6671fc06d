-- `graft` writes the records of the grafted tree. Assumes nothing.
use mathlib.Core.Path.{◌≡◌}
use lib.ListN.{take}
use Rattle.rule_line.specs.Coding.{grown, no_nodes, grafted_nodes}
use Rattle.rule_line.proofs.graft.graft.Given as goal

abbrev pub invariant-loop-node : goal.invariant-loop-node
invariant-loop-node l =
    l.grafting ≡ grown no_nodes (grafted_nodes l.origins l.places l.lines (take l.node-index l.source))
