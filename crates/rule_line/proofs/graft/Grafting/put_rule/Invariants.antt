-- `put_rule` writes moved records. Assumes nothing.
use mathlib.Core.Path.{◌≡◌}
use lib.ListN.{take}
use Rattle.replacement.specs.Graft.{shift_nodes}
use Rattle.rule_line.specs.Coding.{grown}
use Rattle.rule_line.proofs.graft.Grafting.put_rule.Given as goal

abbrev pub invariant-loop-node : goal.invariant-loop-node
invariant-loop-node l =
    l.self ≡ grown l.initial.self (shift_nodes l.d (take l.node-index l.node-items))
