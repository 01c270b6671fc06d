-- `write_line_nodes` stores the nodes of each line at the line's place. Assumes nothing.
use mathlib.Core.List.{map}
use Rattle.rule_line.specs.Lines.{told_line}
use Rattle.wuzlevor.proofs.RowLaws.{Filling}
use Rattle.wuzlevor.proofs.row.write_line_nodes.Given as goal

abbrev pub invariant-loop-i : goal.invariant-loop-i
invariant-loop-i l =
    Filling (map told_line l.read) l.initial.nodes l.nodes l.i
