-- `accept` answers the records of the lines. Assumes nothing.
use Prim.Native.Nat.{◌-◌}
use mathlib.Core.Path.{◌≡◌}
use mathlib.Core.List.{◌++◌, map}
use lib.ListN.{take}
use Rattle.rule_line.specs.Lines.{told_line, unused_lines}
use Rattle.rule_file.specs.Kept.{kept_nodes}
use Rattle.rule_file.proofs.accepted.accept.Given as goal

abbrev pub invariant-loop-i : goal.invariant-loop-i
invariant-loop-i l =
    map told_line l.records ≡ map kept_nodes (take l.i l.lines) ++ unused_lines (16 - l.i)
