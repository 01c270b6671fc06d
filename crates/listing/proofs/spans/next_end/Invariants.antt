-- `next_end` looks at number after number, from that of `from` on. Assumes nothing.
use Prim.Native.Nat.{◌-◌, ◌≤◌}
use Rattle.listing.proofs.RowLaws.{None}
use Rattle.listing.proofs.spans.next_end.Given as goal

abbrev pub invariant-loop-j : goal.invariant-loop-j
invariant-loop-j l =
    (l.from ≤ l.j) × (l.j ≤ 256) × None l.row l.from l.j

abbrev pub decreases-loop-j : goal.decreases-loop-j
decreases-loop-j l =
    256 - l.j
