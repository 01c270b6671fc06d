-- `row_length` sums over the ends of a row whose bit is 1. Assumes nothing.
use Rattle.std.proofs.Common.{◌≡◌, ◌+◌, ◌-◌, ◌≤◌, length}
use Rattle.bits.specs.Bit.{bit_at}
use Rattle.listing.specs.Marked.{row_lines}
use Rattle.listing.proofs.spans.row_length.Given as goal

abbrev pub invariant-loop-j : goal.invariant-loop-j
invariant-loop-j l =
    (l.from ≤ l.n + 1) × (l.sum + length (row_lines (bit_at l.row) l.i l.n l.from) ≡ length (row_lines (bit_at l.row) l.i l.n l.i))

abbrev pub decreases-loop-j : goal.decreases-loop-j
decreases-loop-j l = l.n + 1 - l.from
