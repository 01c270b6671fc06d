-- `write_row` writes the lines of the ends of a row whose bit is 1. Assumes nothing.
use Rattle.std.proofs.Common.{◌+◌, ◌-◌, ◌≤◌}
use Rattle.bits.specs.Bit.{bit_at}
use Rattle.listing.specs.Marked.{row_lines}
use Rattle.listing.proofs.WrittenLaws.{PartPut}
use Rattle.listing.proofs.spans.write_row.Given as goal

abbrev pub invariant-loop-j : goal.invariant-loop-j
invariant-loop-j l =
    (l.from ≤ l.n + 1) × PartPut l.initial.writer (row_lines (bit_at l.row) l.i l.n l.i) (row_lines (bit_at l.row) l.i l.n l.from) l.writer

abbrev pub decreases-loop-j : goal.decreases-loop-j
decreases-loop-j l = l.n + 1 - l.from
