-- `spans_length` sums over the rows of a block. Assumes nothing.
use Rattle.std.proofs.Common.{◌≡◌, ◌+◌, length}
use Rattle.listing.specs.Marked.{is_marked, block_lines}
use Rattle.listing.proofs.spans.spans_length.Given as goal

abbrev pub invariant-loop-i : goal.invariant-loop-i
invariant-loop-i l =
    l.sum + length (block_lines (is_marked l.n l.block) l.n l.i) ≡ length (block_lines (is_marked l.n l.block) l.n 0)
