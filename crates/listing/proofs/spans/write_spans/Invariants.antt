-- `write_spans` writes the lines of a block's rows one after another. Assumes nothing.
use Rattle.listing.specs.Marked.{is_marked, block_lines}
use Rattle.listing.proofs.WrittenLaws.{PartPut}
use Rattle.listing.proofs.spans.write_spans.Given as goal

abbrev pub invariant-loop-i : goal.invariant-loop-i
invariant-loop-i l =
    PartPut l.initial.writer (block_lines (is_marked l.n l.block) l.n 0) (block_lines (is_marked l.n l.block) l.n l.i) l.writer
