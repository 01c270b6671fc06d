-- `line_length` adds a tab and a number for each field. Assumes nothing.
use Rattle.std.proofs.Common.{◌≡◌, ◌+◌, ◌*◌, ◌≤◌, length, drop}
use Rattle.listing.specs.Lines.{fields}
use Rattle.listing.proofs.fields.line_length.Given as goal

abbrev pub invariant-loop-x : goal.invariant-loop-x
invariant-loop-x l =
    (l.sum + length (fields (drop l.x-index l.fields)) ≡ 2 + length (fields l.fields)) × (l.sum ≤ 2 + 21 * l.x-index)
