-- `new_length` counts the bytes that stay. Assumes nothing.
use Rattle.rewrite.proofs.Turns.{Counting}
use Rattle.rewrite.proofs.runs.new_length.Given as goal

abbrev pub invariant-loop-b : goal.invariant-loop-b
invariant-loop-b l =
    Counting l.text l.before l.n l.b-index
