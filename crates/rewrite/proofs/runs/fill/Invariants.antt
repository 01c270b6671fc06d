-- `fill` writes the bytes that stay. Assumes nothing.
use Rattle.rewrite.proofs.Turns.{Writing}
use Rattle.rewrite.proofs.runs.fill.Given as goal

abbrev pub invariant-loop-b : goal.invariant-loop-b
invariant-loop-b l =
    Writing l.text l.initial.out l.out l.before l.n l.b-index
