-- `close` closes the moves. Assumes nothing.
use mathlib.Core.List.{List}
use Prim.Native.Nat.{ℕ}
use Rattle.bits.specs.Runs.{Adds}
use Rattle.moves.specs.Closing.{Completed, OnDiagonal}
use Rattle.moves.proofs.closure.close.Given as goal

abbrev pub invariant-loop-s : goal.invariant-loop-s
invariant-loop-s l = (m : List ℕ) → Adds m (OnDiagonal 128) l.initial.c → Completed m l.s l.c
