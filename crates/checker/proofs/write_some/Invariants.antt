-- A write that was interrupted has put nothing.
use Rattle.std.specs.Io.KnownBytes.{Keeps}
use Rattle.checker.proofs.write_some.Given as goal

abbrev pub invariant-loop : goal.invariant-loop
invariant-loop g l = Keeps (g.W.Write.contents l.initial.writer) (g.W.Write.contents l.writer)
