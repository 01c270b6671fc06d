-- `walk` goes through the numbers from i on, until nothing is left or the limit is passed. Assumes nothing.
use mathlib.Core.Path.{◌≡◌}
use lib.ListN.{length}
use Rattle.levels.specs.Exits.{Full}
use Rattle.walk.specs.Course.{course_of}
use Rattle.walk.specs.Caches.{Remembered}
use Rattle.walk.proofs.WalkLaws.{Before}
use Rattle.walk.proofs.walks.walk.Given as goal

abbrev pub invariant-loop-j : goal.invariant-loop-j
invariant-loop-j l = record {
  before : Before (course_of l.automaton l.word l.table) l.i l.fn.work.count l.fn.work.limit l.j l.initial.marks.places l.marks.places l.held.exits l.held.opened l.counted.count;
  full : Full l.held.exits l.held.opened l.held.full l.j (length l.word);
  cache : Remembered l.automaton.closed l.cache;
  limit : l.counted.limit ≡ l.fn.work.limit;
}
