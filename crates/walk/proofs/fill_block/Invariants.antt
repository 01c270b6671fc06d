-- `fill_block` fills the row of each start. Assumes nothing.
use mathlib.Core.Path.{◌≡◌}
use Rattle.walk.specs.Course.{course_of}
use Rattle.walk.specs.Caches.{Remembered}
use Rattle.walk.proofs.Filling.{Filling}
use Rattle.walk.proofs.fill_block.Given as goal

abbrev pub invariant-loop-i : goal.invariant-loop-i
invariant-loop-i l = record {
  filling : Filling (course_of l.automaton l.word l.fn.table) l.target l.fn.work.count l.fn.work.limit l.i l.table l.counted.count;
  cache : Remembered l.automaton.closed l.cache;
  limit : l.counted.limit ≡ l.fn.work.limit;
}
