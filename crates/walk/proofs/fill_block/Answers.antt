-- `fill_block` fills the row of each start. Assumes nothing.
use mathlib.Core.Path.{refl, ◌∙◌}
use native.Mathlib.Omega.{arith}
use Rattle.walk.proofs.Ready.{ready_of}
use Rattle.walk.proofs.Filling.{filling_start, filling_turn, filling_spent, filling_done}
use Rattle.walk.proofs.fill_block.Goals as goal

pub loop-i-init : goal.loop-i-init
loop-i-init c =
    let p = c.requires in
    record {
      filling = filling_start (ready_of c.args.automaton.now p.room) p.apart c.args.work.within c.clear.ensures;
      cache = c.empty_cache-cache.ensures _;
      limit = refl;
    }

pub returns-in_err-counted-clause-filled : goal.returns-in_err-counted-clause-filled
returns-in_err-counted-clause-filled c =
    let v = c.loop-i.invariant in
    rw c.from_residual.ensures
    (filling_spent v.filling c.loop-i-test.true (rw v.limit at c.in_err-counted.ensures.started) refl)

pub loop-i-preserved : goal.loop-i-preserved
loop-i-preserved c =
    let v = c.loop-i.invariant in
    let s = c.in_ok-counted.ensures in
    record {
      filling = filling_turn v.filling c.loop-i-test.true (rw v.limit at s.started) refl;
      cache = s.cache;
      limit = s.limit ∙ v.limit;
    }

pub returns-in_ok-counted-clause-filled : goal.returns-in_ok-counted-clause-filled
returns-in_ok-counted-clause-filled c =
    let v = c.loop-i.invariant in
    filling_done (filling_turn v.filling c.loop-i-test.true (rw v.limit at c.in_ok-counted.ensures.started) refl) (omega arith)
