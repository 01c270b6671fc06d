-- `walk` goes through the numbers from i on, until nothing is left or the limit is passed. Assumes nothing.
use mathlib.Core.Path.{◌≡◌, refl, ◌∙◌}
use Prim.Native.Nat.{◌+◌}
use lib.ListN.{length}
use native.Mathlib.Omega.{arith}
use Rattle.walk.proofs.Ready.{ready_of}
use Rattle.walk.proofs.WalkLaws.{full_start, before_start, before_turn, before_spent, before_end, end_ends, none_ends, before_finished}
use Rattle.walk.proofs.walks.walk.Goals as goal

pub loop-j-init : goal.loop-j-init
loop-j-init c =
    let p = c.requires in
    record {
      before = rw c.forget.ensures.opened
          (before_start _ (ready_of c.args.automaton.now p.room) (p.i_bound, c.args.work.within) p.by_index);
      full = rw (c.forget.ensures.opened, c.forget.ensures.full) (full_start _ _ _);
      cache = p.remembered;
      limit = refl;
    }

pub returns-then-is_finished-clause-walked : goal.returns-then-is_finished-clause-walked
returns-then-is_finished-clause-walked c =
    before_finished c.loop-j.invariant.before (c.is_finished.ensures.0 c.if-is_finished.true)

pub returns-then-is_finished-clause-extent : goal.returns-then-is_finished-clause-extent
returns-then-is_finished-clause-extent c =
    let g = c.loop-j.invariant.before in
    (g.within, none_ends g (c.is_finished.ensures.0 c.if-is_finished.true).marked)

pub returns-in_err-counted-clause-walked : goal.returns-in_err-counted-clause-walked
returns-in_err-counted-clause-walked c =
    let v = c.loop-j.invariant in
    rw c.from_residual.ensures
    (before_spent _ v.before (omega arith) c.level-set.ensures.states (rw v.limit at (c.in_err-counted.ensures.advanced.stop refl)))

pub loop-j-preserved : goal.loop-j-preserved
loop-j-preserved c =
    let v = c.loop-j.invariant in
    let e = c.level-set.ensures in
    record {
      before = before_turn _ v.before (omega arith) e.states (rw v.limit at (c.in_ok-counted.ensures.advanced.on refl));
      full = e.full;
      cache = e.cache;
      limit = c.in_ok-counted.ensures.limit ∙ v.limit;
    }

pub returns-clause-walked : goal.returns-clause-walked
returns-clause-walked c =
    before_end c.loop-j.invariant.before (let h = c.loop-j-test.false in omega arith)

pub returns-clause-extent : goal.returns-clause-extent
returns-clause-extent c =
    let h = c.loop-j-test.false in
    let n = c.loop-j.invariant.before.within in
    let k : c.loop-j.j ≡ length c.args.word.now + 1 = omega arith in
    (omega arith, rw k at (end_ends c.loop-j.invariant.before (omega arith)))
