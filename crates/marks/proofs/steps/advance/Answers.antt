-- `advance` marks and counts a set, and reads an event if the limit allows it. Assumes nothing.
use mathlib.Core.Path.{refl}
use mathlib.Core.Bool.{false≢true, true≢false}
use native.Mathlib.Omega.{arith}
use Rattle.marks.proofs.MarkLaws.{stored_adds}
use Rattle.marks.proofs.steps.advance.Goals as goal

pub returns-in_err-work-clause-advanced : goal.returns-in_err-work-clause-advanced
returns-in_err-work-clause-advanced c =
    let n = c.count_at.ensures.0 in
    let o = c.in_err-work.ensures.spent in
    rw c.from_residual.ensures record {
      on = λ f. absurd (true≢false f);
      stop = λ _. record { marked = stored_adds c.requires.marked_in c.store.ensures; spends = refl; over = omega arith };
    }

pub returns-clause-advanced : goal.returns-clause-advanced
returns-clause-advanced c =
    let n = c.count_at.ensures.0 in
    let m = c.in_ok-work.ensures.counted in
    record {
      on = λ _. record {
        middle = _;
        marked = stored_adds c.requires.marked_in c.store.ensures;
        read = c.read_next.ensures;
        counted = omega arith;
        bounded = omega arith;
      };
      stop = λ f. absurd (false≢true f);
    }
