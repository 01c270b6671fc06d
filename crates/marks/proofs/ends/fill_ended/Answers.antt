-- `fill_ended` counts the initial states, and adds their row. Assumes nothing.
use mathlib.Core.Path.{refl, ◌∙◌}
use mathlib.Core.Bool.{true≢false, false≢true}
use native.Mathlib.Omega.{arith}
use Rattle.marks.proofs.EndLaws.{one_row}
use Rattle.marks.proofs.RowLaws.{row_spans}
use borrow.Author.Rules.{rules}
use Rattle.marks.proofs.ends.fill_ended.Goals as goal

pub returns-in_err-work-clause-ended : goal.returns-in_err-work-clause-ended
returns-in_err-work-clause-ended c =
    let n = c.count_at.ensures.0 in
    let o = c.in_err-work.ensures.spent in
    rw c.from_residual.ensures record {
      marks = _;
      marked = rw c.new-marks.ensures at c.store.ensures;
      counted = λ f. absurd (true≢false f);
      over = λ _. omega arith;
      spends = λ _. refl;
      bounded = omega arith;
      row = λ f. absurd (true≢false f);
      kept = λ _. refl;
    }

pub add_row-requires-clause-by_index : goal.add_row-requires-clause-by_index
add_row-requires-clause-by_index c =
    let a = c.args in
    let p = c.requires in
    row_spans _ a.target a.i a.n _ (search rules)
    (λ k l. c.row_at_start-row.ensures k l ∙ one_row (rw c.new-marks.ensures at c.store.ensures) a.target a.n k p.complement_value p.i_le_n)

pub returns-clause-ended : goal.returns-clause-ended
returns-clause-ended c =
    let a = c.args in
    let p = c.requires in
    let n = c.count_at.ensures.0 in
    let m = c.in_ok-work.ensures.counted in
    record {
      marks = _;
      marked = rw c.new-marks.ensures at c.store.ensures;
      counted = λ _. omega arith;
      over = λ f. absurd (false≢true f);
      spends = λ f. absurd (false≢true f);
      bounded = omega arith;
      row = λ _. (
        _,
        λ k l. c.row_at_start-row.ensures k l ∙ one_row (rw c.new-marks.ensures at c.store.ensures) a.target a.n k p.complement_value p.i_le_n,
        c.add_row.ensures,
      );
      kept = λ f. absurd (false≢true f);
    }
