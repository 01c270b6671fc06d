-- `fill_walked` walks from one start, and adds its row. Assumes nothing.
use mathlib.Core.Path.{refl}
use mathlib.Core.Bool.{true≢false, false≢true}
use Rattle.walk.proofs.StartLaws.{starts_at, started}
use Rattle.marks.proofs.RowLaws.{row_spans}
use borrow.Author.Rules.{rules}
use Rattle.walk.proofs.starts.fill_walked.Goals as goal

pub walk-requires-clause-by_index : goal.walk-requires-clause-by_index
walk-requires-clause-by_index c =
    starts_at c.args.target c.args.i (rw c.new-marks.ensures at c.mark_start.ensures)

pub returns-in_err-walked-clause-started : goal.returns-in_err-walked-clause-started
returns-in_err-walked-clause-started c =
    rw c.from_residual.ensures
    (started c.args.target c.args.i (rw c.new-marks.ensures at c.mark_start.ensures) c.in_err-walked.ensures.walked refl (λ f. absurd (true≢false f)) (λ _. refl))

pub add_row-requires-clause-by_index : goal.add_row-requires-clause-by_index
add_row-requires-clause-by_index c =
    row_spans _ c.args.target c.args.i _ _ (search rules) c.row_of-row.ensures

pub returns-clause-started : goal.returns-clause-started
returns-clause-started c =
    started c.args.target c.args.i (rw c.new-marks.ensures at c.mark_start.ensures) c.in_ok-walked.ensures.walked refl (λ _. (_, c.row_of-row.ensures, c.add_row.ensures))
    (λ f. absurd (false≢true f))
