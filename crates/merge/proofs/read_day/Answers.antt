-- `read_day` tells what a file comes to. Assumes nothing.
use Rattle.std.proofs.Common.{◌≡◌, ◌∙◌, sym, ap, ℕ, arith, Result, Err}
use Rattle.std.proofs.lemmas.Result.{err_from_is_err_and}
use Rattle.day.specs.declared.Refusal.{Refusal}
use Rattle.day.specs.DayAnswer.{day_values}
use Rattle.merge.proofs.Steps.{read_refused, read_events}
use Rattle.merge.proofs.read_day.Goals as goal

pub returns-in_err-n-clause-err : goal.returns-in_err-n-clause-err
returns-in_err-n-clause-err c =
    let p = err_from_is_err_and c.from_residual.result c.from_residual.ensures.1 in
    let e : c.read.result ≡ Err p.0 = c.in_err-n.was ∙ ap Err (sym p.2) in
    rw p.1 (read_refused _ _ _ _ _ _ (omega arith, omega arith) (ap (λ (o : Result ℕ Refusal). day_values o c.read.new.letters c.read.new.seconds) (sym e) ∙ c.read.ensures.value))

pub returns-clause-ok : goal.returns-clause-ok
returns-clause-ok c =
    read_events _ _ _ _ _ (ap (λ (o : Result ℕ Refusal). day_values o c.read.new.letters c.read.new.seconds) (sym c.in_ok-n.was) ∙ c.read.ensures.value)
