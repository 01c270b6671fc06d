-- `rewrite` answers as `rewrite_answer`, and so by the grammar and the runs of stars. Assumes nothing.
use mathlib.Core.Path.{◌≡◌, sym, ◌∙◌}
use Rattle.std.proofs.lemmas.Result.{err_from_is_err_and}
use Rattle.rewrite.specs.RewriteAnswer.{rewrite_values}
use Rattle.rewrite.specs.RewriteComputed.{rewrite_answer}
use Rattle.rewrite.proofs.Answered.{answer_after, with_meaning}
use Rattle.rewrite.proofs.rewrite.Goals as goal

pub returns-in_err-check_stored : goal.returns-in_err-check_stored
returns-in_err-check_stored c =
    let s = c.args.text.now in
    let old = c.args.out.now in
    let p = err_from_is_err_and c.from_residual.result c.from_residual.ensures.1 in
    let e : rewrite_values c.from_residual.result old ≡ rewrite_answer s old
    = rw (p.1, p.2) (answer_after s old (sym c.check_stored.ensures ∙ c.in_err-check_stored.was)) in
    record { value = e; meaning = with_meaning e }

pub returns : goal.returns
returns c =
    let e = c.write.ensures ∙ answer_after _ _ (sym c.check_stored.ensures ∙ c.in_ok-check_stored.was) in
    record { value = e; meaning = with_meaning e }
