-- `match_spans` answers as `match_answer`, and so by the language and the collection. Assumes nothing.
use mathlib.Core.Path.{◌∙◌}
use Rattle.std.proofs.lemmas.Result.{err_from_is_err_and}
use Rattle.owners.specs.Filling.{rule_of}
use Rattle.matcher.proofs.Answered.{with_meaning}
use Rattle.matcher.proofs.Joined.{after_passed, after_refused}
use Rattle.matcher.proofs.Tested.{fitting}
use Rattle.matcher.proofs.match_spans.Goals as goal

pub fill_and_count-requires-clause-fitting : goal.fill_and_count-requires-clause-fitting
fill_and_count-requires-clause-fitting c =
    let a = c.args in fitting a.records.now.k a.word.now a.table.now c.in_ok-check_fit.ensures

pub returns : goal.returns
returns c =
    let a = c.args in
    let r = a.records.now in
    let both = with_meaning c.requires.rising
    (c.fill_and_count.ensures
    ∙ after_passed r.k a.word.now a.table.now (rule_of r) a.limit c.requires.special c.in_ok-check_fit.ensures) in
    record { value = both.0; meaning = both.1 }

pub returns-in_err-check_fit : goal.returns-in_err-check_fit
returns-in_err-check_fit c =
    let a = c.args in
    let r = a.records.now in
    let p = err_from_is_err_and c.from_residual.result c.from_residual.ensures.1 in
    let both = with_meaning c.requires.rising
    (after_refused r.k a.word.now a.table.now (rule_of r) a.limit c.requires.special _ c.in_err-check_fit.ensures) in
    rw (p.1, p.2) (record { value = both.0; meaning = both.1 })
