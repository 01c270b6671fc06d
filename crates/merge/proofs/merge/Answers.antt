-- `merge` meets its contract. Assumes nothing.
use Rattle.std.proofs.Common.{◌∙◌}
use Rattle.std.proofs.lemmas.Result.{err_from_is_err_and}
use Rattle.merge.proofs.Answered.{answers}
use Rattle.merge.proofs.Steps.{first_stops, second_stops, both_read}
use Rattle.merge.proofs.merge.Goals as goal

pub returns-in_err-day1 : goal.returns-in_err-day1
returns-in_err-day1 c =
    let a = c.args in
    let p = err_from_is_err_and c.from_residual.result c.from_residual.ensures.1 in
    let both = answers a.first.now a.second.now a.letters.now a.seconds.now _
    (first_stops a.first.now a.second.now a.letters.now a.seconds.now _ c.in_err-day1.ensures.err) in
    rw (p.1, p.2) (record { value = both.0; meaning = both.1 })

pub returns-in_err-day2 : goal.returns-in_err-day2
returns-in_err-day2 c =
    let a = c.args in
    let r = c.from_residual-in_err-day2 in
    let q = err_from_is_err_and r.result r.ensures.1 in
    let both = answers a.first.now a.second.now a.letters.now a.seconds.now _
    (second_stops a.first.now a.second.now a.letters.now a.seconds.now c.in_ok-day1.ensures.ok _ c.in_err-day2.ensures.err) in
    rw (q.1, q.2) (record { value = both.0; meaning = both.1 })

pub returns : goal.returns
returns c =
    let a = c.args in
    let both = answers a.first.now a.second.now a.letters.now a.seconds.now _
    (c.merge_events.ensures ∙ both_read a.first.now a.second.now a.letters.now a.seconds.now c.in_ok-day1.ensures.ok c.in_ok-day2.ensures.ok) in
    record { value = both.0; meaning = both.1 }
