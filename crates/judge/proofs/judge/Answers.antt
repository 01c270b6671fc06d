-- `judge` answers as `judge_answer`, and so by the grammar, the language and the collection. Assumes nothing.
use mathlib.Core.Path.{◌∙◌}
use Rattle.std.proofs.lemmas.Result.{err_from_is_err_and}
use Rattle.judge.proofs.Joined.{after_refusal, after_acceptance, rule_records}
use Rattle.judge.proofs.Results.{clauses}
use Rattle.judge.proofs.judge.Goals as goal

pub returns-in_err-records : goal.returns-in_err-records
returns-in_err-records c =
    let a = c.args in
    let p = err_from_is_err_and c.from_residual.result c.from_residual.ensures.1 in
    let e = clauses (after_refusal a.rule.now a.word.now a.limit a.table.now _ c.in_err-records.ensures.value) in
    rw (p.1, p.2) (record { value = e.0; meaning = e.1.0; bound = e.1.1 })

pub match_spans-requires : goal.match_spans-requires
match_spans-requires c =
    let a = c.args in rule_records a.rule.now a.word.now a.limit a.table.now c.in_ok-records.records c.in_ok-records.ensures.value

pub returns-in_err-judged : goal.returns-in_err-judged
returns-in_err-judged c =
    let a = c.args in
    let x = c.in_ok-records in
    let r = c.from_residual-in_err-judged in
    let p = err_from_is_err_and r.result r.ensures.1 in
    let e = clauses (c.in_err-judged.ensures.value ∙ after_acceptance a.rule.now a.word.now a.limit a.table.now x.records x.ensures.value) in
    rw (p.1, p.2) (record { value = e.0; meaning = e.1.0; bound = e.1.1 })

pub returns : goal.returns
returns c =
    let a = c.args in
    let x = c.in_ok-records in
    let e = clauses (c.in_ok-judged.ensures.value ∙ after_acceptance a.rule.now a.word.now a.limit a.table.now x.records x.ensures.value) in
    record { value = e.0; meaning = e.1.0; bound = e.1.1 }
