-- `judge_file` answers as `judge_file_answer`, and so by the grammar, the language and the collection. Assumes nothing.
use Prim.Native.Nat.{◌-◌}
use mathlib.Core.Path.{◌∙◌}
use native.Mathlib.Omega.{arith}
use Rattle.std.proofs.lemmas.Result.{err_from_is_err_and}
use Rattle.judge.proofs.FileJoined.{after_refusal, line_records, after_acceptance}
use Rattle.judge.proofs.FileResults.{clauses}
use Rattle.judge.proofs.file.judge_file.Goals as goal

pub returns-in_err-read : goal.returns-in_err-read
returns-in_err-read c =
    let a = c.args in
    let p = err_from_is_err_and c.from_residual.result c.from_residual.ensures.1 in
    let e = clauses (after_refusal a.file.now a.word.now a.limit a.table.now _ c.in_err-read.ensures.value) in
    rw (p.1, p.2) (record { value = e.0; meaning = e.1.0; bound = e.1.1 })

pub match_spans-requires : goal.match_spans-requires
match_spans-requires c =
    let x = c.in_ok-read in
    line_records c.args.file.now x.read x.ensures.value (x.read.count - 1) (omega arith) c.last-last.result.now c.last-last.ensures

pub returns-in_err-judged : goal.returns-in_err-judged
returns-in_err-judged c =
    let a = c.args in
    let x = c.in_ok-read in
    let r = c.from_residual-in_err-judged in
    let p = err_from_is_err_and r.result r.ensures.1 in
    let e = clauses (c.in_err-judged.ensures.value ∙ after_acceptance a.file.now x.read x.ensures.value c.last-last.result.now c.last-last.ensures
    a.word.now a.limit a.table.now) in
    rw (p.1, p.2) (record { value = e.0; meaning = e.1.0; bound = e.1.1 })

pub returns : goal.returns
returns c =
    let a = c.args in
    let x = c.in_ok-read in
    let e = clauses (c.in_ok-judged.ensures.value ∙ after_acceptance a.file.now x.read x.ensures.value c.last-last.result.now c.last-last.ensures
    a.word.now a.limit a.table.now) in
    record { value = e.0; meaning = e.1.0; bound = e.1.1 }
