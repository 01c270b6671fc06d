-- `part` finds the parts of a job. Assumes nothing.
use native.Mathlib.Omega.{arith}
use mathlib.Core.Path.{sym, ◌∙◌}
use lib.Seq.{length-take-le}
use Rattle.job.proofs.FirstLine.{no_tag, no_tab, two_long, end_within, no_end, formed, rule_part, day_part}
use Rattle.job.proofs.first_line.part.Goals as goal
use Rattle.job.proofs.first_line.part.Goals.{then-byte_at-ne82-via-then-byte_at-ne82, then-byte_at-ne82-via-else-byte_at-ne82+then-byte_at-ne9}

pub returns-then-byte_at-ne82 : goal.returns-then-byte_at-ne82
returns-then-byte_at-ne82 c =
    elim c.then-byte_at-ne82.branch [
      | then-byte_at-ne82-via-then-byte_at-ne82 w ↦ no_tag c.args.job.now (λ e. w.if-byte_at-ne82.true (c.byte_at.ensures ∙ e))
      | then-byte_at-ne82-via-else-byte_at-ne82+then-byte_at-ne9 w ↦ no_tab c.args.job.now (λ e. w.if-byte_at-ne9.true (w.byte_at-else-byte_at-ne82.ensures ∙ e))
    ]

pub slice_bounds-rest-count : goal.slice_bounds-rest-count
slice_bounds-rest-count c = two_long c.args.job.now (sym c.byte_at-else-byte_at-ne82.ensures ∙ c.if-byte_at-ne9.false)

pub returns-then-end-rest : goal.returns-then-end-rest
returns-then-end-rest c = no_end c.args.job.now _ c.find_newline-end.ensures c.if-end-rest.true

pub slice_bounds-result-end : goal.slice_bounds-result-end
slice_bounds-result-end c =
    sym (length-take-le c.find_newline-end.result _ (end_within c.args.job.now _ c.find_newline-end.ensures))

pub overflow_add-result : goal.overflow_add-result
overflow_add-result c =
    let l = end_within c.args.job.now _ c.find_newline-end.ensures in
    omega (arith, l)

pub slice_bounds-result-count : goal.slice_bounds-result-count
slice_bounds-result-count c =
    let l = end_within c.args.job.now _ c.find_newline-end.ensures in
    let d = c.if-end-rest.false in
    omega (arith, l)

pub slice_bounds-result-start : goal.slice_bounds-result-start
slice_bounds-result-start c =
    let l = end_within c.args.job.now _ c.find_newline-end.ensures in
    let d = c.if-end-rest.false in
    omega (arith, l)

pub returns : goal.returns
returns c =
    let s = c.args.job.now in
    let e = c.find_newline-end.ensures in (
      formed s _ e (sym c.byte_at.ensures ∙ c.if-byte_at-ne82.false) (sym c.byte_at-else-byte_at-ne82.ensures ∙ c.if-byte_at-ne9.false) c.if-end-rest.false,
      rule_part s _ e,
      day_part s _ e,
    )
