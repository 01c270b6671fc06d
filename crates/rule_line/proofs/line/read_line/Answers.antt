-- `read_line` finds the fields of a line of the form. Assumes nothing.
use native.Mathlib.Omega.{arith}
use mathlib.Core.Path.{refl, sym}
use Prim.Native.Nat.{◌+◌}
use lib.ListN.{length}
use lib.Seq.{length-take-le}
use Rattle.event.proofs.Tails.{tail_length}
use Rattle.rule_line.proofs.CodeLaws.{no_tag, no_name, past_name, end_within, no_end, formed}
use Rattle.rule_line.proofs.line.read_line.Goals as goal

pub returns-in_err-fields : goal.returns-in_err-fields
returns-in_err-fields c =
    rw c.from_residual.ensures (no_tag _ c.in_err-fields.ensures.cases)

pub returns-in_err-name : goal.returns-in_err-name
returns-in_err-name c =
    rw c.from_residual-in_err-name.ensures (no_name c.args.s.now c.in_ok-fields.ensures.cases.0 c.in_ok-fields.ensures.cases.1 c.in_err-name.ensures)

pub slice_bounds-body-count : goal.slice_bounds-body-count
slice_bounds-body-count c =
    let n = c.in_ok-name.ensures in
    past_name c.args.s.now c.in_ok-fields.ensures.cases.0 c.in_ok-fields.ensures.cases.1 _ n.2 (omega (arith, n.0, n.2))

pub slice_bounds-body-start : goal.slice_bounds-body-start
slice_bounds-body-start c =
    let n = c.in_ok-name.ensures in
    past_name c.args.s.now c.in_ok-fields.ensures.cases.0 c.in_ok-fields.ensures.cases.1 _ n.2 (omega (arith, n.0, n.2))

pub returns-then-end-body : goal.returns-then-end-body
returns-then-end-body c =
    let n = c.in_ok-name.ensures in
    no_end c.args.s.now c.in_ok-fields.ensures.cases.0 c.in_ok-fields.ensures.cases.1 _ n.2 (omega (arith, n.0, n.2)) _ c.find_newline-end.ensures
    c.if-end-body.true

pub slice_bounds-result-end : goal.slice_bounds-result-end
slice_bounds-result-end c =
    let n = c.in_ok-name.ensures in
    sym (length-take-le c.find_newline-end.result _
    (end_within c.args.s.now c.in_ok-fields.ensures.cases.0 c.in_ok-fields.ensures.cases.1 _ n.2 (omega (arith, n.0, n.2)) _ c.find_newline-end.ensures))

pub overflow_add-result : goal.overflow_add-result
overflow_add-result c =
    let n = c.in_ok-name.ensures in
    let x = c.in_ok-fields.fields.now in
    omega (arith, c.in_ok-fields.ensures.cases.2, tail_length (length c.in_ok-name.name.now + 1) x, end_within c.args.s.now c.in_ok-fields.ensures.cases.0 c.in_ok-fields.ensures.cases.1 _ n.2 (omega (arith, n.0, n.2)) _ c.find_newline-end.ensures)

pub slice_bounds-result-count : goal.slice_bounds-result-count
slice_bounds-result-count c =
    let n = c.in_ok-name.ensures in
    let d = c.if-end-body.false in
    omega (arith, end_within c.args.s.now c.in_ok-fields.ensures.cases.0 c.in_ok-fields.ensures.cases.1 _ n.2 (omega (arith, n.0, n.2)) _ c.find_newline-end.ensures)

pub slice_bounds-result-start : goal.slice_bounds-result-start
slice_bounds-result-start c =
    let n = c.in_ok-name.ensures in
    let d = c.if-end-body.false in
    omega (arith, end_within c.args.s.now c.in_ok-fields.ensures.cases.0 c.in_ok-fields.ensures.cases.1 _ n.2 (omega (arith, n.0, n.2)) _ c.find_newline-end.ensures)

pub returns : goal.returns
returns c =
    let n = c.in_ok-name.ensures in
    formed c.args.s.now c.in_ok-fields.ensures.cases.0 c.in_ok-fields.ensures.cases.1 _ n.2 (omega (arith, n.0, n.2)) _ c.find_newline-end.ensures
    c.if-end-body.false _ n.1 refl refl
