-- `read` answers as `file_answer`, and so by the grammar. Assumes nothing.
use mathlib.Core.Path.{sym}
use borrow.Author.Tests.{eqb-true}
use Rattle.rule_file.proofs.ReadLaws.{with_meaning, refused_here, going_on, nothing, whole}
use Rattle.rule_file.proofs.read.Goals as goal

pub returns-in-Err : goal.returns-in-Err
returns-in-Err c =
    let g = c.loop-rest.invariant in
    let both = with_meaning (refused_here g _ (c.in-Err.ensures g.ls g.kept)) in
    record { value = both.0; meaning = both.1 }

pub loop-rest-preserved : goal.loop-rest-preserved
loop-rest-preserved c =
    let g = c.loop-rest.invariant in
    going_on g _ (c.in-Ok.ensures g.ls g.kept) c.loop-rest-test.array_long

pub returns-then-r-eq0 : goal.returns-then-r-eq0
returns-then-r-eq0 c =
    let both = with_meaning (nothing c.loop-rest.invariant (eqb-true _ _ (sym c.loop-rest-test.ensures)) c.if-r-eq0.true) in
    record { value = both.0; meaning = both.1 }

pub returns : goal.returns
returns c =
    let both = with_meaning (whole c.loop-rest.invariant (eqb-true _ _ (sym c.loop-rest-test.ensures)) c.if-r-eq0.false c.accept.result c.accept.ensures.0 c.accept.ensures.1) in
    record { value = both.0; meaning = both.1 }
