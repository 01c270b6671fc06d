-- `cut` cuts a rule into its pieces. Assumes nothing.
use native.Mathlib.Omega.{arith}
use mathlib.Core.Path.{refl, sym}
use borrow.Author.Tests.{eqb-true}
use Rattle.rule_line.proofs.CodeLaws.{cutting_start, cutting_on, cutting_ends}
use Rattle.rule_line.proofs.shape.cut.Goals as goal

pub loop-rest-init : goal.loop-rest-init
loop-rest-init c =
    cutting_start _ _ _ refl refl refl

pub loop-rest-preserved : goal.loop-rest-preserved
loop-rest-preserved c =
    let t = c.loop-rest-test in
    cutting_on c.loop-rest.invariant _ c.requires (omega arith) c.read_piece-piece.ensures c.push.ensures

pub returns : goal.returns
returns c =
    cutting_ends c.loop-rest.invariant (eqb-true _ _ (sym c.loop-rest-test.ensures))
