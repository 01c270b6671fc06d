-- `write_nodes` stores two numbers for each record. Assumes nothing.
use native.Mathlib.Omega.{arith}
use Rattle.expression.specs.declared.Kind.TheVariants.{Empty}
use Rattle.wuzlevor.proofs.RowLaws.{writing_begins, writing_on, writing_all}
use Rattle.wuzlevor.proofs.row.write_nodes.Invariants.{offset, kind}
use Rattle.wuzlevor.proofs.row.write_nodes.Goals as goal

pub loop-i-init : goal.loop-i-init
loop-i-init c =
    writing_begins offset kind _ _ _

pub loop-i-preserved : goal.loop-i-preserved
loop-i-preserved c =
    writing_on offset kind (record { offset = 0; kind = Empty }) (omega arith) c.loop-i.invariant c.loop-i-test.true c.from.ensures

pub returns : goal.returns
returns c =
    writing_all offset kind (omega (arith, c.requires.0, c.requires.1)) c.loop-i.invariant c.loop-i-test.false
