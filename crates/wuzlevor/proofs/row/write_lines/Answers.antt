-- `write_lines` stores two numbers for each line. Assumes nothing.
use Prim.Native.Nat.{ℕ}
use native.Mathlib.Omega.{arith}
use mathlib.Core.List.{List}
use mathlib.Core.Path.{sym, ap, ◌∙◌}
use Rattle.rule_line.specs.Lines.{LineNodes, told_line}
use Rattle.wuzlevor.specs.Told.{over}
use Rattle.wuzlevor.proofs.RowLaws.{writing_at, writing_all, pair_row_map}
use Rattle.wuzlevor.proofs.row.write_lines.Invariants.{m_of, k_of}
use Rattle.wuzlevor.proofs.row.write_lines.Goals as goal

pub loop-i-preserved : goal.loop-i-preserved
loop-i-preserved c =
    writing_at m_of k_of c.index-read-i.result c.index-read-i.is (omega arith) c.loop-i.invariant c.loop-i-test.true

pub returns : goal.returns
returns c =
    writing_all m_of k_of (omega (arith, c.requires.0, c.requires.1)) c.loop-i.invariant c.loop-i-test.false
    ∙ sym (ap (λ (row : List ℕ). over row c.args.lines.now) (pair_row_map told_line (λ (x : LineNodes). x.m) (λ (x : LineNodes). x.k) c.args.read.now))
