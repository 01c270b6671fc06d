-- `write_lines` stores two numbers for each line. Assumes nothing.
use Prim.Native.Nat.{ℕ}
use lib.ListN.{length}
use Rattle.expression.specs.declared.records.Records.{Records}
use Rattle.wuzlevor.proofs.RowLaws.{Writing}
use Rattle.wuzlevor.proofs.row.write_lines.Given as goal

-- the two numbers of a line
abbrev pub m_of : Records → ℕ
m_of x = x.m

abbrev pub k_of : Records → ℕ
k_of x = x.k

abbrev pub invariant-loop-i : goal.invariant-loop-i
invariant-loop-i l =
    Writing m_of k_of l.read (length l.read) l.initial.lines l.lines l.i
