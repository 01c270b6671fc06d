-- `write_nodes` stores two numbers for each record. Assumes nothing.
use Prim.Native.Nat.{ℕ}
use lib.ListN.{length}
use Rattle.expression.specs.KindNumber.{kind_number}
use Rattle.expression.specs.declared.Node.{Node}
use Rattle.wuzlevor.proofs.RowLaws.{Writing}
use Rattle.wuzlevor.proofs.row.write_nodes.Given as goal

-- the two numbers of a node
abbrev pub offset : Node → ℕ
offset x = x.offset

abbrev pub kind : Node → ℕ
kind x = kind_number x.kind

abbrev pub invariant-loop-i : goal.invariant-loop-i
invariant-loop-i l =
    Writing offset kind l.records (length l.records) l.initial.nodes l.nodes l.i
