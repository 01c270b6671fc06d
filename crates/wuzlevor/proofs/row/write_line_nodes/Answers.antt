-- `write_line_nodes` stores the nodes of each line at the line's place. Assumes nothing.
use Prim.Native.Nat.{◌*◌}
use native.Mathlib.Omega.{arith}
use mathlib.Core.Path.{◌≡◌, sym, ap, ◌∙◌}
use mathlib.Core.List.{map}
use lib.ListN.{get_or, get_or-map, length-map, length-take}
use Rattle.rule_line.specs.Lines.{told_line}
use Rattle.event.proofs.Tails.{tail_length}
use Rattle.wuzlevor.proofs.RowLaws.{filling_on, filling_ends}
use Rattle.wuzlevor.proofs.row.write_line_nodes.Goals as goal

pub write_nodes-requires : goal.write_nodes-requires
write_nodes-requires c =
    let x = c.index-read-i.result in
    let p = c.requires in
    let l = c.loop-i in
    let t = c.loop-i-test.true in (
      omega (arith, length-take x.m x.nodes, x.m_bound),
      omega (arith, tail_length (128 * l.i) l.nodes, p.0, p.1, l.invariant.as_long),
    )

pub loop-i-preserved : goal.loop-i-preserved
loop-i-preserved c =
    let x = told_line c.index-read-i.result in
    let read = c.args.read.now in
    let l = c.loop-i in
    let e : x ≡ get_or (map told_line read) l.i x
    = ap told_line c.index-read-i.is ∙ sym (get_or-map told_line read l.i c.index-read-i.result) in
    let w = c.write_nodes in
    filling_on x l.invariant (omega (arith, length-map read told_line, c.loop-i-test.true)) e w.new.nodes w.auto.nodes w.ensures

pub returns : goal.returns
returns c =
    filling_ends c.loop-i.invariant (omega (arith, length-map c.args.read.now told_line, c.loop-i-test.false))
