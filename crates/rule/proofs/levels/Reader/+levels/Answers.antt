-- The cycle of the reader's levels: what each returns is what `parse` gives, by the laws of ReaderLaws. Assumes nothing.
use native.Mathlib.Omega.{arith}
use mathlib.Core.Path.{sym, ap, ◌∙◌}
use lib.ListN.{length}
use borrow.Author.Tests.{eqb-true, eqb-false}
use Rattle.expression.specs.declared.Leaf.{Leaf}
use Rattle.expression.proofs.LeafLaws.{leaf_fits}
use Rattle.event.proofs.Tails.{tail_length}
use Rattle.rule.proofs.ReaderLaws.{start_there, same_offset}
use Rattle.rule.proofs.ReaderLaws.{alt_turned, conj_turned, seq_turned, post_turned}
use Rattle.rule.proofs.ReaderLaws.{alt_left, conj_left, seq_left, post_left, pre_more, pre_ends}
use Rattle.rule.proofs.ReaderLaws.{group_closed, group_open, leaf_done, atom_ends}
use Rattle.rule.proofs.levels.Reader.+levels.Goals as goal

pub read_alt-loop-offset-preserved : goal.read_alt-loop-offset-preserved
read_alt-loop-offset-preserved t c =
    alt_turned c.loop-offset.invariant c.byte_at.ensures c.loop-offset-test.true c.skip.ensures c.read_conj-in-loop-offset.ensures c.push.ensures

pub read_alt-returns : goal.read_alt-returns
read_alt-returns t c =
    alt_left c.read_conj.ensures c.loop-offset.invariant c.byte_at.ensures c.loop-offset-test.false

pub read_conj-loop-offset-preserved : goal.read_conj-loop-offset-preserved
read_conj-loop-offset-preserved t c =
    conj_turned c.loop-offset.invariant c.byte_at.ensures c.loop-offset-test.true c.skip.ensures c.read_seq-in-loop-offset.ensures c.push.ensures

pub read_conj-returns : goal.read_conj-returns
read_conj-returns t c =
    conj_left c.read_seq.ensures c.loop-offset.invariant c.byte_at.ensures c.loop-offset-test.false

pub read_seq-loop-offset-smaller : goal.read_seq-loop-offset-smaller
read_seq-loop-offset-smaller t c =
    let i = start_there c.loop-offset.invariant c.byte_at.ensures c.is_start.ensures c.loop-offset-test.true in
    let o = same_offset c.push.ensures in
    let m = tail_length c.loop-offset.n c.args.s.now in
    omega (arith, i)

pub read_seq-loop-offset-preserved : goal.read_seq-loop-offset-preserved
read_seq-loop-offset-preserved t c =
    seq_turned c.loop-offset.invariant c.byte_at.ensures c.is_start.ensures c.loop-offset-test.true c.read_pre-in-loop-offset.ensures c.push.ensures

pub read_seq-returns : goal.read_seq-returns
read_seq-returns t c =
    seq_left c.read_pre.ensures c.loop-offset.invariant c.byte_at.ensures c.is_start.ensures c.loop-offset-test.false

pub read_pre-returns-then-byte_at-eq33 : goal.read_pre-returns-then-byte_at-eq33
read_pre-returns-then-byte_at-eq33 t c =
    pre_more c.byte_at.ensures c.if-byte_at-eq33.true c.skip.ensures c.read_pre.ensures c.push.ensures

pub read_pre-returns-else-byte_at-eq33 : goal.read_pre-returns-else-byte_at-eq33
read_pre-returns-else-byte_at-eq33 t c =
    pre_ends c.byte_at.ensures c.if-byte_at-eq33.false c.read_post.ensures

pub read_post-loop-n-preserved : goal.read_post-loop-n-preserved
read_post-loop-n-preserved t c =
    post_turned c.loop-n.invariant c.byte_at.ensures c.loop-n-test.true c.push.ensures c.skip.ensures

pub read_post-returns : goal.read_post-returns
read_post-returns t c =
    post_left c.read_atom.ensures c.loop-n.invariant c.byte_at.ensures c.loop-n-test.false

pub read_atom-returns-then-self-start : goal.read_atom-returns-then-self-start
read_atom-returns-then-self-start t c =
    group_closed c.byte_at.ensures c.if-byte_at-eq40.true c.skip.ensures c.read_alt.ensures c.if-self-start.true c.skip-then-self-start.ensures

pub read_atom-returns-else-self-start : goal.read_atom-returns-else-self-start
read_atom-returns-else-self-start t c =
    group_open c.byte_at.ensures c.if-byte_at-eq40.true c.skip.ensures c.read_alt.ensures c.if-self-start.false

pub read_atom-skip-requires-then-not-is_empty : goal.read_atom-skip-requires-then-not-is_empty
read_atom-skip-requires-then-not-is_empty t c =
    let s = c.args.s.now in
    let n = eqb-false (length s) 0 (sym c.is_empty.ensures ∙ c.if-not-is_empty.true) in
    let o = same_offset c.push.ensures in
    let m = leaf_fits s (omega arith) in
    let w = ap (λ (y : Leaf). y.width) c.read_leaf-leaf.ensures in
    omega (arith, m)

pub read_atom-returns-then-not-is_empty : goal.read_atom-returns-then-not-is_empty
read_atom-returns-then-not-is_empty t c =
    let n = eqb-false (length c.args.s.now) 0 (sym c.is_empty.ensures ∙ c.if-not-is_empty.true) in
    leaf_done c.byte_at.ensures c.if-byte_at-eq40.false (omega arith) c.read_leaf-leaf.ensures c.push.ensures c.skip-then-not-is_empty.ensures

pub read_atom-returns-else-not-is_empty : goal.read_atom-returns-else-not-is_empty
read_atom-returns-else-not-is_empty t c =
    let n = eqb-true (length c.args.s.now) 0 (sym c.is_empty.ensures ∙ c.if-not-is_empty.false) in
    atom_ends c.byte_at.ensures c.if-byte_at-eq40.false (omega arith)
