-- `write` writes the new text, if it fits. Assumes nothing.
use native.Mathlib.Omega.{arith}
use Rattle.rewrite.specs.Rewritten.{rewritten}
use Rattle.rewrite.proofs.Answered.{too_short, all_written}
use Rattle.rewrite.proofs.write.Goals as goal

pub returns-then-out-n : goal.returns-then-out-n
returns-then-out-n c =
    let a = c.args in
    too_short (rewritten a.text.now) a.out.now _ c.new_length-n.ensures c.if-out-n.true

pub returns : goal.returns
returns c =
    let a = c.args in
    all_written (rewritten a.text.now) a.out.now _ _ c.new_length-n.ensures (omega arith) c.fill.ensures
