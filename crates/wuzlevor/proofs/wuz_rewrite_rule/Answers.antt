-- `wuz_rewrite_rule` leaves what the rewriter leaves, and writes its answer. Assumes nothing.
use native.Mathlib.Omega.{arith}
use lib.ListN.{length}
use Prim.Native.Nat.{◌<◌}
use Rattle.wuzlevor.proofs.ExportLaws.{rewrite_returns, rewrite_writes}
use Rattle.wuzlevor.proofs.wuz_rewrite_rule.Goals as goal

pub returns-then-answer-lt-REWRITE_ANSWER : goal.returns-then-answer-lt-REWRITE_ANSWER
returns-then-answer-lt-REWRITE_ANSWER c =
    let h : length c.args.answer.now < 5 = omega arith in
    let both = rewrite_returns h in
    record { value = both.0; meaning = both.1 }

pub returns : goal.returns
returns c =
    let both = rewrite_writes c.rewrite.result c.if-answer-lt-REWRITE_ANSWER.false c.rewrite.ensures.value c.write_read.ensures in
    record { value = both.0; meaning = both.1 }
