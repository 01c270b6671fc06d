-- `wuz_merge_days` leaves what the merging call leaves, and writes its answer. Assumes nothing.
use Prim.Native.Nat.{◌<◌}
use native.Mathlib.Omega.{arith}
use lib.ListN.{length}
use Rattle.wuzlevor.proofs.ExportLaws.{merge_returns, merge_writes}
use Rattle.wuzlevor.proofs.wuz_merge_days.Goals as goal

pub returns-then-answer-lt-MERGE_ANSWER : goal.returns-then-answer-lt-MERGE_ANSWER
returns-then-answer-lt-MERGE_ANSWER c =
    let h : length c.args.answer.now < 5 = omega arith in
    let both = merge_returns h in
    record { value = both.0; meaning = both.1 }

pub returns : goal.returns
returns c =
    let both = merge_writes c.merge.result c.if-answer-lt-MERGE_ANSWER.false c.merge.ensures.value c.merge.ensures.meaning c.write_read.ensures in
    record { value = both.0; meaning = both.1 }
