-- `wuz_read_day` leaves what the day reader leaves, and writes its answer. Assumes nothing.
use Prim.Native.Nat.{◌<◌}
use native.Mathlib.Omega.{arith}
use lib.ListN.{length}
use Rattle.wuzlevor.proofs.ExportLaws.{day_returns, day_writes}
use Rattle.wuzlevor.proofs.wuz_read_day.Goals as goal

pub returns-then-answer-lt-DAY_ANSWER : goal.returns-then-answer-lt-DAY_ANSWER
returns-then-answer-lt-DAY_ANSWER c =
    let h : length c.args.answer.now < 5 = omega arith in
    let both = day_returns h in
    record { value = both.0; meaning = both.1 }

pub returns : goal.returns
returns c =
    let both = day_writes c.read.result c.if-answer-lt-DAY_ANSWER.false c.read.ensures.value c.read.ensures.meaning c.write_read.ensures in
    record { value = both.0; meaning = both.1 }
