-- `wuz_judge` leaves what the judge leaves, and writes its answer. Assumes nothing.
use Prim.Native.Nat.{◌<◌}
use native.Mathlib.Omega.{arith}
use lib.ListN.{length}
use Rattle.judge.proofs.Told.{told_outcome}
use Rattle.rule.specs.RuleAnswer.{refusal_verdict}
use Rattle.wuzlevor.proofs.ExportLaws.{judge_returns, judge_writes}
use Rattle.wuzlevor.proofs.wuz_judge.Goals as goal

pub returns-then-answer-lt-JUDGE_ANSWER : goal.returns-then-answer-lt-JUDGE_ANSWER
returns-then-answer-lt-JUDGE_ANSWER c =
    let h : length c.args.answer.now < 4 = omega arith in
    let both = judge_returns h in
    record { value = both.0; meaning = both.1 }

pub returns : goal.returns
returns c =
    let both = judge_writes c.judge.result c.if-answer-lt-JUDGE_ANSWER.false c.judge.ensures.value c.judge.ensures.meaning (told_outcome refusal_verdict c.judge.result c.from-said.ensures)
    c.write_row.ensures in
    record { value = both.0; meaning = both.1 }
