-- `wuz_judge_rule_file` leaves what the judge on a rule file leaves, and writes its answer. Assumes nothing.
use Prim.Native.Nat.{◌<◌}
use native.Mathlib.Omega.{arith}
use lib.ListN.{length}
use Rattle.judge.proofs.Told.{told_outcome}
use Rattle.rule_file.specs.FileAnswer.{refusal_verdict}
use Rattle.wuzlevor.proofs.ExportLaws.{judge_file_returns, judge_file_writes}
use Rattle.wuzlevor.proofs.wuz_judge_rule_file.Goals as goal

pub returns-then-answer-lt-JUDGE_ANSWER : goal.returns-then-answer-lt-JUDGE_ANSWER
returns-then-answer-lt-JUDGE_ANSWER c =
    let h : length c.args.answer.now < 4 = omega arith in
    let both = judge_file_returns h in
    record { value = both.0; meaning = both.1 }

pub returns : goal.returns
returns c =
    let both = judge_file_writes c.judge_file.result c.if-answer-lt-JUDGE_ANSWER.false c.judge_file.ensures.value c.judge_file.ensures.meaning (told_outcome (λ r. refusal_verdict r.refusal r.line) c.judge_file.result c.from-said.ensures)
    c.write_row.ensures in
    record { value = both.0; meaning = both.1 }
