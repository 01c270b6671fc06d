-- `wuz_run_job` leaves what the job leaves, and writes its answer. Assumes nothing.
use Prim.Native.Nat.{◌<◌}
use native.Mathlib.Omega.{arith}
use mathlib.Core.Path.{ap, ◌∙◌}
use mathlib.Core.List.{[], ◌∷◌, ◌++◌}
use lib.ListN.{length}
use Rattle.std.specs.Prelude.{Ok}
use Rattle.verdict.specs.declared.Verdict.{Verdict}
use Rattle.job.specs.JobAnswer.{job_values}
use Rattle.wuzlevor.specs.Told.{over}
use Rattle.wuzlevor.specs.ExportComputed.{verdict_row}
use Rattle.wuzlevor.proofs.ExportLaws.{job_returns, job_writes, job_refused}
use Rattle.wuzlevor.proofs.wuz_run_job.Goals as goal

pub returns-then-answer-lt-JOB_ANSWER : goal.returns-then-answer-lt-JOB_ANSWER
returns-then-answer-lt-JOB_ANSWER c =
    let h : length c.args.answer.now < 5 = omega arith in
    let both = job_returns h in
    record { value = both.0; meaning = both.1 }

pub returns-in-Ok : goal.returns-in-Ok
returns-in-Ok c =
    let l = c.in-Ok.accepted in
    let both = job_writes (job_values (Ok l) c.run.new.out) c.if-answer-lt-JOB_ANSWER.false c.in-Ok.ensures.value c.in-Ok.ensures.meaning
    (c.write_row.ensures ∙ ap (λ (v : Verdict). over (verdict_row v ++ (l.n ∷ [])) c.args.answer.now) c.acceptance-said.ensures) in
    record { value = both.0; meaning = both.1 }

pub returns-in-Err : goal.returns-in-Err
returns-in-Err c =
    let both = job_refused c.in-Err.refusal c.if-answer-lt-JOB_ANSWER.false c.in-Err.ensures.value c.in-Err.ensures.meaning
    c.from-said.ensures c.write_row-in-Err.ensures in
    record { value = both.0; meaning = both.1 }
