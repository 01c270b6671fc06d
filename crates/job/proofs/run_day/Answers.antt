-- `run_day` answers as `after_day`. Assumes nothing.
use Prim.Native.Nat.{◌≤◌}
use native.Mathlib.Omega.{arith}
use mathlib.Core.Path.{sym, ap, ◌∙◌}
use lib.ListN.{length, replicate}
use lib.Seq.{length-take-le}
use Rattle.day.specs.DayComputed.{day_answer}
use Rattle.job.specs.JobComputed.{JobResult, written}
use Rattle.job.proofs.Steps.{day_pass}
use Rattle.day.proofs.Rows.{events_few}
use Rattle.job.proofs.run_day.Goals as goal

pub slice_bounds-letters-end : goal.slice_bounds-letters-end
slice_bounds-letters-end c = omega (arith, events_few c.in_ok-n.ensures.meaning, c.read.auto.letters)

pub slice_bounds-run_judge-end : goal.slice_bounds-run_judge-end
slice_bounds-run_judge-end c =
    sym (length-take-le c.in_ok-n.n c.read.new.letters (omega (arith, events_few c.in_ok-n.ensures.meaning, c.read.auto.letters)))

pub run_judge-requires : goal.run_judge-requires
run_judge-requires c =
    let few : c.in_ok-n.n ≤ 255 = omega (arith, events_few c.in_ok-n.ensures.meaning) in
    let l = length-take-le c.in_ok-n.n c.read.new.letters (omega (arith, few, c.read.auto.letters)) in
    omega arith

pub returns : goal.returns
returns c =
    let a = c.args in
    let r = c.read in
    let fits : c.in_ok-n.n ≤ length r.new.letters = omega (arith, events_few c.in_ok-n.ensures.meaning, r.auto.letters) in
    c.run_judge.ensures
    ∙ ap (λ (x : JobResult). written x a.out.now)
    (day_pass a.rule.now a.records.now.m a.records.now.k (day_answer a.file.now (replicate 255 0) (replicate 255 0)) c.in_ok-n.n
    r.new.letters r.new.seconds c.in_ok-n.ensures.value fits)
