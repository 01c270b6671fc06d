-- `run` answers as `job_answer`, and so by the grammar, the language and the collection. Assumes nothing.
use Prim.Native.Nat.{ℕ}
use mathlib.Core.Path.{ap₂, ◌∙◌}
use mathlib.Core.List.{List}
use Rattle.rule.specs.RuleComputed.{rule_answer}
use Rattle.job.specs.JobComputed.{written, after_rule}
use Rattle.job.proofs.FirstLine.{line_stop, line_pass}
use Rattle.job.proofs.Answered.{with_meaning}
use Rattle.job.proofs.run.Goals as goal

pub returns-in-None : goal.returns-in-None
returns-in-None c =
    let both = with_meaning (line_stop c.args.job.now c.args.out.now c.in-None.ensures) in
    record { value = both.0; meaning = both.1 }

pub returns-in-Some : goal.returns-in-Some
returns-in-Some c =
    let a = c.args in
    let p = c.in-Some.ensures in
    let both = with_meaning (c.run_rule.ensures
    ∙ ap₂ (λ (x y : List ℕ). written (after_rule x y (rule_answer x)) a.out.now) p.1 p.2
    ∙ line_pass a.job.now a.out.now p.0) in
    record { value = both.0; meaning = both.1 }
