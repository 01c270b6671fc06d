-- What a verdict made of the judge's answer says. Assumes nothing.
use mathlib.Core.Path.{◌≡◌}
use Rattle.std.proofs.Common.{Result, Ok, Err, MatchResult}
use Rattle.verdict.specs.Verdicts.{accepted}
use Rattle.verdict.specs.declared.Judged.{Judged}
use Rattle.verdict.specs.declared.Verdict.{Verdict}
use Rattle.judge.specs.JudgeAnswer.{refusal_verdict, TellsRefusal, outcome_verdict}
use Rattle.judge.specs.declared.Refusal.{Refusal}
use Rattle.judge.specs.declared.Refusal.TheVariants.{Reading, Matching}

module _ {R : Type 0} (reader : R → Verdict) where
  pub told_refusal : (r : Refusal R) {v : Verdict} → TellsRefusal (λ x u. u ≡ reader x) r v → v ≡ refusal_verdict reader r
  told_refusal (Reading r) e = e
  told_refusal (Matching r) e = e

  pub told_outcome : (o : Result Judged (Refusal R)) {v : Verdict}
      → MatchResult o (λ j. v ≡ accepted j.found j.count) (λ r. TellsRefusal (λ x u. u ≡ reader x) r v) → v ≡ outcome_verdict reader o
  told_outcome (Ok j) e = e
  told_outcome (Err r) e = told_refusal r e
