-- `meets` tests both numbers of what two sets have in common for 0 at once. Assumes nothing.
use mathlib.Core.Path.{ap}
use mathlib.Core.Bool.{not}
use borrow.Author.Tests.{eqb-true, not-false, eq-eqb}
use borrow.Author.Rules.{rules}
use Rattle.levels.proofs.SetLaws.{meets_law}
use Rattle.levels.proofs.sets.meets.Goals as goal

pub returns : goal.returns
returns c =
    let d = meets_law c.args.a.now c.args.b.now (search rules, search rules) in
    (λ e. d.0 (eqb-true _ _ (not-false _ e)), λ e. ap not (eq-eqb _ _ (d.1 e)))
