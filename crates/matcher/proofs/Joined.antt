-- The two steps, one after the other. Assumes nothing.
use Prim.Native.Nat.{ℕ}
use mathlib.Core.Bool.{false}
use mathlib.Core.Path.{◌≡◌, refl, sym, ap, ◌∙◌}
use mathlib.Core.List.{List}
use lib.Dec.{eqb}
use Rattle.event.specs.Event.{Word}
use Rattle.expression.specs.Tree.{Tree, specials}
use Rattle.verdict.specs.Verdicts.{accepted}
use Rattle.verdict.specs.declared.Verdict.{Verdict}
use Rattle.matcher.specs.MatchAnswer.{refusal_verdict, told}
use Rattle.matcher.specs.MatchComputed.{fit_answer, after_fit, limited, match_answer}
use Rattle.matcher.specs.declared.Refusal.{Refusal}
use Rattle.matcher.specs.declared.Refusal.TheVariants.{LongWord, ForeignEvent, ShortTable, Spent}
use Rattle.matcher.proofs.Tested.{after_fit_lem}

-- no refusal has the number of an acceptance
pub refusal_number_lem : (r : Refusal) → eqb (refusal_verdict r).number 0 ≡ false
refusal_number_lem LongWord = refl
refusal_number_lem (ForeignEvent p) = refl
refusal_number_lem ShortTable = refl
refusal_number_lem (Spent c) = refl

module _ (k : ℕ) (w : Word) (old : List ℕ) (t : Tree) (limit : ℕ) (s : specials t ≡ k) where
  after : (v : Verdict) → v ≡ fit_answer k w old → after_fit v old (limited t w limit old) ≡ match_answer t w limit old
  after v e = after_fit_lem t w limit old v (e ∙ ap (λ (j : ℕ). fit_answer j w old) (sym s))

  -- the first step found nothing: the second step's answer is that of both
  pub after_passed : accepted 0 0 ≡ fit_answer k w old → limited t w limit old ≡ match_answer t w limit old
  after_passed e = after (accepted 0 0) e

  -- what the first step found is the answer
  pub after_refused : (r : Refusal) → refusal_verdict r ≡ fit_answer k w old → told (refusal_verdict r) old ≡ match_answer t w limit old
  after_refused r e = sym (simp (refusal_number_lem r)) ∙ after (refusal_verdict r) e
