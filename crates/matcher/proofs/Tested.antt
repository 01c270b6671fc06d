-- Which test decides, one after another. Assumes nothing.
use Prim.Native.Nat.{ℕ, suc, ◌+◌, ◌≤◌, ◌<◌}
use native.Mathlib.Omega.{arith}
use native.Mathlib.Nat.{mul-le-mul}
use mathlib.Core.Path.{◌≡◌, ap}
use mathlib.Core.List.{List}
use lib.Dec.{ltb}
use lib.ListN.{length}
use borrow.Author.Tests.{lt-ltb, le-ltb, ltb-false}
use Rattle.event.specs.Event.{Word}
use Rattle.event.proofs.LeadingLaws.{first_other_is}
use Rattle.event.proofs.Tests.{choose}
use Rattle.expression.specs.Tree.{Tree, specials}
use Rattle.work.specs.Count.{full_count}
use Rattle.work.specs.Table.{block_length, need_of}
use Rattle.matcher.specs.MatchComputed.{foreign_at, fit_answer, after_fit, spent, acceptance, limited, match_answer}
use Rattle.verdict.specs.declared.Verdict.{Verdict}
use Rattle.verdict.specs.Verdicts.{refused, accepted}
use Rattle.matcher.specs.Given.{Fitting}
use Rattle.matcher.proofs.Words.{none_foreign}

-- the most numbers that are needed
pub need_most : (k n : ℕ) → k ≤ 7 → n ≤ 255 → need_of k n ≤ 8192
need_most k n h l =
    let a : k + 1 ≤ 8 = omega arith in
    let b : block_length n ≤ 1024 = omega arith in
    mul-le-mul a b

-- ---- word and table
module _ (k : ℕ) (w : Word) (old : List ℕ) where
  pub at_length : 255 < length w → fit_answer k w old ≡ refused 7 0
  unfolding fit_answer
  at_length h = simp (lt-ltb 255 (length w) h)

  pub at_foreign : length w ≤ 255 → foreign_at w < length w → fit_answer k w old ≡ refused 8 (foreign_at w)
  unfolding fit_answer
  at_foreign h f = simp (le-ltb 255 (length w) h, lt-ltb (foreign_at w) (length w) f)

  pub at_table : length w ≤ 255 → length w ≤ foreign_at w → length old < need_of k (length w) → fit_answer k w old ≡ refused 9 0
  unfolding fit_answer
  at_table h f r = simp (le-ltb 255 (length w) h, le-ltb (foreign_at w) (length w) f, lt-ltb (length old) (need_of k (length w)) r)

  pub at_fit : length w ≤ 255 → length w ≤ foreign_at w → need_of k (length w) ≤ length old → fit_answer k w old ≡ accepted 0 0
  unfolding fit_answer
  at_fit h f r = simp (le-ltb 255 (length w) h, le-ltb (foreign_at w) (length w) f, le-ltb (length old) (need_of k (length w)) r)

  -- the first step found nothing, which is what the second takes
  pub fitting : accepted 0 0 ≡ fit_answer k w old → Fitting k w old
  unfolding fit_answer
  fitting =
      choose Fits (ltb 255 (length w)) (λ _ e. absurd (other e))
      (λ h. choose Fits (ltb (foreign_at w) (length w)) (λ _ e. absurd (other e))
      (λ f. choose Fits (ltb (length old) (need_of k (length w))) (λ _ e. absurd (other e))
      (λ r _. record {
        word = record { fits = ltb-false _ _ h; events = none_foreign w (ltb-false _ _ f) };
        room = ltb-false _ _ r;
      })))
    where
      Fits : Verdict → Type 0
      Fits f = accepted 0 0 ≡ f → Fitting k w old

      other : {n p : ℕ} → accepted 0 0 ≡ refused (suc n) p → ⊥
      other e = let z = ap (λ (f : Verdict). f.number) e in omega arith

-- what `check_fit` answers after each test
pub ruleset first_step = (first_other_is, at_length, at_foreign, at_table, at_fit)

-- ---- the answer
module _ (t : Tree) (w : Word) (limit : ℕ) (old : List ℕ) where
  pub after_fit_lem : (f : Verdict) → f ≡ fit_answer (specials t) w old → after_fit f old (limited t w limit old) ≡ match_answer t w limit old
  unfolding match_answer
  after_fit_lem f e = ap (λ (x : Verdict). after_fit x old (limited t w limit old)) e

  pub at_spent : limit < full_count w t → limited t w limit old ≡ spent (need_of (specials t) (length w)) limit old
  at_spent h = simp (lt-ltb limit (full_count w t) h)

  pub at_acceptance : full_count w t ≤ limit → limited t w limit old ≡ acceptance t w old
  at_acceptance h = simp (le-ltb limit (full_count w t) h)
