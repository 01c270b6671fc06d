-- What follows of every answer: the bound of the count, and what the answer does not depend on. Assumes nothing.
use Prim.Native.Nat.{ℕ, ◌+◌, ◌*◌, ◌≤◌, ◌<◌}
use native.Mathlib.Omega.{arith}
use mathlib.Core.Path.{◌≡◌, refl, sym, ap, ◌∙◌}
use mathlib.Core.Bool.{Bool, true, false, cond}
use mathlib.Core.Logic.{◌⊎◌, inl, inr, ⊎_elim, ◌↔◌}
use mathlib.Core.List.{List, ◌++◌}
use lib.Dec.{eqb, ltb}
use lib.ListN.{length, take, replicate, length-replicate}
use lib.Seq.{take_at}
use borrow.Author.Tests.{eqb-false, ltb-true}
use Rattle.bits.proofs.Digits.{below_or_not}
use Rattle.event.specs.Event.{Word}
use Rattle.event.proofs.Tests.{choose}
use Rattle.expression.specs.Tree.{Tree, size, specials}
use Rattle.work.specs.Count.{full_count}
use Rattle.work.specs.Walk.{Collection}
use Rattle.work.specs.SizeOf.{SizeOf}
use Rattle.work.specs.Table.{need_of}
use Rattle.work.specs.TableComputed.{table, found}
use Rattle.work.proofs.Sizes.{size_unique}
use Rattle.work.proofs.TableLaws.{table_length}
use Rattle.work.proofs.WorkBound.{full_bound}
use Rattle.work.proofs.WorkSize.{collection_size}
use Rattle.matcher.specs.MatchAnswer.{MatchAnswer, values, told}
use Rattle.matcher.specs.MatchComputed.{acceptance, foreign_at, fit_answer, limited, match_answer}
use Rattle.verdict.specs.declared.Verdict.{Verdict}
use Rattle.matcher.specs.Agree.{Agree}
use Rattle.matcher.specs.MatchMeaning.{LegalWord}
use Rattle.matcher.proofs.Determined.{to_limit}
use Rattle.matcher.proofs.Tested.{at_spent, at_acceptance}

-- ---- word and table
-- the numbers that they are refused with, and that nothing is counted then
fit_number : (k : ℕ) (w : Word) (old : List ℕ) → (fit_answer k w old).number ≤ 9
unfolding fit_answer
fit_number k w old =
    choose Below (ltb 255 (length w)) (λ _. omega arith)
    (λ _. choose Below (ltb (foreign_at w) (length w)) (λ _. omega arith)
    (λ _. choose Below (ltb (length old) (need_of k (length w))) (λ _. omega arith) (λ _. omega arith)))
  where
    Below : Verdict → Type 0
    Below f = f.number ≤ 9

fit_count : (k : ℕ) (w : Word) (old : List ℕ) → (fit_answer k w old).count ≡ 0
unfolding fit_answer
fit_count k w old =
    choose Uncounted (ltb 255 (length w)) (λ _. refl)
    (λ _. choose Uncounted (ltb (foreign_at w) (length w)) (λ _. refl)
    (λ _. choose Uncounted (ltb (length old) (need_of k (length w))) (λ _. refl) (λ _. refl)))
  where
    Uncounted : Verdict → Type 0
    Uncounted f = f.count ≡ 0

-- ---- demand 3: "at most m × (n+1) × (n+2)"
pub count_bound : (t : Tree) (w : Word) (limit : ℕ) (old : List ℕ)
    → (match_answer t w limit old).count ≤ size t * (length w + 1) * (length w + 2)
unfolding match_answer
count_bound t w limit old =
    choose Within (eqb (fit_answer (specials t) w old).number 0)
    (λ _. choose Within (ltb limit (full_count w t)) (λ e. omega (arith, ltb-true limit (full_count w t) e, full_bound w t)) (λ _. full_bound w t))
    (λ _. omega (arith, fit_count (specials t) w old))
  where
    Within : MatchAnswer → Type 0
    Within a = a.count ≤ size t * (length w + 1) * (length w + 2)

-- ---- what the table held
pub both : {A : Type 0} (P : A → A → Type 0) (t : Bool) {a b c d : A} → (t ≡ true → P a b) → (t ≡ false → P c d)
    → P (cond t a c) (cond t b d)
both P true x y = x refl
both P false x y = y refl

pub refusals_agree : (need : ℕ) (v : Verdict) (old old' : List ℕ) → (v.number ≡ 0 → ⊥) → (v.number ≡ 10 → ⊥)
    → Agree need (told v old) (told v old')
refusals_agree need v old old' f g = record {
  number = refl;
  place = refl;
  found = refl;
  count = refl;
  written = λ h. ⊎_elim (λ (e : v.number ≡ 0). absurd (f e)) (λ (e : v.number ≡ 10). absurd (g e)) h;
}

written_alike : {need : ℕ} {a b : List ℕ} (n p f c : ℕ) → take need a ≡ take need b → Agree need (values n p f c a) (values n p f c b)
written_alike n p f c e = record { number = refl; place = refl; found = refl; count = refl; written = λ _. e }

-- of the table only the length is looked at
fit_unread : (k : ℕ) (w : Word) (old old' : List ℕ) → length old ≡ length old' → fit_answer k w old ≡ fit_answer k w old'
unfolding fit_answer
fit_unread k w old old' e = rw e refl

module _ (t : Tree) (w : Word) (limit : ℕ) (old old' : List ℕ) where
  abbrev need : ℕ
  need = need_of (specials t) (length w)

  front : (a rest rest' : List ℕ) → length a ≡ need → take need (a ++ rest) ≡ take need (a ++ rest')
  front a rest rest' e = take_at a rest need e ∙ sym (take_at a rest' need e)

  limited_agree : Agree need (limited t w limit old) (limited t w limit old')
  limited_agree =
      both (Agree need) (ltb limit (full_count w t))
      (λ _. written_alike 10 0 0 limit (front (replicate need 0) _ _ (length-replicate need 0)))
      (λ _. written_alike 0 0 (found w t) (full_count w t) (front (table w t) _ _ (table_length w t)))

  -- the answer and the needed numbers do not depend on what the table held
  pub table_unread : length old ≡ length old' → Agree need (match_answer t w limit old) (match_answer t w limit old')
  unfolding match_answer
  table_unread e =
      let f = fit_answer (specials t) w old in
      rw (← fit_unread (specials t) w old old' e)
      (both (Agree need) (eqb f.number 0) (λ _. limited_agree)
      (λ n. let l = fit_number (specials t) w old in refusals_agree need f old old' (eqb-false _ _ n) (λ h. omega arith)))

-- ---- the limit
-- an answer with the number 0 is the accepting one
pub accepts_as : (t : Tree) (w : Word) (limit : ℕ) (old : List ℕ) → (match_answer t w limit old).number ≡ 0
    → match_answer t w limit old ≡ acceptance t w old
unfolding match_answer
accepts_as t w limit old =
    choose As (eqb (fit_answer (specials t) w old).number 0)
    (λ _. choose As (ltb limit (full_count w t)) (λ _ h. absurd (omega arith)) (λ _ _. refl))
    (λ n h. absurd (eqb-false _ _ n h))
  where
    As : MatchAnswer → Type 0
    As a = a.number ≡ 0 → a ≡ acceptance t w old

-- limits that are not spent make no difference: the count is fixed by rule and word alone
pub limit_unread : (t : Tree) (w : Word) (limit limit' : ℕ) (old : List ℕ) → (match_answer t w limit old).number ≡ 0
    → (match_answer t w limit' old).number ≡ 0 → match_answer t w limit old ≡ match_answer t w limit' old
limit_unread t w limit limit' old h k = accepts_as t w limit old h ∙ sym (accepts_as t w limit' old k)

-- 10 comes exactly when the size of the collection is above the limit
pub ten_exactly : (t : Tree) (w : Word) (limit : ℕ) (old : List ℕ) (c : ℕ) → LegalWord w → need_of (specials t) (length w) ≤ length old
    → SizeOf (Collection w t) c → ((match_answer t w limit old).number ≡ 10) ↔ (limit < c)
ten_exactly t w limit old c l room z = (λ h. above h (below_or_not limit c), λ h. ten (omega (arith, e)))
  where
    e : c ≡ full_count w t
    e = size_unique (Collection w t) c (full_count w t) z (collection_size w t)

    ten : limit < full_count w t → (match_answer t w limit old).number ≡ 10
    ten h = ap (λ (a : MatchAnswer). a.number) (sym (to_limit t w limit old l room) ∙ at_spent t w limit old h)

    above : (match_answer t w limit old).number ≡ 10 → (limit < c) ⊎ (c ≤ limit) → limit < c
    above h (inl k) = k
    above h (inr k) =
        let a : (match_answer t w limit old).number ≡ 0 =
        ap (λ (x : MatchAnswer). x.number) (sym (to_limit t w limit old l room) ∙ at_acceptance t w limit old (omega (arith, e))) in
        absurd (omega arith)
