-- The answer means what it says, by the language and the collection. Assumes nothing.
use Prim.Native.Nat.{ℕ, ◌+◌, ◌-◌, ◌*◌, ◌^◌, ◌≤◌, ◌<◌}
use native.Mathlib.Omega.{arith}
use native.Mathlib.Nat.{mul-le-mul_right}
use mathlib.Core.Path.{◌≡◌, sym, ap, subst, ◌∙◌}
use mathlib.Core.List.{List, ◌++◌}
use lib.Dec.{ltb}
use lib.ListN.{length, get_or, drop, replicate, length-append, length-drop, length-replicate, get_or-replicate, get_or-append}
use lib.Seq.{get_or-append-add, get_or-drop}
use borrow.Author.Tests.{ltb-true, ltb-false}
use Rattle.event.specs.Event.{Word, is_event}
use Rattle.event.proofs.LeadingLaws.{leading_found}
use Rattle.event.proofs.Tests.{choose}
use Rattle.expression.specs.Tree.{Tree, specials}
use Rattle.work.specs.Count.{full_count}
use Rattle.work.specs.Table.{need_of, block_length, Rising}
use Rattle.work.specs.TableComputed.{special_parts, table}
use Rattle.work.proofs.Order.{listed_special, special_listed}
use Rattle.work.proofs.TableLaws.{parts_length, table_length, table_holds, table_small, holds_in_front}
use Rattle.work.proofs.WorkSize.{collection_size}
use Rattle.matcher.specs.MatchAnswer.{MatchAnswer, values}
use Rattle.matcher.specs.MatchComputed.{foreign_at, fit_answer, after_fit, limited, match_answer}
use Rattle.verdict.specs.declared.Verdict.{Verdict}
use Rattle.matcher.specs.MatchMeaning.{LegalWord, KeepsBeyond, HoldsTable, MatchMeaning}
use Rattle.matcher.specs.MatchMeaning.{long_word, foreign_event, short_table, limit_spent, accepted}
use Rattle.matcher.proofs.Limited.{found_counted}
use Rattle.matcher.proofs.Words.{none_foreign}

-- ---- the table
-- block k of a need lies within it
block_room : (k m n : ℕ) → k ≤ m → k * block_length n + block_length n ≤ need_of m n
block_room k m n h = let l : (k + 1) * block_length n ≤ (m + 1) * block_length n = mul-le-mul_right (block_length n) (omega arith) in omega arith

-- new numbers in front of what lay beyond them
pub keeps_beyond : {need : ℕ} (a old : List ℕ) → length a ≡ need → need ≤ length old → KeepsBeyond need old (a ++ drop need old)
keeps_beyond {need} a old e h = record {
  long = simp (length-append, length-drop) (omega arith);
  beyond = λ i l.
      let f : i ≡ length a + (i - need) = omega arith in
      let g : need + (i - need) ≡ i = omega arith in
      ap (λ (n : ℕ). get_or (a ++ drop need old) n 0) f ∙ get_or-append-add a (drop need old) (i - need) 0
      ∙ get_or-drop need old (i - need) 0 ∙ ap (λ (n : ℕ). get_or old n 0) g;
}

pub holds_table : (t : Tree) → Rising 0 (special_parts t) → (w : Word) → length w ≤ 255 → (rest : List ℕ)
    → HoldsTable w t (table w t ++ rest)
holds_table t up w short rest = record {
  parts = special_parts t;
  special = λ u. (λ m. listed_special t u 0 m, λ h. special_listed h.1 h.2);
  each = parts_length t;
  rising = up;
  blocks = λ k h.
      let l = block_room k (specials t) (length w) h in
      holds_in_front rest short (omega (arith, table_length w t)) (table_holds w t k short h);
  numbers = λ i h.
      let e = get_or-append (table w t) rest 0 i (omega (arith, table_length w t)) in
      subst (λ (x : ℕ). x < 2 ^ 64) (sym e) (table_small w t i);
}

-- ---- the answer
module _ (t : Tree) (up : Rising 0 (special_parts t)) (w : Word) (limit : ℕ) (old : List ℕ) where
  abbrev M : MatchAnswer → Type 0
  M = MatchMeaning t w limit old

  zeros : (n i : ℕ) (rest : List ℕ) → i < n → get_or (replicate n 0 ++ rest) i 0 ≡ 0
  zeros n i rest h =
      get_or-append (replicate n 0) rest 0 i (omega (arith, length-replicate {A = ℕ} n 0)) ∙ get_or-replicate {A = ℕ} n i 0 0 h

  limited_means : LegalWord w → need_of (specials t) (length w) ≤ length old → M (limited t w limit old)
  limited_means l room =
      choose M (ltb limit (full_count w t))
      (λ e. limit_spent l room (collection_size w t) (ltb-true _ _ e) (λ i h. zeros (need_of (specials t) (length w)) i _ h)
      (keeps_beyond (replicate (need_of (specials t) (length w)) 0) old (length-replicate _ _) room))
      (λ e. subst (λ (n : ℕ). M (values 0 0 n (full_count w t) (table w t ++ drop (need_of (specials t) (length w)) old)))
      (found_counted w t (drop (need_of (specials t) (length w)) old))
      (accepted l room (collection_size w t) (ltb-false _ _ e) (holds_table t up w l.fits _)
      (keeps_beyond (table w t) old (table_length w t) room)))

  -- what the answer after a check of word and table means
  abbrev After : Verdict → Type 0
  After f = M (after_fit f old (limited t w limit old))

  pub answer_means : M (match_answer t w limit old)
  unfolding match_answer fit_answer
  answer_means =
      choose After (ltb 255 (length w)) (λ e. long_word (ltb-true _ _ e))
      (λ e. choose After (ltb (foreign_at w) (length w))
      (λ f. let h = ltb-true _ _ f in
      foreign_event (ltb-false _ _ e) h (leading_found is_event w).before ((leading_found is_event w).there h))
      (λ f. let l : LegalWord w = record { fits = ltb-false _ _ e; events = none_foreign w (ltb-false _ _ f) } in
      choose After (ltb (length old) (need_of (specials t) (length w))) (λ g. short_table l (ltb-true _ _ g))
      (λ g. limited_means l (ltb-false _ _ g))))

-- the two clauses of a contract
pub with_meaning : {t : Tree} {w : Word} {limit : ℕ} {old : List ℕ} {a : MatchAnswer} → Rising 0 (special_parts t)
    → a ≡ match_answer t w limit old → (a ≡ match_answer t w limit old) × MatchMeaning t w limit old a
with_meaning {t} {w} {limit} {old} up e = (e, subst (MatchMeaning t w limit old) (sym e) (answer_means t up w limit old))
