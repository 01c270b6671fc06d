-- The limits that document 01 names as edges, and bytes beside the letters in a word, by computation. Assumes nothing.
use Prim.Native.Nat.{ℕ}
use Prim.Native.String.{String}
use mathlib.Core.Path.{◌≡◌, refl}
use mathlib.Core.List.{[], ◌∷◌, ◌++◌, map}
use lib.Count.{ones}
use lib.ListN.{replicate}
use Rattle.bits.specs.Bit.{has_bit, ones_of}
use Rattle.bits.specs.Runs.{packed, packed_run}
use Rattle.event.specs.Event.{is_event}
use Rattle.event.specs.Leading.{leading}
use Rattle.event.specs.LetterSets.{holds, bit_of}
use Rattle.event.specs.Text.{bytes}
use Rattle.expression.specs.Accept.{accepts}
use Rattle.expression.specs.Leaves.{leaf_at}
use Rattle.expression.specs.Parse.{parse}
use Rattle.expression.specs.Scan.{scan_from}
use Rattle.expression.specs.TreeOf.{tree_of}
use Rattle.expression.specs.OrderComputed.{unordered_from}
use Rattle.expression.specs.StarsComputed.{double_from}
use Rattle.rule.specs.RuleComputed.{sentence_outcome, rule_answer}
use Rattle.work.specs.Count.{full_count}
use Rattle.work.specs.TableComputed.{obeys, block, table, found}
use Rattle.matcher.specs.MatchAnswer.{values, refusal}
use Rattle.matcher.specs.MatchComputed.{fit_answer, match_answer}
use Rattle.judge.specs.JudgeComputed.{judge_answer}

-- "`!a` on a passes with limit 7; limit 6 gives 10.": both blocks have the empty spans alone, and one number beyond them stays
limits : map (λ (limit : ℕ). judge_answer (bytes "!a") (bytes "a") limit (replicate 17 5)) (7 ∷ 6 ∷ [])
    ≡ values 0 0 2 7 (1 ∷ 0 ∷ 0 ∷ 0 ∷ 2 ∷ 0 ∷ 0 ∷ 0 ∷ 1 ∷ 0 ∷ 0 ∷ 0 ∷ 2 ∷ 0 ∷ 0 ∷ 0 ∷ 5 ∷ []) ∷ values 10 0 0 6 (replicate 16 0 ++ (5 ∷ [])) ∷ []
unfolding judge_answer match_answer fit_answer rule_answer sentence_outcome leading is_event scan_from tree_of parse leaf_at unordered_from double_from holds has_bit bit_of full_count accepts obeys block table found packed packed_run ones_of ones
limits = refl

-- 02 a): 8 reads "the wider alphabet"
beside_letters : map (λ (s : String). judge_answer (bytes "A") (bytes s) 9 []) ("Az@" ∷ "Za[" ∷ "aZ`" ∷ "zA{" ∷ [])
    ≡ refusal 8 2 [] ∷ refusal 8 2 [] ∷ refusal 8 2 [] ∷ refusal 8 2 [] ∷ []
unfolding judge_answer match_answer fit_answer rule_answer sentence_outcome leading is_event scan_from tree_of parse leaf_at unordered_from double_from
beside_letters = refl
