-- Sentences and special nodes that document 01 names as edges, bytes at the ends of the two runs of letters, sets of letters, and stars
-- directly after a star, by computation. Assumes nothing.
use Prim.Native.Nat.{ℕ}
use Prim.Native.String.{String}
use mathlib.Core.Path.{◌≡◌, refl}
use mathlib.Core.List.{List, [], ◌∷◌, map}
use lib.ListN.{replicate}
use Rattle.event.specs.Event.{is_event}
use Rattle.event.specs.Leading.{leading}
use Rattle.event.specs.LetterSets.{bit_of, single, every, gathered, letters_of}
use Rattle.event.specs.Text.{bytes}
use Rattle.expression.specs.Leaves.{leaf_at}
use Rattle.expression.specs.Parse.{parse}
use Rattle.expression.specs.Scan.{scan_from, counted}
use Rattle.expression.specs.Tree.{letter, concatenation, complement, star}
use Rattle.expression.specs.OrderComputed.{unordered_from}
use Rattle.expression.specs.StarsComputed.{double_from}
use Rattle.expression.specs.TreeOf.{tree_of}
use Rattle.rule.specs.RuleAnswer.{refusal, acceptance}
use Rattle.rule.specs.RuleComputed.{sentence_outcome, stored_outcome, rule_answer}
use Rattle.std.proofs.Common.{Err}
use Rattle.rule.specs.declared.Refusal.TheVariants.{NoSentence, ManyNodes, ManySpecials}

-- "`)` gives 4 at 0, `(a` at 2, `a)` at 1, `()` at 1, `a|` at 2", "eight give 6"
refused : map (λ (s : String). rule_answer (bytes s)) (")" ∷ "(a" ∷ "a)" ∷ "()" ∷ "a|" ∷ "!!!!!!!!a" ∷ [])
    ≡ refusal 4 0 ∷ refusal 4 2 ∷ refusal 4 1 ∷ refusal 4 1 ∷ refusal 4 2 ∷ refusal 6 0 ∷ []
unfolding rule_answer sentence_outcome leading is_event scan_from tree_of parse leaf_at unordered_from double_from bit_of gathered
refused = refl

-- "Seven `!` before a pass": m is 8 and k is 7
passed : (let a = rule_answer (bytes "!!!!!!!a") in a.number ∷ a.m ∷ a.k ∷ []) ≡ 0 ∷ 8 ∷ 7 ∷ []
unfolding rule_answer sentence_outcome leading is_event scan_from tree_of parse leaf_at unordered_from double_from bit_of gathered
passed = refl

-- 02 a): "01's edge `A` becomes an accepted rule": its one node is the letter at offset 0
capital_passes : rule_answer (bytes "A") ≡ acceptance (letter 0 (single 65))
unfolding rule_answer sentence_outcome leading is_event scan_from tree_of parse leaf_at unordered_from double_from bit_of gathered
capital_passes = refl

-- 02 a): 3 reads "the wider alphabet": the bytes beside the two runs of letters
beside_letters : map (λ (s : String). rule_answer (bytes s)) ("a@" ∷ "a\\" ∷ "a`" ∷ "a{" ∷ []) ≡ refusal 3 1 ∷ refusal 3 1 ∷ refusal 3 1 ∷ refusal 3 1 ∷ []
unfolding rule_answer sentence_outcome leading is_event scan_from tree_of parse leaf_at unordered_from double_from bit_of gathered
beside_letters = refl

-- 02 e): the places of 4 in and about brackets
broken_sets : map (λ (s : String). rule_answer (bytes s)) ("[]" ∷ "[" ∷ "[a" ∷ "]" ∷ "[.]" ∷ "[0]" ∷ "[a|b]" ∷ "[[a]]" ∷ "[ba]|" ∷ [])
    ≡ refusal 4 1 ∷ refusal 4 1 ∷ refusal 4 2 ∷ refusal 4 0 ∷ refusal 4 1 ∷ refusal 4 1 ∷ refusal 4 2 ∷ refusal 4 1 ∷ refusal 4 5 ∷ []
unfolding rule_answer sentence_outcome leading is_event scan_from tree_of parse leaf_at unordered_from double_from bit_of gathered
broken_sets = refl

-- 02 e): 20 at "the offset of the first such letter"; before 5 and 6
unordered_sets : map (λ (s : String). rule_answer (bytes s))
    ("[ba]" ∷ "[aa]" ∷ "[aZ]" ∷ "x[ab][ba]" ∷ "[abcb]" ∷ "aaaaaaaaaaaaaaaaaaaaaaaaaaaaaaaaa[ba]" ∷ "!!!!!!!![aa]" ∷ [])
    ≡ refusal 20 2 ∷ refusal 20 2 ∷ refusal 20 2 ∷ refusal 20 7 ∷ refusal 20 4 ∷ refusal 20 35 ∷ refusal 20 10 ∷ []
unfolding rule_answer sentence_outcome leading is_event scan_from tree_of parse leaf_at unordered_from double_from bit_of gathered
unordered_sets = refl

-- 02 e): what is still 3
foreign_in_sets : map (λ (s : String). rule_answer (bytes s)) ("[a-z]" ∷ "[^a]" ∷ "[a,b]" ∷ []) ≡ refusal 3 2 ∷ refusal 3 1 ∷ refusal 3 2 ∷ []
unfolding rule_answer sentence_outcome leading is_event scan_from tree_of parse leaf_at unordered_from double_from bit_of gathered
foreign_in_sets = refl

-- 02 e): "`.` one node for all 52", "A set's offset is its first byte's"; a set of one is a single letter's
sets_pass : map (λ (s : String). rule_answer (bytes s)) ("." ∷ "[Za]" ∷ "[a]" ∷ "x[ab]" ∷ [])
    ≡ acceptance (letter 0 every) ∷ acceptance (letter 0 (letters_of (bytes "Za"))) ∷ acceptance (letter 0 (single 97))
    ∷ acceptance (concatenation 1 (letter 0 (single 120)) (letter 1 (letters_of (bytes "ab")))) ∷ []
unfolding rule_answer sentence_outcome leading is_event scan_from tree_of parse leaf_at unordered_from double_from bit_of gathered
sets_pass = refl

-- 02 f): 21 at "the first such star"; after 4 and 20, before 5 and 6
double_stars : map (λ (s : List ℕ). rule_answer s)
    (bytes "a**" ∷ bytes "(a*)**" ∷ bytes "a***" ∷ bytes "a*b**" ∷ bytes "a**|" ∷ bytes "a**[ba]" ∷ bytes "!!!!!!!!a**" ∷ (97 ∷ replicate 70 42) ∷ [])
    ≡ refusal 21 2 ∷ refusal 21 5 ∷ refusal 21 2 ∷ refusal 21 4 ∷ refusal 4 4 ∷ refusal 20 5 ∷ refusal 21 10 ∷ refusal 21 2 ∷ []
unfolding rule_answer sentence_outcome leading is_event scan_from tree_of parse leaf_at unordered_from double_from bit_of gathered
double_stars = refl

-- "`(a*)*` is still fine"; several `!` too
one_star_each : map (λ (s : String). rule_answer (bytes s)) ("(a*)*" ∷ "!!a*" ∷ [])
    ≡ acceptance (star 4 (star 2 (letter 1 (single 97)))) ∷ acceptance (complement 0 (complement 1 (star 3 (letter 2 (single 97))))) ∷ []
unfolding rule_answer sentence_outcome leading is_event scan_from tree_of parse leaf_at unordered_from double_from bit_of gathered
one_star_each = refl

-- "all rule text checks but 21", on the text as given
stored : map (λ (s : List ℕ). stored_outcome s) (bytes "a**" ∷ bytes "a**|" ∷ (97 ∷ replicate 63 42) ∷ (97 ∷ replicate 64 42) ∷ bytes "!!!!!!!!a**" ∷ [])
    ≡ counted 3 0 ∷ Err (NoSentence 4) ∷ counted 64 0 ∷ Err ManyNodes ∷ Err ManySpecials ∷ []
unfolding sentence_outcome leading is_event scan_from unordered_from
stored = refl
