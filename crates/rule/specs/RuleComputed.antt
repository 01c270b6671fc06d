-- What the rule reader answers of a text, computed. Assumes nothing.
-- That it is the one answer which has `RuleMeaning` is `answer_means` and `answer_is` in proofs/Answered.
use Rattle.std.specs.Prelude.{ℕ, List, cond, eqb, ltb, length, Result, Ok, Err}
use Rattle.event.specs.Leading.{leading}
use Rattle.expression.specs.TreeOf.{tree_of}
use Rattle.expression.specs.Scan.{ScanResult, counted, scanned}
use Rattle.expression.specs.OrderComputed.{unordered_at}
use Rattle.expression.specs.StarsComputed.{double_at}
use Rattle.expression.specs.declared.Size.{Size}
use Rattle.rule.specs.RuleAnswer.{RuleAnswer, is_rule_byte, unused, nodes_for, values, told, refusal_verdict}
use Rattle.rule.specs.declared.Refusal.{Refusal}
use Rattle.rule.specs.declared.Refusal.TheVariants.{EmptyText, LongText, ForeignByte, NoSentence, UnorderedSet, DoubleStar, ManyNodes, ManySpecials}

-- what the checks find: m and k, or why the text is refused
abbrev pub Outcome : Type 0
Outcome = Result Size Refusal

-- ---- the checks 1 to 4 and 20
-- the offset of the first byte outside the list; the length where there is none
abbrev pub foreign_at : List ℕ → ℕ
foreign_at s = leading is_rule_byte s

-- 02 e), number 20: "a letter inside brackets that is not above the one before it"
abbrev pub ordered : List ℕ → ℕ → ℕ → Outcome
ordered s m k = cond (ltb (unordered_at s) (length s)) (Err (UnorderedSet (unordered_at s))) (counted m k)

-- 01, number 4: "not a sentence"
abbrev pub after_scan : List ℕ → ScanResult → Outcome
after_scan s (Ok z) = ordered s z.m z.k
after_scan s (Err n) = Err (NoSentence n)

-- 01, numbers 1, 2 and 3: "empty", "over 255 bytes", "a byte outside the list"
unfoldable pub sentence_outcome : List ℕ → Outcome
sentence_outcome s =
    cond (eqb (length s) 0) (Err EmptyText)
    (cond (ltb 255 (length s)) (Err LongText)
    (cond (ltb (foreign_at s) (length s)) (Err (ForeignByte (foreign_at s))) (after_scan s (scanned s))))

-- ---- and the others, of a text that those have accepted
-- 02 f), number 21: "a star directly after a star"
abbrev pub no_double : List ℕ → Outcome → Outcome
no_double s (Ok z) = cond (ltb (double_at s) (length s)) (Err (DoubleStar (double_at s))) (Ok z)
no_double s (Err r) = Err r

-- 01, numbers 5 and 6: "m over 64", "k over 7"
abbrev pub size_outcome : ℕ → ℕ → Outcome
size_outcome m k = cond (ltb 64 m) (Err ManyNodes) (cond (ltb 7 k) (Err ManySpecials) (counted m k))

abbrev pub sized : Outcome → Outcome
sized (Ok z) = size_outcome z.m z.k
sized (Err r) = Err r

-- ---- all of them
-- 02 f): "all rule text checks but 21"
abbrev pub stored_outcome : List ℕ → Outcome
stored_outcome s = sized (sentence_outcome s)

-- "21, .. directly after 20"
abbrev pub rule_outcome : List ℕ → Outcome
rule_outcome s = sized (no_double s (sentence_outcome s))

-- the answer to a text with this outcome
abbrev pub answer_to : List ℕ → Outcome → RuleAnswer
answer_to s (Ok z) = values 0 0 z.m z.k (nodes_for (tree_of s))
answer_to s (Err r) = told (refusal_verdict r) 0 0 (unused 64)

unfoldable pub rule_answer : List ℕ → RuleAnswer
rule_answer s = answer_to s (rule_outcome s)
