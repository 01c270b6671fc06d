-- What the rule reader's answer says of a text, by the grammar: document 01's row "Rule text", with 02 e) and f). Assumes nothing.
-- That `rule_answer` is the one answer which says so is `answer_means` and `answer_is` in proofs/Answered.
use Rattle.std.specs.Prelude.{ℕ, ◌≤◌, ◌<◌, ◌≡◌, List, true, false, length, get_or}
use Rattle.expression.specs.Tree.{Tree, size, specials}
use Rattle.expression.specs.Grammar.{Alt, Reads, Sentence, Longest}
use Rattle.expression.specs.Unordered.{FirstUnordered, Ordered}
use Rattle.expression.specs.Stars.{FirstDouble, NoDouble}
use Rattle.rule.specs.RuleAnswer.{RuleAnswer, is_rule_byte, refusal, acceptance}

-- 01: "a text of 1 to 255 bytes"
abbrev pub FitsLength : List ℕ → Type 0
FitsLength s = (1 ≤ length s) × (length s ≤ 255)

-- every byte before the n-th is in the list
abbrev pub Listed : List ℕ → ℕ → Type 0
Listed s n = (i : ℕ) → i < n → is_rule_byte (get_or s i 0) ≡ true

-- a text that the numbers 1 to 3 do not refuse; whether it is a sentence is not said
pub record Legal (s : List ℕ) : Type 0 where
  pub fits : FitsLength s
  pub listed : Listed s (length s)

-- a text that the numbers 1 to 4 and 20 do not refuse, and which the grammar reads as the tree t
pub record WellFormed (s : List ℕ) (t : Tree) : Type 0 where
  pub legal : Legal s
  pub reads : Reads Alt 0 s t
  pub ordered : Ordered s

-- the text passes the row, and the grammar reads it as the tree t
pub record Passed (s : List ℕ) (t : Tree) : Type 0 where
  pub legal : Legal s
  pub reads : Reads Alt 0 s t
  pub ordered : Ordered s
  pub no_double_lem : NoDouble s
  pub nodes : size t ≤ 64
  pub special : specials t ≤ 7

-- one constructor for each of the numbers 1 to 4 and 20: what holds of the text; number and place
pub data IllFormed (s : List ℕ) : ℕ → ℕ → Type 0 where
  -- "1: empty."
  empty_text : length s ≡ 0 → IllFormed s 1 0
  -- "2: over 255 bytes."
  long_text : 255 < length s → IllFormed s 2 0
  -- "3: a byte outside the list; place is its offset, the first one's."
  foreign_byte : {n : ℕ} → FitsLength s → n < length s → Listed s n → is_rule_byte (get_or s n 0) ≡ false → IllFormed s 3 n
  -- "4: not a sentence; place is the length of the longest beginning that some sentence of any length also has."
  no_sentence : {n : ℕ} → Legal s → (Sentence s → ⊥) → Longest s n → IllFormed s 4 n
  -- 02 e): "20, a letter inside brackets that is not above the one before it in byte order, place the offset of the first such letter, after 4
  -- and 17" (17 is of rule files alone)
  unordered_set : {t : Tree} {n : ℕ} → Legal s → Reads Alt 0 s t → FirstUnordered s n → IllFormed s 20 n

-- what holds of the text, and the whole answer
pub data RuleMeaning (s : List ℕ) : RuleAnswer → Type 0 where
  -- 1 to 4 and 20
  ill_formed : {n p : ℕ} → IllFormed s n p → RuleMeaning s (refusal n p)
  -- 02 f): "21, a star directly after a star, place the first such star, directly after 20"
  double_star : {t : Tree} {n : ℕ} → WellFormed s t → FirstDouble s n → RuleMeaning s (refusal 21 n)
  -- "5: m over 64."
  many_nodes : {t : Tree} → WellFormed s t → NoDouble s → 64 < size t → RuleMeaning s (refusal 5 0)
  -- "6: k over 7"
  many_specials : {t : Tree} → WellFormed s t → NoDouble s → size t ≤ 64 → 7 < specials t → RuleMeaning s (refusal 6 0)
  -- accepted: m, k and the records are those of the tree that the text is read as
  accepted : {t : Tree} → Passed s t → RuleMeaning s (acceptance t)
