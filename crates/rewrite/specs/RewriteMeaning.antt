-- What the rewriter's answer says of a rule text and of the buffer at entry: document 02, request f). Assumes nothing.
-- That `rewrite_answer` is the one answer which says so is `answer_means` and `answer_is` in proofs/Answered.
use Rattle.std.specs.Prelude.{ℕ, ◌≤◌, ◌<◌, List, length}
use Rattle.expression.specs.Tree.{Tree, size, specials}
use Rattle.rule.specs.RuleMeaning.{WellFormed, IllFormed}
use Rattle.rewrite.specs.Rewritten.{Squeezed}
use Rattle.rewrite.specs.RewriteAnswer.{RewriteAnswer, refusal, acceptance}

-- the text passes "all rule text checks but 21", and the grammar reads it as the tree t
pub record Rewritable (s : List ℕ) (t : Tree) : Type 0 where
  pub formed : WellFormed s t
  pub nodes : size t ≤ 64
  pub special : specials t ≤ 7

-- what holds at entry, and the whole answer
pub data RewriteMeaning (s old : List ℕ) : RewriteAnswer → Type 0 where
  -- 1 to 4 and 20, of the text as given: `IllFormed`, of rule, has a constructor for each
  ill_formed : {n p : ℕ} → IllFormed s n p → RewriteMeaning s old (refusal n p old)
  -- "5: m over 64.", of the text as given
  many_nodes : {t : Tree} → WellFormed s t → 64 < size t → RewriteMeaning s old (refusal 5 0 old)
  -- "6: k over 7"
  many_specials : {t : Tree} → WellFormed s t → size t ≤ 64 → 7 < specials t → RewriteMeaning s old (refusal 6 0 old)
  -- 01: "15, last, where its buffer is shorter"
  short_buffer : {t : Tree} {r : List ℕ} → Rewritable s t → Squeezed s r → length old < length r → RewriteMeaning s old (refusal 15 0 old)
  -- accepted: 02 f): "each run of stars to one star"
  accepted : {t : Tree} {r : List ℕ} → Rewritable s t → Squeezed s r → length r ≤ length old → RewriteMeaning s old (acceptance r old)
