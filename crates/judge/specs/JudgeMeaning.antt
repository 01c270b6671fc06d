-- What the judge's answer says of a rule text, a word, a limit and the table at entry, by the grammar, the language and the collection
-- of reached places: document 01's row "Judge". Assumes nothing.
-- That `judge_answer` is the one answer which says so is `answer_means` in proofs/Answered and `answer_is` in proofs/Determined.
use Rattle.std.specs.Prelude.{ℕ, List}
use Rattle.event.specs.Event.{Word}
use Rattle.expression.specs.Tree.{Tree}
use Rattle.rule.specs.RuleAnswer as reader
use Rattle.rule.specs.RuleMeaning.{Passed, RuleMeaning}
use Rattle.matcher.specs.MatchAnswer.{refusal}
use Rattle.matcher.specs.MatchMeaning.{MatchMeaning}
use Rattle.judge.specs.JudgeAnswer.{JudgeAnswer}

-- what holds at entry, and the whole answer
pub data JudgeMeaning (s : List ℕ) (w : Word) (limit : ℕ) (old : List ℕ) : JudgeAnswer → Type 0 where
  -- 1 to 6, 20 and 21: the rule text's row. "On every refusal but 10 .. no lent buffer changes"
  rule_refused : {n p : ℕ} → RuleMeaning s (reader.refusal n p) → JudgeMeaning s w limit old (refusal n p old)
  -- 7 to 10, or accepted, "after the rule text's row": the text passes it, and `MatchMeaning`, of matcher, has a constructor for each
  rule_passed : {t : Tree} {a : JudgeAnswer} → Passed s t → MatchMeaning t w limit old a → JudgeMeaning s w limit old a
