-- What the judge answers of a rule text, a word and a limit, and what it leaves in the table, computed. Assumes nothing.
-- That it is the one answer which has `JudgeMeaning` is `answer_means` in proofs/Answered and `answer_is` in proofs/Determined.
use Rattle.std.specs.Prelude.{ℕ, List, cond, eqb}
use Rattle.event.specs.Event.{Word}
use Rattle.expression.specs.TreeOf.{tree_of}
use Rattle.rule.specs.RuleAnswer.{RuleAnswer}
use Rattle.rule.specs.RuleComputed.{rule_answer}
use Rattle.matcher.specs.MatchAnswer.{refusal}
use Rattle.matcher.specs.MatchComputed.{match_answer}
use Rattle.judge.specs.JudgeAnswer.{JudgeAnswer}

-- 01: "Judge, after the rule text's row"
abbrev pub after_rule : RuleAnswer → List ℕ → Word → ℕ → List ℕ → JudgeAnswer
after_rule a s w limit old = cond (eqb a.number 0) (match_answer (tree_of s) w limit old) (refusal a.number a.place old)

-- of a rule text, a word, a limit and the table at entry
unfoldable pub judge_answer : List ℕ → Word → ℕ → List ℕ → JudgeAnswer
judge_answer s w limit old = after_rule (rule_answer s) s w limit old
