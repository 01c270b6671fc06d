-- What the rewriter answers of a rule text and a buffer, and what it leaves in the buffer, computed. Assumes nothing.
-- That it is the one answer which has `RewriteMeaning` is `answer_means` and `answer_is` in proofs/Answered.
use Rattle.std.specs.Prelude.{ℕ, cond, List, ltb, length, Ok, Err}
use Rattle.rule.specs.RuleAnswer as reader
use Rattle.rule.specs.RuleComputed.{Outcome, stored_outcome}
use Rattle.rewrite.specs.Rewritten.{rewritten}
use Rattle.rewrite.specs.RewriteAnswer.{RewriteAnswer, refusal, acceptance, told}

-- 01: "and gives 15, last, where its buffer is shorter"
abbrev pub written : List ℕ → List ℕ → RewriteAnswer
written r old = cond (ltb (length old) (length r)) (refusal 15 0 old) (acceptance r old)

-- 02 f): "The rewriter makes all rule text checks but 21."
abbrev pub after_checks : Outcome → List ℕ → List ℕ → RewriteAnswer
after_checks (Ok z) s old = written (rewritten s) old
after_checks (Err r) s old = told (reader.refusal_verdict r) 0 old

-- of a rule text and the buffer at entry
unfoldable pub rewrite_answer : List ℕ → List ℕ → RewriteAnswer
rewrite_answer s old = after_checks (stored_outcome s) s old
