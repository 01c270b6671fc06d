-- What stays when a rule is rewritten, and what falls. Assumes nothing.
use Rattle.std.specs.Prelude.{ℕ, ◌≤◌, ◌≡◌, ◌↔◌, List}
use Rattle.event.specs.Event.{Word}
use Rattle.expression.specs.Tree.{Tree}
use Rattle.rule.specs.RuleAnswer.{acceptance}
use Rattle.rule.specs.RuleComputed.{rule_answer}
use Rattle.rule.specs.RuleMeaning.{Passed}
use Rattle.work.specs.Count.{full_count}
use Rattle.work.specs.Span.{Obeys}
use Rattle.work.specs.SpansComputed.{obeying}
use Rattle.work.specs.TableComputed.{table}
use Rattle.rewrite.specs.Rewritten.{rewritten}
use Rattle.rewrite.specs.Same.{Same}

-- of a text s that is read as t, and of its rewritten text, which is read as u
pub record RewrittenRule (s : List ℕ) (t u : Tree) : Type 0 where
  -- the rule reader accepts the new text
  pub passed : Passed (rewritten s) u
  pub answer : rule_answer (rewritten s) ≡ acceptance u
  -- 02 f): "the rewritten rule is shown to have the same language"; so have the special parts, one to one in order; m is no larger, k the same
  pub same : Same t u
  -- every span obeys the one exactly if it obeys the other; so list and table, every block of it, are the same
  pub spans : (w : Word) (i j : ℕ) → Obeys w t i j ↔ Obeys w u i j
  pub lists : (w : Word) → obeying w t ≡ obeying w u
  pub tables : (w : Word) → table w t ≡ table w u
  -- 02 f): "Its count may be lower": it is never higher
  pub counts : (w : Word) → full_count w u ≤ full_count w t
