-- `is_finished` looks at the marks and at the open nodes. Assumes nothing.
use mathlib.Core.Path.{sym, ◌∙◌}
use mathlib.Core.Bool.{false≢true}
use Rattle.levels.proofs.SetLaws.{in_set}
use Rattle.marks.proofs.Marks.is_finished.Goals as goal
use borrow.Author.Rules.{rules}

pub returns-then-is_empty : goal.returns-then-is_empty
returns-then-is_empty c = (
  λ e. record {
    marked = λ s l d. c.is_empty.ensures.0 c.if-is_empty.true s (c.states_at.ensures s l ∙ d);
    coming = λ s _ d. c.is_empty-then-is_empty.ensures.0 e s d;
  },
  λ f. c.is_empty-then-is_empty.ensures.1 (λ s d. f.coming s (in_set _ c.told-opened s d) d),
)

pub returns-else-is_empty : goal.returns-else-is_empty
returns-else-is_empty c = (
  λ e. absurd (false≢true (sym c.if-is_empty.false ∙ e)),
  λ f. c.is_empty.ensures.1 (λ s d. let l = in_set _ (search rules) s d in f.marked s l (sym (c.states_at.ensures s l) ∙ d)),
)
