-- Nothing is due where no node is open. Assumes nothing.
use Rattle.bits.proofs.Laws.{adds_none}
use Rattle.levels.proofs.open.Open.due_exits.Goals as goal

pub returns-then-is_empty : goal.returns-then-is_empty
returns-then-is_empty c = adds_none _ _ (λ q u. c.is_empty.ensures.0 c.if-is_empty.true u.entry u.is_open)
