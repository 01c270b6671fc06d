-- `take_next` takes the next event of the one day. Assumes nothing.
use Rattle.std.proofs.Common.{sym, ◌∙◌}
use Rattle.merge.proofs.Turns.{next_first, next_second}
use Rattle.merge.proofs.events.take_next.Goals as goal

pub returns-then-first_is_next : goal.returns-then-first_is_next
returns-then-first_is_next c =
    let a = c.args in
    next_first a.first.now.aligned a.second.now.aligned (sym c.first_is_next.ensures ∙ c.if-first_is_next.true) c.take.ensures

pub returns-else-first_is_next : goal.returns-else-first_is_next
returns-else-first_is_next c =
    let a = c.args in
    next_second a.first.now.aligned a.second.now.aligned (sym c.first_is_next.ensures ∙ c.if-first_is_next.false) c.take-else-first_is_next.ensures
