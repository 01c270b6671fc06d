-- `merge_events` answers as `after_both`. Assumes nothing.
use Rattle.std.proofs.Common.{arith, inl, inr, ⊎_elim}
use Rattle.merge.proofs.Steps.{answers_many, answers_short, answers_events}
use Rattle.merge.proofs.merge_events.Goals as goal

pub returns-then-n-gt-MOST_EVENTS : goal.returns-then-n-gt-MOST_EVENTS
returns-then-n-gt-MOST_EVENTS c =
    answers_many c.args.first.aligned c.args.second.aligned _ _
    (omega (arith, c.if-n-gt-MOST_EVENTS.true))

pub returns-then-letters-n : goal.returns-then-letters-n
returns-then-letters-n c =
    answers_short c.args.first.aligned c.args.second.aligned (omega (arith, c.if-n-gt-MOST_EVENTS.false)) _ _
    (⊎_elim (λ h. inl h) (λ h. inr h.1) c.then-letters-n.either)

pub returns : goal.returns
returns c =
    answers_events c.args.first.aligned c.args.second.aligned c.if-n-gt-MOST_EVENTS.false _ _ _ _
    c.if-letters-n.false c.if-seconds-n.false c.fill.ensures.letters_after c.fill.ensures.seconds_after
