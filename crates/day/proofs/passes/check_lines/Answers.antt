-- `check_lines` finds what `day_lines` comes to. Assumes nothing.
use Rattle.std.proofs.Common.{◌≡◌, ◌∙◌, sym, arith, Some, None, inl, inr, ⊎_elim}
use Rattle.day.proofs.Turns.{coming_end, coming_many, coming_malformed, coming_wrong, coming_on}
use Rattle.day.proofs.passes.check_lines.Goals as goal

pub returns-then-n-eq-MOST_LINES : goal.returns-then-n-eq-MOST_LINES
returns-then-n-eq-MOST_LINES c = coming_many c.loop-rest.invariant (grind arith) c.if-n-eq-MOST_LINES.true

pub returns-in_default : goal.returns-in_default
returns-in_default c =
    let none : c.read_line.result ≡ None = grind arith in
    coming_malformed c.loop-rest.invariant (grind arith) c.if-n-eq-MOST_LINES.false (sym c.read_line.ensures ∙ none)

pub returns-then-line-gt-LAST_SECOND : goal.returns-then-line-gt-LAST_SECOND
returns-then-line-gt-LAST_SECOND c =
    let there : c.read_line.result ≡ Some c.in-Some.line = grind arith in
    coming_wrong c.loop-rest.invariant (grind arith) c.if-n-eq-MOST_LINES.false (sym c.read_line.ensures ∙ there) (⊎_elim (λ h. inl h) (λ h. inr h.1) c.then-line-gt-LAST_SECOND.either)

pub loop-rest-preserved : goal.loop-rest-preserved
loop-rest-preserved c =
    let there : c.read_line.result ≡ Some c.in-Some.line = grind arith in
    coming_on c.loop-rest.invariant (grind arith) c.if-n-eq-MOST_LINES.false (sym c.read_line.ensures ∙ there) c.if-line-gt-LAST_SECOND.false (grind arith)

pub returns : goal.returns
returns c = coming_end c.loop-rest.invariant (grind arith)
