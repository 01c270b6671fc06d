-- `take_turn` reads one line as `file_from` does. Assumes nothing.
use native.Mathlib.Omega.{arith}
use Prim.Native.Nat.{ℕ}
use mathlib.Core.Path.{◌≡◌, sym, ap, ◌∙◌}
use mathlib.Core.Bool.{Bool}
use mathlib.Core.List.{List}
use Rattle.std.specs.Prelude.{Option, is_some}
use Rattle.std.proofs.lemmas.Result.{err_from_is_err_and}
use Rattle.rule_line.specs.Lines.{Line}
use Rattle.rule_line.specs.LineComputed.{has}
use Rattle.rule_line.specs.Coding.{find_line}
use Rattle.rule_line.specs.Keeping.{Kept}
use Rattle.rule_line.specs.Passed.{PassedLine}
use Rattle.rule_line.proofs.ByName.{has_found}
use Rattle.rule_file.proofs.KeptLines.{kept_length}
use Rattle.rule_file.proofs.TurnLaws.{many_lines, other_form, name_taken, rule_refused, line_passes}
use Rattle.rule_file.proofs.turn.take_turn.Goals as goal

-- a line has the name exactly if `find` finds it
told : {lines : List PassedLine} {ls : List Line} (n : List ℕ) {o : Option ℕ} {b : Bool} → Kept lines ls → o ≡ find_line lines n → b ≡ is_some o
    → has ls n ≡ b
told n k e t = has_found _ _ k.each n ∙ ap (λ (o : Option ℕ). is_some o) (sym e) ∙ sym t

pub returns-then-lines-eq-MOST_LINES : goal.returns-then-lines-eq-MOST_LINES
returns-then-lines-eq-MOST_LINES c =
    λ ls k. many_lines _ ls c.requires.some (omega (arith, kept_length _ ls k.each, c.if-lines-eq-MOST_LINES.true))

pub returns-in_default : goal.returns-in_default
returns-in_default c =
    λ ls k.
    let n = c.if-lines-eq-MOST_LINES.false in
    other_form _ ls c.requires.some (omega (arith, kept_length _ ls k.each, k.few)) c.in_default.ensures

pub returns-then-is_some : goal.returns-then-is_some
returns-then-is_some c =
    λ ls k.
    let n = c.if-lines-eq-MOST_LINES.false in
    name_taken _ ls c.in-Some.ensures (omega (arith, kept_length _ ls k.each, k.few)) (told _ k c.find.ensures c.if-is_some.ensures)

pub returns-in_err-rule : goal.returns-in_err-rule
returns-in_err-rule c =
    λ ls k.
    let n = c.if-lines-eq-MOST_LINES.false in
    let p = err_from_is_err_and c.from_residual.result c.from_residual.ensures.1 in
    rw (p.1, p.2)
    (rule_refused _ ls c.in-Some.ensures (omega (arith, kept_length _ ls k.each, k.few)) (told _ k c.find.ensures c.if-is_some.ensures)
    _ (c.in_err-rule.ensures ls k))

pub returns : goal.returns
returns c =
    λ ls k.
    let n = c.if-lines-eq-MOST_LINES.false in
    line_passes _ ls c.in-Some.ensures (omega (arith, kept_length _ ls k.each, k.few)) (told _ k c.find.ensures c.if-is_some.ensures)
    _ (c.in_ok-rule.ensures ls k)
