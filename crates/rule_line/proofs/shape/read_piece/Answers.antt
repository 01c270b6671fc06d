-- `read_piece` takes the piece at the front. Assumes nothing.
use mathlib.Core.Path.{ap, ◌∙◌}
use Rattle.rule_line.specs.Coding.{origin_found}
use Rattle.rule_line.proofs.CodeLaws.{taken_byte, taken_open, taken_name}
use Rattle.rule_line.proofs.shape.read_piece.Goals as goal
use Rattle.rule_line.proofs.shape.read_piece.Goals.{then-s-eq-OPEN+in_default, else-s-eq-OPEN}

pub returns-in-Some : goal.returns-in-Some
returns-in-Some c =
    let n = c.in-Some.ensures in
    taken_name _ _ _ c.requires c.if-s-eq-OPEN.true n.0 n.1 n.2 _ (c.origin_of.ensures ∙ ap origin_found c.find.ensures)

pub returns : goal.returns
returns c =
    elim c.if-s-eq-OPEN.branch [
      | then-s-eq-OPEN+in_default w ↦ taken_open _ _ c.requires w.if-s-eq-OPEN.true w.in_default.ensures
      | else-s-eq-OPEN w ↦ taken_byte _ _ c.requires w.if-s-eq-OPEN.false
    ]
