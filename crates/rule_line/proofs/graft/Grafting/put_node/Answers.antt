-- `put_node` writes the records that a node of the shape becomes. Assumes nothing.
use mathlib.Core.Path.{refl}
use Rattle.rule_line.proofs.GraftCode.{room_rule}
use Rattle.rule_line.proofs.LineNames.{unlike}
use Rattle.rule_line.proofs.graft.Grafting.put_node.Goals as goal
use Rattle.rule_line.proofs.graft.Grafting.put_node.Goals.{in-Epsilon, in_default-matches}

pub put_rule-requires : goal.put_rule-requires
put_rule-requires c =
    room_rule _ c.args.kind c.args.place _ c.in-Some.ensures
    (elim c.match-matches.branch [ in-Epsilon w ↦ rw w.in-Epsilon.is refl | in_default-matches w ↦ absurd (unlike c.if-matches.true w.matches-is) ])
    c.requires
