-- `refusal` writes its line over zeros. Assumes nothing.
use Rattle.std.proofs.Common.{◌∙◌, ap, ◌++◌, length, rules, arith}
use Rattle.listing.specs.Lines.{refusal_line}
use Rattle.listing.proofs.WrittenLaws.{line_short, written_front, drop_zeros}
use Rattle.listing.proofs.refusal.Goals as goal

pub put_line-requires : goal.put_line-requires
put_line-requires c = line_short 88 _ _

pub invariant_of-result : goal.invariant_of-result
invariant_of-result c = record { within = omega (arith, c.line_length-len.ensures 88, line_short 88 c.args.number c.args.place) }

pub returns : goal.returns
returns c =
    let w = c.put_line.ensures.written in
    let l = refusal_line c.args.number c.args.place in
    (search rules ∙ written_front w (line_short 88 _ _) ∙ ap (l ++◌) (drop_zeros (length l) 44), c.line_length-len.ensures 88)
