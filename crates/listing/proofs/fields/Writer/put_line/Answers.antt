-- `put_line` writes the letter, the fields one after another, and the newline. Assumes nothing.
use Rattle.std.proofs.Common.{arith, refl, [], ◌∷◌, ◌+◌, get_or, drop}
use Rattle.listing.specs.Lines.{field, fields}
use Rattle.listing.proofs.WrittenLaws.{part_start, part_more, part_piece_room, part_done, fields_on, fields_end}
use Rattle.listing.proofs.fields.Writer.put_line.Goals as goal

pub loop-x-init : goal.loop-x-init
loop-x-init c = part_more (part_start c.args.self.now _) _ refl c.put.ensures

pub put_field-requires : goal.put_field-requires
put_field-requires c =
    let l = c.loop-x in
    part_piece_room l.invariant (field (get_or c.args.fields.now l.x-index 0)) (fields (drop (l.x-index + 1) c.args.fields.now)) (fields_on c.args.fields.now l.x-index (omega arith)) c.requires

pub loop-x-preserved : goal.loop-x-preserved
loop-x-preserved c =
    let l = c.loop-x in
    part_more l.invariant _ (fields_on c.args.fields.now l.x-index (omega arith)) c.put_field.ensures

pub put-requires-2 : goal.put-requires-2
put-requires-2 c =
    let l = c.loop-x in
    part_piece_room l.invariant (10 ∷ []) [] (fields_end c.args.fields.now l.x-index (omega arith)) c.requires

pub returns : goal.returns
returns c =
    let l = c.loop-x in
    part_done (part_more l.invariant [] (fields_end c.args.fields.now l.x-index (omega arith)) c.put-2.ensures) refl
