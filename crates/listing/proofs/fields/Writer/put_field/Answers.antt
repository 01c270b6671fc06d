-- `put_field` writes the tab, and then the digits one after another. Assumes nothing.
use Rattle.std.proofs.Common.{ap, sym, arith, [], ◌∷◌, ◌+◌, get_or, drop}
use Rattle.listing.proofs.WrittenLaws.{digits_text, digits_on, digits_end, part_start, part_more, part_piece_room, part_done}
use Rattle.listing.proofs.fields.Writer.put_field.Goals as goal

pub put-requires : goal.put-requires
put-requires c = omega arith

pub loop-digit-init : goal.loop-digit-init
loop-digit-init c =
    part_more (part_start c.args.self.now _) _ (ap (9 ∷◌) (sym (digits_text c.args.x c.digits_of-digits.ensures.value c.as_slice-digit-items.ensures))) c.put.ensures

pub put-requires-in-loop-digit : goal.put-requires-in-loop-digit
put-requires-in-loop-digit c =
    let l = c.loop-digit in
    let items = c.as_slice-digit-items.result.now in
    part_piece_room l.invariant (get_or items l.digit-index 0 ∷ []) (drop (l.digit-index + 1) items) (digits_on items l.digit-index (omega arith)) c.requires

pub loop-digit-preserved : goal.loop-digit-preserved
loop-digit-preserved c =
    let l = c.loop-digit in
    part_more l.invariant _ (digits_on _ l.digit-index (omega arith)) c.put-in-loop-digit.ensures

pub returns : goal.returns
returns c =
    let l = c.loop-digit in
    part_done l.invariant (digits_end _ l.digit-index (omega arith))
