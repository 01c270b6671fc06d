-- `line_length` adds a tab and a number for each field. Assumes nothing.
use Rattle.std.proofs.Common.{arith, ap, length, get_or}
use Rattle.decimal.proofs.NumeralLaws.{decimal_length}
use Rattle.listing.proofs.WrittenLaws.{field_added, fields_end}
use Rattle.listing.proofs.fields.line_length.Goals as goal

pub overflow_add-sum : goal.overflow_add-sum
overflow_add-sum c = let l = c.loop-x in omega (arith, c.width.ensures, decimal_length (get_or c.args.fields.now l.x-index 0))

pub overflow_add-sum-in-loop-x : goal.overflow_add-sum-in-loop-x
overflow_add-sum-in-loop-x c = let l = c.loop-x in omega (arith, c.width.ensures, decimal_length (get_or c.args.fields.now l.x-index 0))

pub loop-x-preserved : goal.loop-x-preserved
loop-x-preserved c =
    let l = c.loop-x in
    let e = field_added c.args.fields.now l.x-index (omega arith) in
    let m = decimal_length (get_or c.args.fields.now l.x-index 0) in
    (omega (arith, c.width.ensures), omega (arith, c.width.ensures))

pub returns : goal.returns
returns c = λ letter. omega (arith, ap length (fields_end c.args.fields.now c.loop-x.x-index (omega arith)))
