-- `read_line` reads as `line_of` does: each test that fails refuses the line. Assumes nothing.
use borrow.Author.Tests.{not-true, not-false}
use mathlib.Core.Path.{refl}
use mathlib.Core.Bool.{and-false}
use Rattle.event.specs.Event.{is_event}
use Rattle.day.specs.DayFile.{event_tag}
use Rattle.day.specs.DayLines.{is_second}
use Rattle.day.proofs.LineLaws.{fails, passes, tested, not_line, is_line_lem, second_few, digits_part}
use Rattle.day.proofs.line.read_line.Goals as goal

pub returns-then-byte_at-ne-EVENT_TAG : goal.returns-then-byte_at-ne-EVENT_TAG
returns-then-byte_at-ne-EVENT_TAG c =
    not_line _ _ refl (simp (fails _ event_tag c.byte_at.ensures c.if-byte_at-ne-EVENT_TAG.true))

pub returns-then-byte_at-ne-TAB : goal.returns-then-byte_at-ne-TAB
returns-then-byte_at-ne-TAB c =
    not_line _ _ refl (simp (fails _ 9 c.byte_at-2.ensures c.if-byte_at-ne-TAB.true, and-false))

pub returns-then-not-is_second : goal.returns-then-not-is_second
returns-then-not-is_second c =
    let n = c.count_digits-count in
    let e = tested (is_second n.result) c.byte_at-3.ensures c.is_second.ensures (not-true _ c.if-not-is_second.true-raw) in
    not_line _ _ n.ensures (simp (e, and-false))

pub returns-then-byte_at-ne-TAB-2 : goal.returns-then-byte_at-ne-TAB-2
returns-then-byte_at-ne-TAB-2 c =
    let n = c.count_digits-count in
    not_line _ _ n.ensures (simp (fails _ 9 c.byte_at-4.ensures c.if-byte_at-ne-TAB-2.true, and-false))

pub returns-then-not-is_event : goal.returns-then-not-is_event
returns-then-not-is_event c =
    let e = tested is_event c.byte_at-letter.ensures c.is_event.ensures (not-true _ c.if-not-is_event.true-raw) in
    not_line _ _ c.count_digits-count.ensures (simp (e, and-false))

pub returns-then-byte_at-ne-NEWLINE : goal.returns-then-byte_at-ne-NEWLINE
returns-then-byte_at-ne-NEWLINE c =
    let n = c.count_digits-count in
    not_line _ _ n.ensures (simp (fails _ 10 c.byte_at-5.ensures c.if-byte_at-ne-NEWLINE.true, and-false))

pub value_of-requires : goal.value_of-requires
value_of-requires c =
    let f = second_few c.count_digits-count.result c.byte_at-3.result
    c.is_second.ensures c.if-not-is_second.false-raw in
    digits_part c.args.s.now _ c.count_digits-count.ensures f

pub returns : goal.returns
returns c =
    is_line_lem _ _ c.count_digits-count.ensures _ _ c.value_of.ensures c.byte_at-letter.ensures
    (simp (
      passes _ event_tag c.byte_at.ensures c.if-byte_at-ne-EVENT_TAG.false,
      passes _ 9 c.byte_at-2.ensures c.if-byte_at-ne-TAB.false,
      tested (is_second c.count_digits-count.result) c.byte_at-3.ensures c.is_second.ensures (not-false _ c.if-not-is_second.false-raw),
      passes _ 9 c.byte_at-4.ensures c.if-byte_at-ne-TAB-2.false,
      tested is_event c.byte_at-letter.ensures c.is_event.ensures (not-false _ c.if-not-is_event.false-raw),
      passes _ 10 c.byte_at-5.ensures c.if-byte_at-ne-NEWLINE.false,
    ))
