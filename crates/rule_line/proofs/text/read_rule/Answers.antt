-- `read_rule` judges the rule of a line as `judged` does. Assumes nothing.
use mathlib.Core.Path.{refl, sym}
use Rattle.event.proofs.LeadingLaws.{some_place, none_placed}
use borrow.Author.Tests.{eqb-true}
use Rattle.rule_line.proofs.JudgedLaws.{judged_empty, judged_long}
use Rattle.rule_line.proofs.RuleJudged.{legal_found, foreign_found, judged_broken, judged_unknown, judged_unordered, judged_double, sentence, says}
use Rattle.rule_line.proofs.text.read_rule.Goals as goal

pub returns-then-is_empty : goal.returns-then-is_empty
returns-then-is_empty c =
    λ ls k. judged_empty ls _ (eqb-true _ _ (sym c.if-is_empty.ensures))

pub returns-then-text-gt-MOST_BYTES : goal.returns-then-text-gt-MOST_BYTES
returns-then-text-gt-MOST_BYTES c =
    λ ls k. judged_long ls _ c.if-text-gt-MOST_BYTES.true

pub returns-then-not-all_written : goal.returns-then-not-all_written
returns-then-not-all_written c =
    λ ls k. foreign_found ls _ c.if-is_empty.ensures c.if-text-gt-MOST_BYTES.false (sym c.if-not-all_written.ensures)

pub returns-in_default : goal.returns-in_default
returns-in_default c =
    λ ls k.
    let l = legal_found c.args.text.now c.if-is_empty.ensures c.if-text-gt-MOST_BYTES.false (sym c.if-not-all_written.ensures) in
    judged_broken k l c.cut-shape.ensures c.bytes.ensures (sym c.in_default.ensures)

pub returns-then-not-all_known : goal.returns-then-not-all_known
returns-then-not-all_known c =
    λ ls k.
    let l = legal_found c.args.text.now c.if-is_empty.ensures c.if-text-gt-MOST_BYTES.false (sym c.if-not-all_written.ensures) in
    judged_unknown k l c.cut-shape.ensures c.bytes.ensures (sym c.in-Ok.ensures) c.origins.ensures (sym c.if-not-all_known.ensures)

pub returns-then-is_some : goal.returns-then-is_some
returns-then-is_some c =
    λ ls k.
    let l = legal_found c.args.text.now c.if-is_empty.ensures c.if-text-gt-MOST_BYTES.false (sym c.if-not-all_written.ensures) in
    judged_unordered k l c.cut-shape.ensures c.bytes.ensures (sym c.in-Ok.ensures) c.origins.ensures (sym c.if-not-all_known.ensures)
    refl (some_place _ _ c.find_unordered.ensures c.is_some.ensures c.if-is_some.true)

pub returns-then-is_some-2 : goal.returns-then-is_some-2
returns-then-is_some-2 c =
    λ ls k.
    let l = legal_found c.args.text.now c.if-is_empty.ensures c.if-text-gt-MOST_BYTES.false (sym c.if-not-all_written.ensures) in
    judged_double k l c.cut-shape.ensures c.bytes.ensures (sym c.in-Ok.ensures) c.origins.ensures (sym c.if-not-all_known.ensures)
    refl (none_placed _ _ c.find_unordered.ensures c.is_some.ensures c.if-is_some.false) refl (some_place _ _ c.find_double.ensures c.is_some-2.ensures c.if-is_some-2.true)

pub read_sentence-requires : goal.read_sentence-requires
read_sentence-requires c =
    let l = legal_found c.args.text.now c.if-is_empty.ensures c.if-text-gt-MOST_BYTES.false (sym c.if-not-all_written.ensures) in
    sentence c.requires.1 l c.cut-shape.ensures c.bytes.ensures (sym c.in-Ok.ensures) c.origins.ensures (sym c.if-not-all_known.ensures)

pub returns : goal.returns
returns c =
    λ ls k.
    let l = legal_found c.args.text.now c.if-is_empty.ensures c.if-text-gt-MOST_BYTES.false (sym c.if-not-all_written.ensures) in
    says k l c.cut-shape.ensures c.bytes.ensures (sym c.in-Ok.ensures) c.origins.ensures (sym c.if-not-all_known.ensures)
    refl (none_placed _ _ c.find_unordered.ensures c.is_some.ensures c.if-is_some.false) refl (none_placed _ _ c.find_double.ensures c.is_some-2.ensures c.if-is_some-2.false) _ c.read_sentence.ensures
