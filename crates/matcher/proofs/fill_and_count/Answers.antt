-- `fill_and_count` answers as `limited`. Assumes nothing.
use Prim.Native.Nat.{ℕ}
use mathlib.Core.Path.{refl, sym, ap, ◌∙◌}
use mathlib.Core.List.{◌++◌}
use mathlib.Core.Logic.{inl}
use lib.ListN.{length, drop}
use lib.Seq.{length-take-le}
use native.Mathlib.Omega.{arith}
use Rattle.owners.specs.Filling.{tree_from}
use Rattle.work.specs.Table.{need_of}
use Rattle.matcher.specs.MatchAnswer.{values}
use Rattle.matcher.proofs.Limited.{limit_kept}
use Rattle.matcher.proofs.Words.{all_events}
use Rattle.matcher.proofs.fill_and_count.Goals as goal

pub fill-requires : goal.fill-requires
fill-requires c =
    let j = c.requires.rule_records in
    let f = c.requires.fitting in
    let e = c.needed-need.ensures in
    let k = ap (λ (k : ℕ). need_of k (length c.args.word.now)) j.special in
    let b = c.block_length-block.ensures.0 in
    let r = f.room in
    let l = length-take-le c.needed-need.result c.args.table.now (omega arith) in
    record {
      recorded = j.recorded;
      few = omega (arith, j.few, j.special);
      rising = j.rising;
      events = all_events c.args.word.now f.word.events;
      short = f.word.fits;
      rule_fits = omega arith;
      parts_fit = omega arith;
      apart = inl (omega arith);
    }

pub returns : goal.returns
returns c =
    let a = c.args in
    let n = c.needed-need in
    let b = c.fill.new.table in
    let count = c.in-Some.work.count in
    let k = ap (λ (k : ℕ). need_of k (length a.word.now)) c.requires.rule_records.special in
    let l = length-take-le n.result a.table.now (omega (arith, n.ensures, c.requires.fitting.room)) in
    ap (λ (x : ℕ). values 0 0 x count (b ++ drop n.result a.table.now)) c.count-found.ensures
    ∙ limit_kept (tree_from a.records.now.nodes a.records.now.m) a.word.now a.limit n.result _ _ b a.table.now
    count c.in-Some.ensures (n.ensures ∙ sym k) l c.block_length-block.ensures.0 refl
