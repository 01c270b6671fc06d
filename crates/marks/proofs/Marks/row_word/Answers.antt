-- `row_word` is what was gathered, or what was not. Assumes nothing.
use Rattle.marks.proofs.RowLaws.{plain_shown, turned_shown}
use Rattle.marks.proofs.Marks.row_word.Goals as goal

pub returns-then-target : goal.returns-then-target
returns-then-target c =
    let a = c.args in
    let p = c.requires in
    turned_shown a.self.now.places a.target a.i a.n a.end p.ends_before p.bounds.3 a.w _
    c.gather-row.ensures c.if-target.true p.bounds.1 _ _ c.below.ensures c.below-then-target.ensures

pub returns : goal.returns
returns c =
    let a = c.args in
    let p = c.requires in
    plain_shown a.self.now.places a.target a.i a.n a.end p.ends_before p.bounds.3 a.w _
    c.gather-row.ensures c.if-target.false
