-- `fill` stores the events line by line: each of those lines has the form. Assumes nothing.
use Rattle.std.proofs.Common.{◌∙◌, sym, arith}
use Rattle.day.proofs.Turns.{storing_begins, storing_ends, storing_some, storing_on}
use Rattle.day.proofs.passes.fill.Goals as goal

pub loop-i-init : goal.loop-i-init
loop-i-init c = storing_begins _ _ _ _ c.requires.2

pub unwrap-line-requires : goal.unwrap-line-requires
unwrap-line-requires c = storing_some c.loop-i.invariant c.loop-i-test.true _ c.read_line.ensures

pub loop-i-preserved : goal.loop-i-preserved
loop-i-preserved c = storing_on c.loop-i.invariant c.loop-i-test.true (sym c.read_line.ensures ∙ c.unwrap-line.ensures)

pub returns : goal.returns
returns c =
    let both = storing_ends c.loop-i.invariant (omega arith) in record { letters_after = both.0; seconds_after = both.1 }
