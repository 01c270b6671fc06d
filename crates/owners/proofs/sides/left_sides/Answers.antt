-- `left_sides` has the left or only side of every node. Assumes nothing.
use Rattle.owners.proofs.SideLaws.{siding_known, siding_on, siding_ends}
use Rattle.owners.proofs.sides.left_sides.Goals as goal

pub extent_of-extent-requires : goal.extent_of-extent-requires
extent_of-extent-requires c =
    siding_known c.requires c.loop-i.invariant c.loop-i-test.true c.sides_of.ensures

pub loop-i-preserved : goal.loop-i-preserved
loop-i-preserved c =
    siding_on c.requires c.loop-i.invariant c.loop-i-test.true c.sides_of.ensures c.extent_of-extent.ensures

pub returns : goal.returns
returns c =
    siding_ends c.requires c.loop-i.invariant c.loop-i-test.false
