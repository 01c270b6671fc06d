-- `row_at_start` has at most one bit. Assumes nothing.
use mathlib.Core.Path.{ap, ap₂, ◌∙◌}
use Prim.Native.Nat.{◌+◌, ◌*◌}
use lib.Bits.{bit_and}
use Rattle.bits.specs.Bit.{bit_at}
use Rattle.bits.specs.Runs.{indicator}
use Rattle.marks.proofs.RowLaws.{both_law, one_span}
use Rattle.marks.proofs.ends.row_at_start.Goals as goal

pub returns : goal.returns
returns c =
    let a = c.args in
    let m = a.marks.now.places in
    let n = c.states_at-states.ensures in
    one_span _ a.i _ c.requires
    (ap₂ bit_and (c.in_set.ensures ∙ ap indicator (n a.target.left a.target.left_bound)) (c.in_set-2.ensures ∙ ap indicator (n a.target.right a.target.right_bound))
    ∙ both_law (bit_at m (128 * a.i + a.target.left)) (bit_at m (128 * a.i + a.target.right)))
