-- `both` meets the bits of two exits. Assumes nothing.
use mathlib.Core.Path.{ap₂, ◌∙◌}
use Prim.Native.Nat.{◌+◌, ◌*◌}
use lib.Bits.{bit_and}
use Rattle.bits.specs.Bit.{bit_at}
use Rattle.marks.proofs.RowLaws.{both_law}
use Rattle.marks.proofs.Marks.both.Goals as goal

pub returns : goal.returns
returns c =
    let a = c.args in
    let m = a.self.now.places in
    ap₂ bit_and c.bit.ensures c.bit-2.ensures
    ∙ both_law (bit_at m (128 * a.k + a.target.left)) (bit_at m (128 * a.k + a.target.right))
