-- `size` counts the states of both numbers. Assumes nothing.
use native.Mathlib.Omega.{arith}
use lib.ListN.{get_or}
use lib.Count.{ones-le}
use Rattle.bits.proofs.Packed.{number_ones}
use Rattle.marks.proofs.MarkLaws.{set_count_law}
use Rattle.marks.proofs.size.Goals as goal

pub returns : goal.returns
returns c =
    let a = c.args.set.now in
    let k = c.fits-set 0 in
    let l = c.fits-set 1 in
    let e = set_count_law a in
    let f = number_ones (get_or a 0 0) k in
    let g = number_ones (get_or a 1 0) l in
    (omega arith, omega (arith, ones-le 64 (get_or a 0 0) k, ones-le 64 (get_or a 1 0) l))
