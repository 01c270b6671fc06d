-- `count` sums the ones of the numbers before the index. Assumes nothing.
use native.Mathlib.Omega.{arith}
use lib.Count.{ones-le}
use Rattle.bits.proofs.Laws.{ones_more}
use Rattle.bits.proofs.count.Goals as goal

pub loop-x-preserved : goal.loop-x-preserved
loop-x-preserved c =
    let a = c.args.a.now in
    let i = c.loop-x.x-index in
    let small = ones-le 64 _ (c.type_inv.a i).fits in
    let more = ones_more a i (omega arith) in (omega arith, omega arith)
