-- `put_in_two` joins one bit to the number in which it stands. Assumes nothing.
use Prim.Native.Nat.{◌-◌}
use native.Mathlib.Omega.{arith}
use Rattle.bits.proofs.Laws.{put_at}
use Rattle.bits.proofs.put_in_two.Goals as goal

pub returns-then-p-lt64 : goal.returns-then-p-lt64
returns-then-p-lt64 c =
    let p = c.args.p in
    let l = c.if-p-lt64.true in
    put_at 0 p p c.one.result l (omega arith) c.one.ensures c.merge.ensures.bits

pub returns : goal.returns
returns c =
    let p = c.args.p in
    let l = c.if-p-lt64.false in
    let k = c.requires in
    put_at 1 (p - 64) p c.one-2.result (omega arith) (omega arith) c.one-2.ensures c.merge-2.ensures.bits
