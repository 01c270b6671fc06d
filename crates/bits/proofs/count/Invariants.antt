-- `count` sums the ones of the numbers before the index. Assumes nothing.
use mathlib.Core.Path.{◌≡◌}
use Prim.Native.Nat.{◌≤◌, ◌*◌}
use lib.ListN.{take}
use Rattle.bits.specs.Bit.{ones_of}
use Rattle.bits.proofs.count.Given as goal

abbrev pub invariant-loop-x : goal.invariant-loop-x
invariant-loop-x l = (l.sum ≡ ones_of (take l.x-index l.a)) × (l.sum ≤ 64 * l.x-index)
