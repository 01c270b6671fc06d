-- `clear` leaves zeros in the block. Assumes nothing.
use mathlib.Core.Path.{◌≡◌}
use Prim.Native.Nat.{◌+◌, ◌-◌}
use lib.ListN.{replicate}
use native.Mathlib.Omega.{arith}
use borrow.Author.Rules.{rules}
use Rattle.table.proofs.Rows.{clear_law}
use Rattle.table.proofs.Block.clear.Goals as goal

pub returns : goal.returns
returns c =
    let b = c.args.self in
    let k = c.block_length in
    let n : b.first + k.result - b.first ≡ k.result = omega arith in
    let z : c.fill.new.self ≡ replicate k.result 0 = search rules in
    rw n (clear_law c.args.table.now c.fill.new.self b k.result c.requires k.ensures.0 z)
