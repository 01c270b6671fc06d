-- `put_full` puts an entry, or leaves the full ones. Assumes nothing.
use native.Mathlib.Omega.{arith}
use mathlib.Core.Path.{◌≡◌}
use mathlib.Core.Bool.{true}
use Prim.Native.Nat.{ℕ, ◌+◌, ◌*◌, ◌/◌, ◌≤◌}
use Rattle.bits.specs.Bit.{bit_at}
use Rattle.levels.proofs.ExitLaws.{put_full_law, put_full_none}
use Rattle.levels.proofs.exits.put_full.Goals as goal
use Rattle.levels.proofs.exits.put_full.Goals.{in-Some+else-g-n, in_default}

pub returns-then-g-n : goal.returns-then-g-n
returns-then-g-n c = put_full_none _ _ _ _ _ _ c.requires.s_value c.in-Some.ensures c.if-g-n.true

pub returns : goal.returns
returns c = put_full_law _ _ _ c.requires.s_value left c.put_in_two.ensures
  where
    left : (m : ℕ) → c.args.k ≤ m → m ≤ c.args.n → bit_at c.args.exits.now (256 * (c.args.s / 2) + m) ≡ true
    left m l h =
        let b = c.requires.exits_len in
        elim c.match-gap.branch [
          | in-Some+else-g-n w ↦ let f = w.if-g-n.false in w.in-Some.ensures.left m l (omega arith)
          | in_default w ↦ w.in_default.ensures m l (omega arith)
        ]
