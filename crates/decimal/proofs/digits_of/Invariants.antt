-- `digits_of` writes the numeral in front of zeros, a digit for each power of ten down from the first. Assumes nothing.
use Prim.Native.Nat.{suc, ◌-◌, ◌≤◌, ◌<◌}
use Rattle.decimal.specs.Powers.{Powers}
use Rattle.decimal.proofs.Spelling.{Spelt}
use Rattle.decimal.proofs.digits_of.Given as goal

abbrev pub invariant-loop-i : goal.invariant-loop-i
invariant-loop-i l =
    Powers l.powers × (l.i ≤ l.last) × (l.last < 20) × Spelt l.x (suc (l.last - l.i)) l.bytes l.i l.rest
