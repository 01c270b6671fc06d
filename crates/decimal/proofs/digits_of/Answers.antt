-- `digits_of` writes the numeral in front of zeros, a digit for each power of ten down from the first. Assumes nothing.
use mathlib.Core.Path.{◌≡◌, refl}
use Prim.Native.Nat.{suc, ◌+◌, ◌-◌}
use native.Mathlib.Omega.{arith}
use Rattle.decimal.proofs.NumeralLaws.{decimal_some, decimal_length}
use Rattle.decimal.proofs.Spelling.{spelt_begins, spelt_as, spelt_on, spelt_last, spelt_ends, spelt_numeral}
use Rattle.decimal.proofs.digits_of.Goals as goal

pub overflow_sub-last : goal.overflow_sub-last
overflow_sub-last c =
    omega (arith, c.width-len.ensures, decimal_some c.args.x)

pub loop-i-init : goal.loop-i-init
loop-i-init c =
    let x = c.args.x in
    let w = c.width-len.ensures in
    let some = decimal_some x in
    let few = decimal_length x in
    (c.powers_of_ten-powers.ensures, omega arith, omega arith, spelt_begins x _ (omega arith) (omega arith))

pub loop-i-preserved : goal.loop-i-preserved
loop-i-preserved c =
    let l = c.loop-i in
    let last = c.width-len.result - 1 in
    let n = last - l.i in
    let e : n ≡ suc (last - (l.i + 1)) = omega arith in
    let d = c.digit_step-step.ensures in
    let s = spelt_on n _ l.invariant.3 refl (l.invariant.0.entry n (omega arith)) (omega arith) d.0 d.1 in
    (l.invariant.0, omega arith, l.invariant.2, spelt_as s e refl)

pub returns : goal.returns
returns c =
    let l = c.loop-i in
    let w = c.width-len in
    let some = decimal_some c.args.x in
    let s = spelt_last (spelt_as {l = 1} {j = w.result - 1} l.invariant.3 (omega arith) (omega arith)) l.invariant.2 in
    let t = spelt_as {j = w.result} s refl (omega arith) in
    record { value = (spelt_ends t (omega arith) w.ensures, w.ensures); meaning = spelt_numeral t (omega arith) w.ensures }
