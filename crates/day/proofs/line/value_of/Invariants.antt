-- `value_of` is the number that the digits write. Assumes nothing.
use Rattle.std.proofs.Common.{◌^◌, ◌<◌, ◌≡◌, drop}
use Rattle.decimal.specs.Numeral.{AllDigits, value_from, value_of}
use Rattle.day.proofs.line.value_of.Given as goal

abbrev pub invariant-loop-digit : goal.invariant-loop-digit
invariant-loop-digit l =
    (value_of l.digits ≡ value_from l.x (drop l.digit-index l.digits)) × AllDigits (drop l.digit-index l.digits) × (l.x < 10 ^ l.digit-index)
