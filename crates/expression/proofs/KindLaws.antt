-- The number of a set's kind has the bit of each of its letters. Assumes nothing.
use Prim.Native.Nat.{ℕ, ◌+◌, ◌-◌, ◌%◌, ◌^◌, ◌<◌}
use native.Mathlib.Omega.{arith}
use mathlib.Core.Path.{◌≡◌, refl, sym, ap, ◌∙◌}
use mathlib.Core.Bool.{Bool, ◌&&◌, ◌||◌, and-true}
use lib.Bits.{or_shifted, and_mask}
use lib.Dec.{T}
use borrow.Author.Tests.{lt-ltb}
use Rattle.bits.specs.Bit.{has_bit}
use Rattle.bits.proofs.Digits.{has_or, has_and, power_lacks, mask_has}
use Rattle.event.specs.Event.{is_event}
use Rattle.event.specs.LetterSets.{letter_index, holds}
use Rattle.event.specs.declared.sets.LetterSet.{LetterSet}
use Rattle.event.proofs.SetLaws.{letter_index_lem, holds_index}
use Rattle.expression.specs.KindNumber.{kind_number}
use Rattle.expression.specs.declared.Kind.TheVariants.{Letter}

-- the low bits of a number, with the highest of 64 set
low_bit : (i n : ℕ) → i < 52 → has_bit i (9223372036854775808 + n % 4503599627370496) ≡ has_bit i n
low_bit i n h =
    let m = n % 4503599627370496 in
    let z : 2 ^ 63 ≡ 9223372036854775808 = refl in
    let apart : i ≡ 63 → ⊥ = λ e. omega arith in
    sym (ap (has_bit i) (or_shifted 1 63 m (omega arith)))
    ∙ has_or i (2 ^ 63) m
    ∙ ap (λ (t : Bool). t || has_bit i m) (power_lacks 63 i apart)
    ∙ ap (has_bit i) (sym (and_mask n 52))
    ∙ has_and i n (2 ^ 52 - 1)
    ∙ ap (λ (t : Bool). has_bit i n && t) (mask_has i 52 ∙ lt-ltb i 52 h)
    ∙ and-true (has_bit i n)

-- wuzlevor.h: "for a set of letters 2^63 + the sum of 2^i over its letters"
pub kind_bit : (c : LetterSet) (b : ℕ) → T (is_event b) → has_bit (letter_index b) (kind_number (Letter c)) ≡ holds c b
kind_bit c b h = low_bit (letter_index b) c.bits (letter_index_lem b h).0 ∙ sym (holds_index c b h)
