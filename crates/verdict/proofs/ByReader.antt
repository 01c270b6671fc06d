-- Refusals by the two readers, as calls that stand on them meet them. Assumes nothing.
use Prim.Native.Nat.{ℕ, ◌≤◌}
use native.Mathlib.Omega.{arith}
use mathlib.Core.Path.{◌≡◌, refl}
use Rattle.verdict.specs.Verdicts.{refused}
use Rattle.verdict.specs.declared.Verdict.{Verdict}

-- nothing is found or counted, and the number is neither that of an acceptance nor one of the judge's own, 7 to 10
pub record ByReader (v : Verdict) : Type 0 where
  pub zero : v ≡ refused v.number v.place
  pub number : v.number ≡ 0 → ⊥
  pub apart : 7 ≤ v.number → v.number ≤ 10 → ⊥

pub below_judge : (n p : ℕ) → 1 ≤ n → n ≤ 6 → ByReader (refused n p)
below_judge n p h l = record { zero = refl; number = λ e. omega arith; apart = λ a b. omega arith }

pub above_judge : (n p : ℕ) → 11 ≤ n → ByReader (refused n p)
above_judge n p h = record { zero = refl; number = λ e. omega arith; apart = λ a b. omega arith }
