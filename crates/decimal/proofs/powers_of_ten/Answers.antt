-- `powers_of_ten`: the whole table is compared with a computed list, whose entries are the powers of ten. Assumes nothing.
use Prim.Native.Nat.{ℕ, zero, suc, ◌+◌, ◌^◌, ◌<◌}
use native.Mathlib.Omega.{arith}
use mathlib.Core.Path.{◌≡◌, refl, ap, subst⁻¹, ◌∙◌}
use mathlib.Core.List.{List, [], ◌∷◌}
use lib.ListN.{get_or}
use Rattle.decimal.specs.Powers.{Powers}
use Rattle.decimal.proofs.powers_of_ten.Goals as goal

-- k powers of ten, from the exponent e on
abbrev powers_from : ℕ → ℕ → List ℕ
powers_from e zero = []
powers_from e (suc k) = 10 ^ e ∷ powers_from (suc e) k

entry_from : (e k i : ℕ) → i < k → get_or (powers_from e k) i 0 ≡ 10 ^ (e + i)
entry_from e zero i l = absurd (omega arith)
entry_from e (suc k) zero l = let s : e ≡ e + 0 = omega arith in ap (λ (j : ℕ). 10 ^ j) s
entry_from e (suc k) (suc i) l =
    let s : suc e + i ≡ e + suc i = omega arith in entry_from (suc e) k i (omega arith) ∙ ap (λ (j : ℕ). 10 ^ j) s

powers : {ps : List ℕ} → ps ≡ powers_from 0 20 → Powers ps
powers h =
    subst⁻¹ Powers h
    (record { entry = λ i l. let s : 0 + i ≡ i = omega arith in entry_from 0 20 i l ∙ ap (λ (j : ℕ). 10 ^ j) s })

pub returns : goal.returns
returns c =
    powers refl
