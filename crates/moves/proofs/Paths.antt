-- What is reached by steps, and where free moves lead. Assumes nothing.
use mathlib.Core.Path.{◌≡◌, sym, subst}
use mathlib.Core.List.{List}
use Prim.Native.Nat.{ℕ, ◌≤◌}
use native.Mathlib.Omega.{arith}
use Rattle.moves.specs.Reached.{Reached, start, after}
use Rattle.moves.specs.Moves.{Leads}
use Rattle.moves.specs.Closing.{LeaveBelow}

-- what is reached from what is reached is reached
pub reached_from : {S T : ℕ → Type 0} {R : ℕ → ℕ → Type 0} {q : ℕ} → ((p : ℕ) → S p → Reached T R p) → Reached S R q → Reached T R q
reached_from f (start s) = f _ s
reached_from f (after r u) = after (reached_from f r) u

pub leads_on : {m : List ℕ} {s k t : ℕ} → Leads m s k → Leads m k t → Leads m s t
leads_on {m} {s} {k} u v = reached_from (λ p (e : p ≡ k). subst (λ (n : ℕ). Leads m s n) (sym e) u) v

-- a state that no move leaves leads to itself alone
pub leads_nowhere : {m : List ℕ} {n s t : ℕ} → LeaveBelow n m → n ≤ s → Leads m s t → t ≡ s
leads_nowhere low l (start e) = e
leads_nowhere {t = t} low l (after {p} r h) =
    let e = leads_nowhere low l r in
    let k = low p t h.to h.move in
    absurd (omega arith)
