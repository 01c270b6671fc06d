-- The Boolean sets of numbers decide the sets of At. Assumes nothing.
use mathlib.Core.Path.{◌≡◌}
use mathlib.Core.Logic.{◌⊎◌, inl, inr, ◌↔◌}
use mathlib.Core.Bool.{Bool, ◌&&◌}
use Prim.Native.Nat.{ℕ, zero, suc, ◌≤◌}
use native.Mathlib.Omega.{arith}
use native.Mathlib.Decide.{dec_le}
use lib.Dec.{T, eqb, eqb→eq, eqb_refl}
use lib.ListN.{length}
use lib.Seq.{slice}
use Rattle.expression.specs.Tree.{Tree}
use Rattle.event.specs.Event.{Word}
use Rattle.expression.specs.Accept.{accepts}
use Rattle.work.proofs.At.{Exit}
use Rattle.work.specs.Count.{any_to, exits}
use Rattle.event.proofs.Tests.{and_split, and_join, or_split, or_left, or_right}
use Rattle.expression.proofs.LangDecided.{decides}

-- F decides E among the numbers of the word
abbrev pub DecidedBy : Word → (ℕ → Bool) → (ℕ → Type 0) → Type 0
DecidedBy w F E = (j : ℕ) → E j ↔ ((j ≤ length w) × T (F j))

pub any_found : (k : ℕ) (f : ℕ → Bool) → T (any_to k f) → (j : ℕ) × (j ≤ k) × T (f j)
any_found zero f h = (0, omega arith, h)
any_found (suc k) f h = go (or_split (f (suc k)) (any_to k f) h) (any_found k f)
  where
    go : T (f (suc k)) ⊎ T (any_to k f) → (T (any_to k f) → (j : ℕ) × (j ≤ k) × T (f j)) → (j : ℕ) × (j ≤ suc k) × T (f j)
    go (inl p) r = (suc k, omega arith, p)
    go (inr p) r = let (j, l, q) = r p in (j, omega arith, q)

pub found_any : (k : ℕ) (f : ℕ → Bool) (j : ℕ) → j ≤ k → T (f j) → T (any_to k f)
found_any zero f j l h = let e : j ≡ 0 = omega arith in rw e at h
found_any (suc k) f j l h = go (dec_le j k) (λ m. found_any k f j m h)
  where
    go : Dec (j ≤ k) → (j ≤ k → T (any_to k f)) → T (any_to (suc k) f)
    go (yes m) r = or_right (f (suc k)) (any_to k f) (r m)
    go (no m) r = let e : j ≡ suc k = omega arith in or_left (f (suc k)) (any_to k f) (rw e at h)

pub start_decides : (w : Word) (i : ℕ) → i ≤ length w → DecidedBy w (λ j. eqb j i) (λ j. j ≡ i)
start_decides w i l j = (λ e. (omega arith, rw e (eqb_refl i)), λ h. eqb→eq j i h.1)

pub exit_decides : (w : Word) (t : Tree) (F : ℕ → Bool) (E : ℕ → Type 0) → DecidedBy w F E → DecidedBy w (exits w t F) (Exit w t E)
exit_decides w t F E d k = (
  λ h. let (j, e, o) = h in (
    o.inside,
    found_any k (λ j. F j && accepts t (slice j k w)) j o.order
        (and_join (F j) (accepts t (slice j k w)) ((d j).0 e).1 ((decides t (slice j k w)).1 o.word)),
  ),
  λ h. let (j, l, p) = any_found k (λ j. F j && accepts t (slice j k w)) h.1 in
      let q = and_split (F j) (accepts t (slice j k w)) p in
      let m : j ≤ length w = omega (arith, h.0) in
      (j, (d j).1 (m, q.0), record { order = l; inside = h.0; word = (decides t (slice j k w)).0 q.1 }),
)
