-- How many places the marks of a walk hold, and of the walks from all starts. Assumes nothing.
use mathlib.Core.Path.{◌≡◌, sym, ap, ◌∙◌, subst}
use mathlib.Core.Bool.{Bool, true}
use mathlib.Core.Logic.{◌⊎◌, inl, inr, ⊎_elim}
use mathlib.Core.List.{List}
use Prim.Native.Nat.{ℕ, zero, suc, ◌+◌, ◌*◌, ◌/◌, ◌%◌, ◌≤◌, ◌<◌}
use native.Mathlib.Omega.{arith}
use native.Mathlib.Numerals.{add-one}
use native.Mathlib.Nat.{le_refl}
use native.Mathlib.Decide.{le_ind}
use lib.Dec.{T}
use Rattle.bits.specs.Bit.{bit_at}
use Rattle.bits.specs.Runs.{indicator, tally_below}
use Rattle.bits.proofs.Digits.{same_or_not}
use Rattle.bits.proofs.Tally.{tally_more}
use Rattle.event.proofs.Tests.{T_of, of_T}
use Rattle.walk.specs.Filled.{sum_below, visits}
use Rattle.work.specs.Walk.{Owner, Visit}
use Rattle.work.specs.SizeOf.{SizeOf}
use Rattle.work.specs.Count.{sum_to}
use Rattle.work.proofs.Sizes.{size_none, size_same, size_most, size_unique}
use Rattle.work.proofs.WalkSize.{Of, of_sum, place_size}

-- the places below k, state by state and number by number, that f has
abbrev Flat : (ℕ → Bool) → ℕ → ℕ → ℕ → Type 0
Flat f k s j = (s < 128) × (128 * j + s < k) × T (f (128 * j + s))

module _ (u : Owner) (i : ℕ) where
  flat_size : (f : ℕ → Bool) (k : ℕ) → SizeOf (Of u i (Flat f k)) (tally_below k f)
  unfolding tally_below
  flat_size f zero = size_none (Of u i (Flat f 0)) (λ p h. omega (arith, h.2.1))
  flat_size f (suc k) =
      let e : tally_below (suc k) f ≡ indicator (f k) + tally_below k f = rw add-one at (tally_more k f) in
      subst (SizeOf (Of u i (Flat f (suc k)))) (sym e)
      (size_same (Of u i (λ s j. ((s ≡ k % 128) × (j ≡ k / 128) × T (f k)) ⊎ Flat f k s j)) (Of u i (Flat f (suc k)))
      (indicator (f k) + tally_below k f)
      (λ p. (
        λ h. (h.0, h.1, ⊎_elim (λ c. joins p.state p.used c.0 c.1 c.2) (λ c. (c.0, omega (arith, c.1), c.2)) h.2),
        λ h. (h.0, h.1, parted p.state p.used h.2),
      ))
      (of_sum u i (λ s j. (s ≡ k % 128) × (j ≡ k / 128) × T (f k)) (Flat f k) (indicator (f k)) (tally_below k f)
      (λ s j a b. omega (arith, a.0, a.1, b.1)) (place_size u i (k % 128) (k / 128) (f k)) (flat_size f k)))
    where
      joins : (s j : ℕ) → s ≡ k % 128 → j ≡ k / 128 → T (f k) → Flat f (suc k) s j
      joins s j a b c = let e : 128 * j + s ≡ k = omega arith in (omega arith, omega arith, subst (λ n. T (f n)) (sym e) c)

      parted : (s j : ℕ) → Flat f (suc k) s j → ((s ≡ k % 128) × (j ≡ k / 128) × T (f k)) ⊎ Flat f k s j
      parted s j c =
          let a = c.0 in
          let b = c.1 in
          ⊎_elim (λ (e : 128 * j + s ≡ k). inl (omega arith, omega arith, subst (λ n. T (f n)) e c.2))
          (λ (n : 128 * j + s ≡ k → ⊥). inr (a, omega arith, c.2)) (same_or_not (128 * j + s) k)

  -- the marks of a walk that reaches the places of X, of which there are c
  module _ (n c : ℕ) (X : ℕ → ℕ → Type 0) (z : SizeOf (Of u i X) c) (marks : List ℕ)
      (only : (q : ℕ) → bit_at marks q ≡ true → X (q % 128) (q / 128)) where
    into : (p : Visit) → Of u i (Flat (bit_at marks) (128 * (n + 1))) p → Of u i X p
    into p h =
        let l = h.2.0 in
        let a : (128 * p.used + p.state) % 128 ≡ p.state = omega arith in
        let b : (128 * p.used + p.state) / 128 ≡ p.used = omega arith in
        let x = only (128 * p.used + p.state) (of_T (bit_at marks (128 * p.used + p.state)) h.2.2) in
        (h.0, h.1, subst (λ s. X s p.used) a (subst (λ j. X ((128 * p.used + p.state) % 128) j) b x))

    pub count_most : tally_below (128 * (n + 1)) (bit_at marks) ≤ c
    count_most =
        size_most (Of u i (Flat (bit_at marks) (128 * (n + 1)))) (Of u i X) _ c into (flat_size (bit_at marks) (128 * (n + 1))) z

    pub count_exact : ((s j : ℕ) → X s j → (s < 128) × (j ≤ n)) → ((q : ℕ) → X (q % 128) (q / 128) → bit_at marks q ≡ true)
        → tally_below (128 * (n + 1)) (bit_at marks) ≡ c
    count_exact bound all =
        size_unique (Of u i X) _ c
        (size_same (Of u i (Flat (bit_at marks) (128 * (n + 1)))) (Of u i X) _ (λ p. (into p, out p))
        (flat_size (bit_at marks) (128 * (n + 1)))) z
      where
        out : (p : Visit) → Of u i X p → Of u i (Flat (bit_at marks) (128 * (n + 1))) p
        out p h =
            let (l, k) = bound p.state p.used h.2 in
            let a : (128 * p.used + p.state) % 128 ≡ p.state = omega arith in
            let b : (128 * p.used + p.state) / 128 ≡ p.used = omega arith in
            let x : X ((128 * p.used + p.state) % 128) ((128 * p.used + p.state) / 128) =
            subst (λ s. X s ((128 * p.used + p.state) / 128)) (sym a) (subst (λ j. X p.state j) (sym b) h.2) in
            (h.0, h.1, (l, omega arith, T_of (bit_at marks (128 * p.used + p.state)) (all (128 * p.used + p.state) x)))

-- ---- all starts
sum_is : (f c : ℕ → ℕ) (n : ℕ) → ((i : ℕ) → i ≤ n → f i ≡ c i) → sum_below f (suc n) ≡ sum_to n c
unfolding sum_below
sum_is f c zero h = omega (arith, h 0 (omega arith))
sum_is f c (suc n) h = omega (arith, h (suc n) (omega arith), sum_is f c n (λ i l. h i (omega arith)))

sum_most : (f c : ℕ → ℕ) (n : ℕ) → ((i : ℕ) → i ≤ n → f i ≤ c i) → sum_below f (suc n) ≤ sum_to n c
unfolding sum_below
sum_most f c zero h = omega (arith, h 0 (omega arith))
sum_most f c (suc n) h = omega (arith, h (suc n) (omega arith), sum_most f c n (λ i l. h i (omega arith)))

sum_up : (c : ℕ → ℕ) (k n : ℕ) → k ≤ n → sum_to k c ≤ sum_to n c
sum_up c k n h = le_ind (λ m. sum_to k c ≤ sum_to m c) (le_refl (sum_to k c)) (λ m _ e. omega arith) n h

module _ (marks : ℕ → List ℕ) (c : ℕ → ℕ) (n : ℕ) where
  abbrev held : ℕ → ℕ
  held i = tally_below (128 * (n + 1)) (bit_at (marks i))

  pub visits_are : ((i : ℕ) → i ≤ n → held i ≡ c i) → visits marks n (n + 1) ≡ sum_to n c
  visits_are h = let e : n + 1 ≡ suc n = omega arith in ap (sum_below held) e ∙ sum_is held c n h

  pub visits_most : (k : ℕ) → k ≤ n → ((i : ℕ) → i ≤ n → held i ≤ c i) → visits marks n (k + 1) ≤ sum_to n c
  visits_most k l h =
      let e : k + 1 ≡ suc k = omega arith in
      let a = sum_most held c k (λ i z. h i (omega arith)) in
      let b = sum_up c k n l in
      omega (arith, ap (sum_below held) e, a, b)
