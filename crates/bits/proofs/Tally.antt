-- How many numbers below a bound pass a test. Assumes nothing.
use mathlib.Core.Path.{◌≡◌, refl, sym, ap, ap₂, ◌∙◌}
use mathlib.Core.Bool.{Bool, true, false, false≢true}
use Prim.Native.Nat.{ℕ, zero, suc, ◌+◌, ◌-◌, ◌≤◌, ◌<◌}
use native.Mathlib.Omega.{arith}
use Rattle.bits.specs.Runs.{indicator, tally_below}

pub tally_same : (k : ℕ) (f g : ℕ → Bool) → ((r : ℕ) → r < k → f r ≡ g r) → tally_below k f ≡ tally_below k g
unfolding tally_below
tally_same zero f g h = refl
tally_same (suc k) f g h = ap₂ (λ a b. indicator a + b) (h 0 (omega arith))
    (tally_same k (λ r. f (suc r)) (λ r. g (suc r)) (λ r l. h (suc r) (omega arith)))

pub tally_none : (k : ℕ) (f : ℕ → Bool) → ((r : ℕ) → r < k → f r ≡ false) → tally_below k f ≡ 0
unfolding tally_below
tally_none zero f h = refl
tally_none (suc k) f h = rw (h 0 (omega arith)) (omega (arith, tally_none k (λ r. f (suc r)) (λ r l. h (suc r) (omega arith))))

pub tally_add : (a b : ℕ) (f : ℕ → Bool) → tally_below (a + b) f ≡ tally_below a f + tally_below b (λ r. f (a + r))
unfolding tally_below
tally_add zero b f =
    let e : 0 + b ≡ b = omega arith in
    ap (λ n. tally_below n f) e ∙ tally_same b f (λ r. f (0 + r)) (λ r l. ap f (omega arith)) ∙ omega arith
tally_add (suc a) b f =
    let e : suc a + b ≡ suc (a + b) = omega arith in
    let h = tally_same b (λ r. f (suc (a + r))) (λ r. f (suc a + r)) (λ r l. ap f (omega arith)) in
    ap (λ n. tally_below n f) e ∙ omega (arith, tally_add a b (λ r. f (suc r)), h)

pub tally_more : (k : ℕ) (f : ℕ → Bool) → tally_below (k + 1) f ≡ indicator (f k) + tally_below k f
unfolding tally_below
tally_more k f =
    let e : k + 0 ≡ k = omega arith in
    let h : indicator (f (k + 0)) ≡ indicator (f k) = ap (λ n. indicator (f n)) e in
    omega (arith, tally_add k 1 f, h)

-- ---- compared

indicator_most : (x : Bool) → indicator x ≤ 1
indicator_most true = omega arith
indicator_most false = omega arith

indicator_le : (x y : Bool) → (x ≡ true → y ≡ true) → indicator x ≤ indicator y
indicator_le true true h = omega arith
indicator_le true false h = absurd (false≢true (h refl))
indicator_le false y h = omega arith

tally_most : (k : ℕ) (f : ℕ → Bool) → tally_below k f ≤ k
unfolding tally_below
tally_most zero f = omega arith
tally_most (suc k) f = omega (arith, indicator_most (f 0), tally_most k (λ (r : ℕ). f (suc r)))

pub tally_le : (k : ℕ) (f g : ℕ → Bool) → ((s : ℕ) → s < k → f s ≡ true → g s ≡ true) → tally_below k f ≤ tally_below k g
unfolding tally_below
tally_le zero f g h = omega arith
tally_le (suc k) f g h =
    omega (
      arith,
      indicator_le (f 0) (g 0) (h 0 (omega arith)),
      tally_le k (λ (r : ℕ). f (suc r)) (λ (r : ℕ). g (suc r)) (λ s l. h (suc s) (omega arith)),
    )

-- more pass where s passes anew
tally_lt : (k : ℕ) (f g : ℕ → Bool) (s : ℕ) → ((r : ℕ) → r < k → f r ≡ true → g r ≡ true) → s < k → f s ≡ false → g s ≡ true
    → tally_below k f < tally_below k g
unfolding tally_below
tally_lt zero f g s h l e d = absurd (omega arith)
tally_lt (suc k) f g zero h l e d =
    rw (e, d) (omega (arith, tally_le k (λ (r : ℕ). f (suc r)) (λ (r : ℕ). g (suc r)) (λ t m. h (suc t) (omega arith))))
tally_lt (suc k) f g (suc s) h l e d =
    omega (
      arith,
      indicator_le (f 0) (g 0) (h 0 (omega arith)),
      tally_lt k (λ (r : ℕ). f (suc r)) (λ (r : ℕ). g (suc r)) s (λ t m. h (suc t) (omega arith)) (omega arith) e d,
    )

-- what is left shrinks where s passes anew
pub left_less : (k : ℕ) (f g : ℕ → Bool) (s : ℕ) → ((r : ℕ) → f r ≡ true → g r ≡ true) → s < k → f s ≡ false → g s ≡ true
    → k - tally_below k g < k - tally_below k f
left_less k f g s h l e d = omega (arith, tally_lt k f g s (λ r _. h r) l e d, tally_most k g)

pub tally_up : (f : ℕ → Bool) (m k : ℕ) → m ≤ k → tally_below m f ≤ tally_below k f
tally_up f m k h =
    let e : m + (k - m) ≡ k = omega arith in
    omega (arith, sym (ap (λ (n : ℕ). tally_below n f) e) ∙ tally_add m (k - m) f)
