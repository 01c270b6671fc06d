-- The places of one walk, and of the walks from all starts, counted under an owner's name. Assumes nothing.
use mathlib.Core.Path.{◌≡◌, sym, ap, subst}
use mathlib.Core.Logic.{◌⊎◌, inl, inr, ⊎_elim}
use mathlib.Core.Bool.{Bool, true, false}
use Prim.Native.Nat.{ℕ, zero, suc, ◌+◌, ◌≤◌}
use native.Mathlib.Omega.{arith}
use native.Mathlib.Nat.{eq-or-lt_of_le}
use lib.Dec.{T, eqb}
use lib.ListN.{length}
use Rattle.bits.specs.Runs.{indicator}
use Rattle.event.specs.Event.{Word}
use Rattle.expression.specs.Tree.{Tree, empty, epsilon, letter, union, intersection, concatenation, complement, star, size}
use Rattle.work.specs.Walk.{entry, exit, Owner, Visit}
use Rattle.work.specs.SizeOf.{SizeOf}
use Rattle.work.specs.Count.{sum_to, tally_to, exits, at_root, below_root, places, walks}
use Rattle.work.proofs.At.{Exit, Own, Under, At}
use Rattle.work.proofs.Sizes.{size_none, size_one, size_same, size_sum}
use Rattle.work.proofs.Decided.{DecidedBy, start_decides, exit_decides}
use Rattle.work.proofs.Ranges.{own_range, under_range, at_range}
use Rattle.work.proofs.TreeWalk.{TreeWalk}
use Rattle.work.proofs.Walked.{walked}

-- the places (s, j) of X, in the walk of the owner u from i
abbrev pub Of : Owner → ℕ → (ℕ → ℕ → Type 0) → Visit → Type 0
Of u i X v = (v.owner ≡ u) × (v.start ≡ i) × X v.state v.used

visit_path : (v : Visit) (u : Owner) (i s j : ℕ) → v.owner ≡ u → v.start ≡ i → v.state ≡ s → v.used ≡ j
    → v ≡ record { owner = u; start = i; state = s; used = j }
visit_path v u i s j a b c d = λ k. record { owner = a k; start = b k; state = c k; used = d k }

-- two parts with no place in common
pub of_sum : (u : Owner) (i : ℕ) (X Y : ℕ → ℕ → Type 0) (m n : ℕ) → ((s j : ℕ) → X s j → Y s j → ⊥) → SizeOf (Of u i X) m
    → SizeOf (Of u i Y) n → SizeOf (Of u i (λ s j. X s j ⊎ Y s j)) (m + n)
of_sum u i X Y m n h y z =
    size_same (λ p. Of u i X p ⊎ Of u i Y p) (Of u i (λ s j. X s j ⊎ Y s j)) (m + n)
    (λ p. (
      λ k. ⊎_elim (λ a. (a.0, a.1, inl a.2)) (λ b. (b.0, b.1, inr b.2)) k,
      λ k. ⊎_elim (λ a. inl (k.0, k.1, a))
          (λ b. inr (k.0, k.1, b)) k.2,
    ))
    (size_sum (Of u i X) (Of u i Y) m n (λ p a b. h p.state p.used a.2 b.2) y z)

of_none : (u : Owner) (i : ℕ) → SizeOf (Of u i (λ s j. ⊥)) 0
of_none u i = size_none (Of u i (λ s j. ⊥)) (λ p h. h.2)

-- one state, at the numbers up to k that pass
abbrev pub State : ℕ → ℕ → (ℕ → Bool) → ℕ → ℕ → Type 0
State z k F s j = (s ≡ z) × (j ≤ k) × T (F j)

-- a number up to suc k is that one, or up to k
last_or_below : (j k : ℕ) → j ≤ suc k → (j ≡ suc k) ⊎ (j ≤ k)
last_or_below j k l = ⊎_elim (λ e. inl e) (λ m. inr (omega arith)) (eq-or-lt_of_le l)

-- one place, if the test passes
pub place_size : (u : Owner) (i z k : ℕ) (b : Bool) → SizeOf (Of u i (λ s j. (s ≡ z) × (j ≡ k) × T b)) (indicator b)
place_size u i z k true =
    size_one (Of u i (λ s j. (s ≡ z) × (j ≡ k) × Unit {0})) (record { owner = u; start = i; state = z; used = k })
    (λ p. (
      λ e. (
        ap (λ (q : Visit). q.owner) e,
        ap (λ (q : Visit). q.start) e,
        (ap (λ (q : Visit). q.state) e, ap (λ (q : Visit). q.used) e, tt),
      ),
      λ h. visit_path p u i z k h.0 h.1 h.2.0 h.2.1,
    ))
place_size u i z k false = size_none (Of u i (λ s j. (s ≡ z) × (j ≡ k) × ⊥)) (λ p h. h.2.2)

pub state_size : (u : Owner) (i z k : ℕ) (F : ℕ → Bool) → SizeOf (Of u i (State z k F)) (tally_to k F)
state_size u i z zero F =
    size_same (Of u i (λ s j. (s ≡ z) × (j ≡ 0) × T (F 0))) (Of u i (State z 0 F)) (indicator (F 0))
    (λ p. (
      λ h. (h.0, h.1, (h.2.0, omega (arith, h.2.1), subst (λ n. T (F n)) (sym h.2.1) h.2.2)),
      λ h. let e : p.used ≡ 0 = omega (arith, h.2.1) in (h.0, h.1, (h.2.0, e, subst (λ n. T (F n)) e h.2.2)),
    ))
    (place_size u i z 0 (F 0))
state_size u i z (suc k) F =
    size_same (λ p. Of u i (λ s j. (s ≡ z) × (j ≡ suc k) × T (F (suc k))) p ⊎ Of u i (State z k F) p) (Of u i (State z (suc k) F))
    (indicator (F (suc k)) + tally_to k F)
    (λ p. (
      λ h. ⊎_elim (λ a. (a.0, a.1, (a.2.0, omega (arith, a.2.1), subst (λ n. T (F n)) (sym a.2.1) a.2.2)))
          (λ b. (b.0, b.1, (b.2.0, omega (arith, b.2.1), b.2.2))) h,
      λ h. ⊎_elim (λ e. inl (h.0, h.1, (h.2.0, e, subst (λ n. T (F n)) e h.2.2))) (λ l. inr (h.0, h.1, (h.2.0, l, h.2.2)))
          (last_or_below p.used k h.2.1),
    ))
    (size_sum (Of u i (λ s j. (s ≡ z) × (j ≡ suc k) × T (F (suc k)))) (Of u i (State z k F)) (indicator (F (suc k))) (tally_to k F)
    (λ p a b. omega (arith, a.2.1, b.2.1)) (place_size u i z (suc k) (F (suc k))) (state_size u i z k F))

module _ (w : Word) (u : Owner) (i : ℕ) where
  own_size : (t : Tree) (x : ℕ) (F : ℕ → Bool) (E : ℕ → Type 0) → DecidedBy w F E → SizeOf (Of u i (Own w t x E)) (at_root w t F)
  own_size t x F E d =
      of_sum u i (λ s j. (s ≡ entry t x) × E j) (λ s j. (s ≡ exit t x) × Exit w t E j) (tally_to (length w) F)
      (tally_to (length w) (exits w t F))
      (λ s j a b. omega (arith, a.0, b.0))
      (size_same (Of u i (State (entry t x) (length w) F)) (Of u i (λ s j. (s ≡ entry t x) × E j)) (tally_to (length w) F)
      (λ p. (
        λ h. (h.0, h.1, (h.2.0, (d p.used).1 (h.2.1, h.2.2))),
        λ h. (h.0, h.1, (h.2.0, ((d p.used).0 h.2.1).0, ((d p.used).0 h.2.1).1)),
      ))
      (state_size u i (entry t x) (length w) F))
      (size_same (Of u i (State (exit t x) (length w) (exits w t F))) (Of u i (λ s j. (s ≡ exit t x) × Exit w t E j))
      (tally_to (length w) (exits w t F))
      (λ p. let e = exit_decides w t F E d p.used in (
        λ h. (h.0, h.1, (h.2.0, e.1 (h.2.1, h.2.2))),
        λ h. (h.0, h.1, (h.2.0, (e.0 h.2.1).0, (e.0 h.2.1).1)),
      ))
      (state_size u i (exit t x) (length w) (exits w t F)))

  abbrev Sized : Tree → Type 1
  Sized t = (x : ℕ) (F : ℕ → Bool) (E : ℕ → Type 0) → DecidedBy w F E → SizeOf (Of u i (Under w t x E)) (below_root w t F)

  at_sized : (t : Tree) → Sized t → (x : ℕ) (F : ℕ → Bool) (E : ℕ → Type 0) → DecidedBy w F E
      → SizeOf (Of u i (At w t x E)) (at_root w t F + below_root w t F)
  at_sized t h x F E d =
      of_sum u i (Own w t x E) (Under w t x E) (at_root w t F) (below_root w t F)
      (λ s j a b. omega (arith, own_range w t x E s j a, under_range w t x E s j b)) (own_size t x F E d) (h x F E d)

  under_size : (t : Tree) → Sized t
  under_size (empty o) x F E d = of_none u i
  under_size (epsilon o) x F E d = of_none u i
  under_size (letter o c) x F E d = of_none u i
  under_size (union o a b) x F E d =
      of_sum u i (At w a x E) (At w b (x + size a) E) (at_root w a F + below_root w a F) (at_root w b F + below_root w b F)
      (λ s j p q. omega (arith, at_range w a x E s j p, at_range w b (x + size a) E s j q))
      (at_sized a (under_size a) x F E d) (at_sized b (under_size b) (x + size a) F E d)
  under_size (intersection o a b) x F E d = of_none u i
  under_size (concatenation o a b) x F E d =
      of_sum u i (At w a x E) (At w b (x + size a) (Exit w a E)) (at_root w a F + below_root w a F)
      (at_root w b (exits w a F) + below_root w b (exits w a F))
      (λ s j p q. omega (arith, at_range w a x E s j p, at_range w b (x + size a) (Exit w a E) s j q))
      (at_sized a (under_size a) x F E d) (at_sized b (under_size b) (x + size a) (exits w a F) (Exit w a E) (exit_decides w a F E d))
  under_size (star o a) x F E d = at_sized a (under_size a) x (exits w (star o a) F) (Exit w (star o a) E) (exit_decides w (star o a) F E d)
  under_size (complement o a) x F E d = of_none u i

  -- the walk from i
  pub places_size : (t : Tree) (x : ℕ) → i ≤ length w → SizeOf (Of u i (TreeWalk w t x i)) (places w t i)
  places_size t x l =
      size_same (Of u i (At w t x (λ j. j ≡ i))) (Of u i (TreeWalk w t x i)) (places w t i)
      (λ p. (
        λ h. (h.0, h.1, (walked w t x i p.state p.used l).1 h.2),
        λ h. (h.0, h.1, (walked w t x i p.state p.used l).0 h.2),
      ))
      (at_sized t (under_size t) x (λ j. eqb j i) (λ j. j ≡ i) (start_decides w i l))

-- the walks of an owner from all starts
abbrev pub All : Word → Owner → (ℕ → ℕ → ℕ → Type 0) → Visit → Type 0
All w u X v = (v.owner ≡ u) × (v.start ≤ length w) × X v.start v.state v.used

abbrev UpTo : Owner → (ℕ → ℕ → ℕ → Type 0) → ℕ → Visit → Type 0
UpTo u X k v = (v.owner ≡ u) × (v.start ≤ k) × X v.start v.state v.used

pub starts_size : (u : Owner) (X : ℕ → ℕ → ℕ → Type 0) (f : ℕ → ℕ) (k : ℕ) → ((i : ℕ) → i ≤ k → SizeOf (Of u i (X i)) (f i))
    → SizeOf (UpTo u X k) (sum_to k f)
starts_size u X f zero h =
    size_same (Of u 0 (X 0)) (UpTo u X 0) (f 0)
    (λ p. (
      λ a. (a.0, omega (arith, a.1), subst (λ n. X n p.state p.used) (sym a.1) a.2),
      λ a. let e : p.start ≡ 0 = omega (arith, a.1) in (a.0, e, subst (λ n. X n p.state p.used) e a.2),
    ))
    (h 0 (omega arith))
starts_size u X f (suc k) h =
    size_same (λ p. Of u (suc k) (X (suc k)) p ⊎ UpTo u X k p) (UpTo u X (suc k)) (f (suc k) + sum_to k f)
    (λ p. (
      λ c. ⊎_elim (λ a. (a.0, omega (arith, a.1), subst (λ n. X n p.state p.used) (sym a.1) a.2))
          (λ b. (b.0, omega (arith, b.1), b.2)) c,
      λ c. ⊎_elim (λ e. inl (c.0, e, subst (λ n. X n p.state p.used) e c.2)) (λ l. inr (c.0, l, c.2))
          (last_or_below p.start k c.1),
    ))
    (size_sum (Of u (suc k) (X (suc k))) (UpTo u X k) (f (suc k)) (sum_to k f)
    (λ p a b. omega (arith, a.1, b.1)) (h (suc k) (omega arith)) (starts_size u X f k (λ i l. h i (omega arith))))

pub walks_size : (w : Word) (u : Owner) (t : Tree) (x : ℕ) → SizeOf (All w u (TreeWalk w t x)) (walks w t)
walks_size w u t x = starts_size u (TreeWalk w t x) (places w t) (length w) (λ i l. places_size w u i t x l)
