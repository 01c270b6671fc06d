-- The full work count is at most m (n + 1) (n + 2). Assumes nothing.
use mathlib.Core.Path.{◌≡◌, refl, ap}
use mathlib.Core.Bool.{Bool, true, false, ◌&&◌}
use Prim.Native.Nat.{ℕ, zero, suc, ◌+◌, ◌*◌, ◌-◌, ◌≤◌}
use native.Mathlib.Omega.{arith}
use native.Mathlib.Decide.{dec_le}
use lib.Dec.{T, eqb, eqb→eq}
use lib.ListN.{length}
use lib.Seq.{slice}
use Rattle.expression.specs.Tree.{Tree, empty, epsilon, letter, union, intersection, concatenation, complement, star, size}
use Rattle.event.specs.Event.{Word}
use Rattle.expression.specs.Accept.{accepts}
use Rattle.work.specs.Count.{sum_to, tally_to, exits, at_root, below_root, places, walks, special_walks, full_count}
use Rattle.bits.specs.Runs.{indicator}
use Rattle.event.proofs.Tests.{and_split}
use Rattle.work.proofs.Decided.{any_found}

-- the nodes at a tree's own level, and those below its special nodes
outer : Tree → ℕ
outer (empty o) = 1
outer (epsilon o) = 1
outer (letter o c) = 1
outer (union o a b) = suc (outer a + outer b)
outer (intersection o a b) = 1
outer (concatenation o a b) = suc (outer a + outer b)
outer (star o a) = suc (outer a)
outer (complement o a) = 1

hidden : Tree → ℕ
hidden (empty o) = 0
hidden (epsilon o) = 0
hidden (letter o c) = 0
hidden (union o a b) = hidden a + hidden b
hidden (intersection o a b) = (outer a + outer b) + (hidden a + hidden b)
hidden (concatenation o a b) = hidden a + hidden b
hidden (star o a) = hidden a
hidden (complement o a) = outer a + hidden a

levels : (t : Tree) → outer t + hidden t ≡ size t
unfolding outer hidden
levels (empty o) = refl
levels (epsilon o) = refl
levels (letter o c) = refl
levels (union o a b) = omega (arith, levels a, levels b)
levels (intersection o a b) = omega (arith, levels a, levels b)
levels (concatenation o a b) = omega (arith, levels a, levels b)
levels (star o a) = omega (arith, levels a)
levels (complement o a) = omega (arith, levels a)

-- F holds at no number before i
abbrev Since : ℕ → (ℕ → Bool) → Type 0
Since i F = (j : ℕ) → T (F j) → i ≤ j

bit_le : (b : Bool) → indicator b ≤ 1
bit_le true = omega arith
bit_le false = omega arith

bit_none : (b : Bool) → (T b → ⊥) → indicator b ≡ 0
bit_none true h = absurd (h tt)
bit_none false h = refl

-- the last number counts only from i on
bit_since : (i k : ℕ) (F : ℕ → Bool) → Since i F → indicator (F k) ≤ suc k - i
bit_since i k F h = go (dec_le i k)
  where
    go : Dec (i ≤ k) → indicator (F k) ≤ suc k - i
    go (yes l) = omega (arith, bit_le (F k))
    go (no l) = omega (arith, bit_none (F k) (λ t. l (h k t)))

tally_bound : (k i : ℕ) (F : ℕ → Bool) → Since i F → tally_to k F ≤ suc k - i
tally_bound zero i F h = bit_since i 0 F h
tally_bound (suc k) i F h = omega (arith, tally_bound k i F h, bit_since i (suc k) F h, bit_le (F (suc k)))

exits_since : (w : Word) (t : Tree) (i : ℕ) (F : ℕ → Bool) → Since i F → Since i (exits w t F)
exits_since w t i F h k e =
    let (j, l, p) = any_found k (λ j. F j && accepts t (slice j k w)) e in
    omega (arith, h j (and_split (F j) (accepts t (slice j k w)) p).0)

module _ (w : Word) (i r : ℕ) (e : i + r ≡ suc (length w)) where
  own_bound : (t : Tree) (F : ℕ → Bool) → Since i F → at_root w t F ≤ 2 * r
  own_bound t F h = omega (arith, tally_bound (length w) i F h, tally_bound (length w) i (exits w t F) (exits_since w t i F h))

  level_bound : (t : Tree) (F : ℕ → Bool) → Since i F → at_root w t F + below_root w t F ≤ outer t * (2 * r)
  unfolding outer
  level_bound (empty o) F h = omega (arith, own_bound (empty o) F h)
  level_bound (epsilon o) F h = omega (arith, own_bound (epsilon o) F h)
  level_bound (letter o c) F h = omega (arith, own_bound (letter o c) F h)
  level_bound (union o a b) F h = omega (arith, own_bound (union o a b) F h, level_bound a F h, level_bound b F h)
  level_bound (intersection o a b) F h = omega (arith, own_bound (intersection o a b) F h)
  level_bound (concatenation o a b) F h = omega
      (arith, own_bound (concatenation o a b) F h, level_bound a F h, level_bound b (exits w a F) (exits_since w a i F h))
  level_bound (star o a) F h = omega
      (arith, own_bound (star o a) F h, level_bound a (exits w (star o a) F) (exits_since w (star o a) i F h))
  level_bound (complement o a) F h = omega (arith, own_bound (complement o a) F h)

  places_bound : (t : Tree) → places w t i ≤ outer t * (2 * r)
  places_bound t = level_bound t (λ j. eqb j i) (λ j h. let q = eqb→eq j i h in omega arith)

-- 2 (n + 1) + 2 n + … down to where k ends
sum_bound : (c k d : ℕ) (f : ℕ → ℕ) → ((i r : ℕ) → i ≤ k → i + r ≡ suc (k + d) → f i ≤ c * (2 * r))
    → sum_to k f ≤ c * (suc k * (k + 2 + 2 * d))
sum_bound c zero d f h = omega (arith, h 0 (suc d) (omega arith) (omega arith))
sum_bound c (suc k) d f h =
    omega (arith, h (suc k) (suc d) (omega arith) (omega arith), sum_bound c k (suc d) f (λ i r l q. h i r (omega arith) (omega arith)))

-- (n + 1) (n + 2)
abbrev Square : Word → ℕ
Square w = suc (length w) * (length w + 2)

walks_bound : (w : Word) (t : Tree) → walks w t ≤ outer t * Square w
walks_bound w t = omega (arith, sum_bound (outer t) (length w) 0 (places w t) (λ i r l q. places_bound w i r (omega arith) t))

owned_bound : (w : Word) (t : Tree) → special_walks w t ≤ hidden t * Square w
unfolding hidden
owned_bound w (empty o) = omega arith
owned_bound w (epsilon o) = omega arith
owned_bound w (letter o c) = omega arith
owned_bound w (union o a b) = omega (arith, owned_bound w a, owned_bound w b)
owned_bound w (intersection o a b) = omega (arith, owned_bound w a, owned_bound w b, walks_bound w a, walks_bound w b)
owned_bound w (concatenation o a b) = omega (arith, owned_bound w a, owned_bound w b)
owned_bound w (star o a) = owned_bound w a
owned_bound w (complement o a) = omega (arith, owned_bound w a, walks_bound w a)

pub full_bound : (w : Word) (t : Tree) → full_count w t ≤ size t * (length w + 1) * (length w + 2)
unfolding full_count
full_bound w t =
    let e : (outer t + hidden t) * Square w ≡ size t * Square w = ap (◌* Square w) (levels t) in
    omega (arith, walks_bound w t, owned_bound w t, e)
