-- The full work count, computed by recursion on the tree.
-- That it is the size of the collection is `collection_size` in proofs/WorkSize. Assumes nothing.
use Rattle.std.specs.Prelude.{Bool, ◌&&◌, ◌||◌, ℕ, zero, suc, ◌+◌, eqb, length}
use Rattle.std.proofs.Math.Seq.{slice}
use Rattle.bits.specs.Runs.{indicator}
use Rattle.event.specs.Event.{Word}
use Rattle.expression.specs.Tree.{Tree, empty, epsilon, letter, union, intersection, concatenation, complement, star}
use Rattle.expression.specs.Accept.{accepts}

-- over the numbers 0 to k: whether some passes, the sum of f, and how many pass
abbrev pub any_to : ℕ → (ℕ → Bool) → Bool
any_to zero f = f zero
any_to (suc k) f = f (suc k) || any_to k f

abbrev pub sum_to : ℕ → (ℕ → ℕ) → ℕ
sum_to zero f = f zero
sum_to (suc k) f = f (suc k) + sum_to k f

abbrev pub tally_to : ℕ → (ℕ → Bool) → ℕ
tally_to k f = sum_to k (λ j. indicator (f j))

-- the numbers at which the exit of t is reached, where E are those at which its entry is
abbrev pub exits : Word → Tree → (ℕ → Bool) → ℕ → Bool
exits w t E k = any_to k (λ j. E j && accepts t (slice j k w))

-- the places at the root's own two states
abbrev pub at_root : Word → Tree → (ℕ → Bool) → ℕ
at_root w t E = tally_to (length w) E + tally_to (length w) (exits w t E)

-- the places below the root that have the same owner as the root
abbrev pub below_root : Word → Tree → (ℕ → Bool) → ℕ
below_root w (empty o) E = 0
below_root w (epsilon o) E = 0
below_root w (letter o c) E = 0
below_root w (union o a b) E = (at_root w a E + below_root w a E) + (at_root w b E + below_root w b E)
below_root w (intersection o a b) E = 0
below_root w (concatenation o a b) E = (at_root w a E + below_root w a E) + (at_root w b (exits w a E) + below_root w b (exits w a E))
below_root w (complement o a) E = 0
below_root w (star o a) E = at_root w a (exits w (star o a) E) + below_root w a (exits w (star o a) E)

-- the places of the walk from the entry of t, for one start and for all
abbrev pub places : Word → Tree → ℕ → ℕ
places w t i = at_root w t (λ j. eqb j i) + below_root w t (λ j. eqb j i)

abbrev pub walks : Word → Tree → ℕ
walks w t = sum_to (length w) (places w t)

-- the places of all special owners
abbrev pub special_walks : Word → Tree → ℕ
special_walks w (empty o) = 0
special_walks w (epsilon o) = 0
special_walks w (letter o c) = 0
special_walks w (union o a b) = special_walks w a + special_walks w b
special_walks w (intersection o a b) = (walks w a + walks w b) + (special_walks w a + special_walks w b)
special_walks w (concatenation o a b) = special_walks w a + special_walks w b
special_walks w (complement o a) = walks w a + special_walks w a
special_walks w (star o a) = special_walks w a

-- 01: "That size is the full work count, fixed by rule and word alone"
unfoldable pub full_count : Word → Tree → ℕ
full_count w t = walks w t + special_walks w t
