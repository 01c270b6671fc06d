-- Where the walk stands, said by recursion on the tree: E are the numbers at which the entry of t is reached. Assumes nothing.
use mathlib.Core.Path.{◌≡◌}
use mathlib.Core.Logic.{◌⊎◌}
use Prim.Native.Nat.{ℕ, ◌+◌}
use Rattle.expression.specs.Tree.{Tree, empty, epsilon, letter, union, intersection, concatenation, complement, star, size}
use Rattle.work.specs.Walk.{entry, exit}
use Rattle.event.specs.Event.{Word}
use Rattle.work.specs.Span.{Obeys}

-- the numbers at which the exit of t is reached
abbrev pub Exit : Word → Tree → (ℕ → Type 0) → ℕ → Type 0
Exit w t E k = (j : ℕ) × E j × Obeys w t j k

-- the root's own two states
abbrev pub Own : Word → Tree → ℕ → (ℕ → Type 0) → ℕ → ℕ → Type 0
Own w t x E s j = ((s ≡ entry t x) × E j) ⊎ ((s ≡ exit t x) × Exit w t E j)

-- the states below the root, at this level
abbrev pub Under : Word → Tree → ℕ → (ℕ → Type 0) → ℕ → ℕ → Type 0
Under w (empty o) x E s j = ⊥
Under w (epsilon o) x E s j = ⊥
Under w (letter o c) x E s j = ⊥
Under w (union o a b) x E s j = (Own w a x E s j ⊎ Under w a x E s j) ⊎ (Own w b (x + size a) E s j ⊎ Under w b (x + size a) E s j)
Under w (intersection o a b) x E s j = ⊥
Under w (concatenation o a b) x E s j = (Own w a x E s j ⊎ Under w a x E s j)
    ⊎ (Own w b (x + size a) (Exit w a E) s j ⊎ Under w b (x + size a) (Exit w a E) s j)
Under w (star o a) x E s j = Own w a x (Exit w (star o a) E) s j ⊎ Under w a x (Exit w (star o a) E) s j
Under w (complement o a) x E s j = ⊥

abbrev pub At : Word → Tree → ℕ → (ℕ → Type 0) → ℕ → ℕ → Type 0
At w t x E s j = Own w t x E s j ⊎ Under w t x E s j
