-- Which states a tree has in At, and so which part of At holds a state. Assumes nothing.
use mathlib.Core.Path.{◌≡◌}
use mathlib.Core.Logic.{◌⊎◌, inl, inr}
use Prim.Native.Nat.{ℕ, ◌+◌}
use native.Mathlib.Omega.{arith}
use Rattle.event.specs.Event.{Word}
use Rattle.expression.specs.Tree.{Tree, empty, epsilon, letter, union, intersection, concatenation, complement, star, below, size}
use Rattle.work.specs.Walk.{entry, exit}
use Rattle.work.proofs.At.{Exit, Own, Under, At}
use Rattle.work.proofs.Moves.{Within}

module _ (w : Word) where
  pub own_range : (t : Tree) (x : ℕ) (E : ℕ → Type 0) (s j : ℕ) → Own w t x E s j → Within (x + below t) (x + size t) s
  own_range t x E s j (inl h) = omega (arith, h.0)
  own_range t x E s j (inr h) = omega (arith, h.0)

  pub under_range : (t : Tree) (x : ℕ) (E : ℕ → Type 0) (s j : ℕ) → Under w t x E s j → Within x (x + below t) s
  under_range (empty o) x E s j h = absurd h
  under_range (epsilon o) x E s j h = absurd h
  under_range (letter o c) x E s j h = absurd h
  under_range (union o a b) x E s j (inl (inl h)) = omega (arith, own_range a x E s j h)
  under_range (union o a b) x E s j (inl (inr h)) = omega (arith, under_range a x E s j h)
  under_range (union o a b) x E s j (inr (inl h)) = omega (arith, own_range b (x + size a) E s j h)
  under_range (union o a b) x E s j (inr (inr h)) = omega (arith, under_range b (x + size a) E s j h)
  under_range (intersection o a b) x E s j h = absurd h
  under_range (concatenation o a b) x E s j (inl (inl h)) = omega (arith, own_range a x E s j h)
  under_range (concatenation o a b) x E s j (inl (inr h)) = omega (arith, under_range a x E s j h)
  under_range (concatenation o a b) x E s j (inr (inl h)) = omega (arith, own_range b (x + size a) (Exit w a E) s j h)
  under_range (concatenation o a b) x E s j (inr (inr h)) = omega (arith, under_range b (x + size a) (Exit w a E) s j h)
  under_range (star o a) x E s j (inl h) = omega (arith, own_range a x (Exit w (star o a) E) s j h)
  under_range (star o a) x E s j (inr h) = omega (arith, under_range a x (Exit w (star o a) E) s j h)
  under_range (complement o a) x E s j h = absurd h

  pub at_range : (t : Tree) (x : ℕ) (E : ℕ → Type 0) (s j : ℕ) → At w t x E s j → Within x (x + size t) s
  at_range t x E s j (inl h) = omega (arith, own_range t x E s j h)
  at_range t x E s j (inr h) = omega (arith, under_range t x E s j h)

  -- what At says of the root's own states
  pub at_entry : (t : Tree) (x : ℕ) (E : ℕ → Type 0) (j : ℕ) → At w t x E (entry t x) j → E j
  at_entry t x E j (inl (inl h)) = h.1
  at_entry t x E j (inl (inr h)) = absurd (omega (arith, h.0))
  at_entry t x E j (inr h) = absurd (omega (arith, under_range t x E (entry t x) j h))

  pub at_exit : (t : Tree) (x : ℕ) (E : ℕ → Type 0) (j : ℕ) → At w t x E (exit t x) j → Exit w t E j
  at_exit t x E j (inl (inl h)) = absurd (omega (arith, h.0))
  at_exit t x E j (inl (inr h)) = h.1
  at_exit t x E j (inr h) = absurd (omega (arith, under_range t x E (exit t x) j h))

  -- of a node with two sides, what At says of a state of a side; and of a node with one
  pub at_left : (t a b : Tree) (x : ℕ) (E F G : ℕ → Type 0) (s j : ℕ) → below t ≡ size a + size b → Within x (x + size a) s
      → Own w t x E s j ⊎ (At w a x F s j ⊎ At w b (x + size a) G s j) → At w a x F s j
  at_left t a b x E F G s j e r (inl h) = absurd (omega (arith, own_range t x E s j h))
  at_left t a b x E F G s j e r (inr (inl h)) = h
  at_left t a b x E F G s j e r (inr (inr h)) = absurd (omega (arith, at_range b (x + size a) G s j h))

  pub at_right : (t a b : Tree) (x : ℕ) (E F G : ℕ → Type 0) (s j : ℕ) → below t ≡ size a + size b
      → Within (x + size a) (x + size a + size b) s → Own w t x E s j ⊎ (At w a x F s j ⊎ At w b (x + size a) G s j)
      → At w b (x + size a) G s j
  at_right t a b x E F G s j e r (inl h) = absurd (omega (arith, own_range t x E s j h))
  at_right t a b x E F G s j e r (inr (inl h)) = absurd (omega (arith, at_range a x F s j h))
  at_right t a b x E F G s j e r (inr (inr h)) = h

  pub at_inner : (t a : Tree) (x : ℕ) (E F : ℕ → Type 0) (s j : ℕ) → below t ≡ size a → Within x (x + size a) s
      → Own w t x E s j ⊎ At w a x F s j → At w a x F s j
  at_inner t a x E F s j e r (inl h) = absurd (omega (arith, own_range t x E s j h))
  at_inner t a x E F s j e r (inr h) = h
