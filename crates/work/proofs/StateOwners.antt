-- A walk stays with its owner: every place that it reaches is at a state that its owner owns. Assumes nothing.
use mathlib.Core.Path.{◌≡◌, sym, subst}
use mathlib.Core.Logic.{inl, inr, ⊎_elim}
use Prim.Native.Nat.{ℕ, ◌+◌, ◌≤◌}
use lib.ListN.{length}
use Rattle.event.specs.Event.{Word}
use Rattle.expression.specs.Tree.{Tree, empty, epsilon, letter, union, intersection, concatenation, complement, star, below, size}
use Rattle.work.specs.Walk.{Owner, whole, special}
use Rattle.work.specs.Owned.{Owns, of_rule, of_union_left, of_union_right, of_concatenation_left}
use Rattle.work.specs.Walk.{Reaches}
use Rattle.work.specs.Owned.{of_concatenation_right, of_star, of_intersection_left, of_intersection_right, of_complement, StateOf}
use Rattle.work.proofs.At.{Exit, Own, Under, At}
use Rattle.work.proofs.TreeWalk.{TreeWalk}
use Rattle.work.proofs.Forward.{reached_at}
use Rattle.work.proofs.Owners.{SpecialWalk, WalkOf, reaches_walk}

module _ (w : Word) (t : Tree) where
  own_state : {u : Owner} (v : Tree) (x : ℕ) (E : ℕ → Type 0) (s j : ℕ) → Owns t u v x → Own w v x E s j → StateOf t u s
  own_state v x E s j o (inl h) = record { part = v; first = x; owns = o; state = inl h.0 }
  own_state v x E s j o (inr h) = record { part = v; first = x; owns = o; state = inr h.0 }

  under_state : {u : Owner} (v : Tree) (x : ℕ) (E : ℕ → Type 0) (s j : ℕ) → Owns t u v x → Under w v x E s j → StateOf t u s
  under_state (empty c) x E s j o h = absurd h
  under_state (epsilon c) x E s j o h = absurd h
  under_state (letter c e) x E s j o h = absurd h
  under_state (union c a b) x E s j o (inl (inl h)) = own_state a x E s j (of_union_left o) h
  under_state (union c a b) x E s j o (inl (inr h)) = under_state a x E s j (of_union_left o) h
  under_state (union c a b) x E s j o (inr (inl h)) = own_state b (x + size a) E s j (of_union_right o) h
  under_state (union c a b) x E s j o (inr (inr h)) = under_state b (x + size a) E s j (of_union_right o) h
  under_state (intersection c a b) x E s j o h = absurd h
  under_state (concatenation c a b) x E s j o (inl (inl h)) = own_state a x E s j (of_concatenation_left o) h
  under_state (concatenation c a b) x E s j o (inl (inr h)) = under_state a x E s j (of_concatenation_left o) h
  under_state (concatenation c a b) x E s j o (inr (inl h)) = own_state b (x + size a) (Exit w a E) s j (of_concatenation_right o) h
  under_state (concatenation c a b) x E s j o (inr (inr h)) = under_state b (x + size a) (Exit w a E) s j (of_concatenation_right o) h
  under_state (complement c a) x E s j o h = absurd h
  under_state (star c a) x E s j o (inl h) = own_state a x (Exit w (star c a) E) s j (of_star o) h
  under_state (star c a) x E s j o (inr h) = under_state a x (Exit w (star c a) E) s j (of_star o) h

  at_state : {u : Owner} (v : Tree) (x : ℕ) (E : ℕ → Type 0) (s j : ℕ) → Owns t u v x → At w v x E s j → StateOf t u s
  at_state v x E s j o (inl h) = own_state v x E s j o h
  at_state v x E s j o (inr h) = under_state v x E s j o h

  module _ (i : ℕ) (l : i ≤ length w) where
    reached_state : {u : Owner} (v : Tree) (x s j : ℕ) → Owns t u v x → TreeWalk w v x i s j → StateOf t u s
    reached_state v x s j o r = at_state v x (λ k. k ≡ i) s j o (reached_at w l r)

    -- the place of an owner that is called y
    called : {s y z : ℕ} → y ≡ z → StateOf t (special z) s → StateOf t (special y) s
    called {s} e h = subst (λ n. StateOf t (special n) s) (sym e) h

    owned_state : {u : Owner} (v : Tree) (x y s j : ℕ) → Owns t u v x → SpecialWalk w v x y i s j → StateOf t (special y) s
    owned_state (empty c) x y s j o h = absurd h
    owned_state (epsilon c) x y s j o h = absurd h
    owned_state (letter c e) x y s j o h = absurd h
    owned_state (union c a b) x y s j o (inl h) = owned_state a x y s j (of_union_left o) h
    owned_state (union c a b) x y s j o (inr h) = owned_state b (x + size a) y s j (of_union_right o) h
    owned_state (intersection c a b) x y s j o (inl h) =
        called h.0 (⊎_elim (λ g. reached_state a x s j (of_intersection_left o) g)
        (λ g. reached_state b (x + size a) s j (of_intersection_right o) g) h.1)
    owned_state {u = u} (intersection c a b) x y s j o (inr (inl h)) = owned_state {u = special (x + below (intersection c a b))} a x y s j (of_intersection_left o) h
    owned_state {u = u} (intersection c a b) x y s j o (inr (inr h)) = owned_state {u = special (x + below (intersection c a b))} b (x + size a) y s j (of_intersection_right o) h
    owned_state (concatenation c a b) x y s j o (inl h) = owned_state a x y s j (of_concatenation_left o) h
    owned_state (concatenation c a b) x y s j o (inr h) = owned_state b (x + size a) y s j (of_concatenation_right o) h
    owned_state (complement c a) x y s j o (inl h) = called h.0 (reached_state a x s j (of_complement o) h.1)
    owned_state {u = u} (complement c a) x y s j o (inr h) = owned_state {u = special (x + below (complement c a))} a x y s j (of_complement o) h
    owned_state (star c a) x y s j o h = owned_state a x y s j (of_star o) h

    walk_state : (u : Owner) (s j : ℕ) → WalkOf w t u i s j → StateOf t u s
    walk_state whole s j h = reached_state t 0 s j of_rule h
    walk_state (special y) s j h = owned_state t 0 y s j of_rule h

    pub reaches_owner : {u : Owner} {s j : ℕ} → Reaches w t u i s j → StateOf t u s
    reaches_owner {u} {s} {j} r = walk_state u s j (reaches_walk w i l r)
