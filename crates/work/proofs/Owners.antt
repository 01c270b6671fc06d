-- The walk of each owner is the walk over the rule, or over the sides of the owner's node. Assumes nothing.
use mathlib.Core.Path.{◌≡◌, refl, sym, subst}
use mathlib.Core.Logic.{◌⊎◌, inl, inr, ⊎_elim, ◌↔◌}
use Prim.Native.Nat.{ℕ, ◌+◌, ◌*◌, ◌≤◌, ◌<◌}
use native.Mathlib.Omega.{arith}
use lib.ListN.{length}
use Rattle.event.specs.Event.{Word}
use Rattle.expression.specs.Tree.{Tree, empty, epsilon, letter, union, intersection, concatenation, complement, star, below, size}
use Rattle.work.specs.Span.{Obeys}
use Rattle.work.specs.Walk.{entry, exit, Part, itself, union_left, union_right, intersection_left, intersection_right, concatenation_left}
use Rattle.work.specs.Walk.{concatenation_right, complement_inner, star_inner, NodeMove, RuleMove, Owner, whole, special, Begins, begin_rule}
use Rattle.work.specs.Walk.{begin_left, begin_right, begin_inner, Reaches, begin, onward}
use Rattle.work.proofs.Moves.{Within, part_part, Source, source, move_range, by_part, node_number}
use Rattle.work.proofs.Ranges.{at_range}
use Rattle.work.proofs.TreeWalk.{TreeWalk, start, step}
use Rattle.work.proofs.Forward.{reached_at}
use Rattle.work.proofs.Walked.{walked_exit}

-- y is a special node of t, whose records stand from x on, and its walk from number i reaches state s at number j
abbrev pub SpecialWalk : Word → Tree → ℕ → ℕ → ℕ → ℕ → ℕ → Type 0
SpecialWalk w (empty o) x y i s j = ⊥
SpecialWalk w (epsilon o) x y i s j = ⊥
SpecialWalk w (letter o c) x y i s j = ⊥
SpecialWalk w (union o a b) x y i s j = SpecialWalk w a x y i s j ⊎ SpecialWalk w b (x + size a) y i s j
SpecialWalk w (intersection o a b) x y i s j =
    ((y ≡ x + below (intersection o a b)) × (TreeWalk w a x i s j ⊎ TreeWalk w b (x + size a) i s j))
    ⊎ (SpecialWalk w a x y i s j ⊎ SpecialWalk w b (x + size a) y i s j)
SpecialWalk w (concatenation o a b) x y i s j = SpecialWalk w a x y i s j ⊎ SpecialWalk w b (x + size a) y i s j
SpecialWalk w (complement o a) x y i s j = ((y ≡ x + below (complement o a)) × TreeWalk w a x i s j) ⊎ SpecialWalk w a x y i s j
SpecialWalk w (star o a) x y i s j = SpecialWalk w a x y i s j

abbrev pub WalkOf : Word → Tree → Owner → ℕ → ℕ → ℕ → Type 0
WalkOf w t whole i s j = TreeWalk w t 0 i s j
WalkOf w t (special y) i s j = SpecialWalk w t 0 y i s j

module _ (w : Word) where
  -- a move of a tree is its root's or a side's
  abbrev Deeper : Tree → ℕ → ℕ → ℕ → ℕ → ℕ → Type 0
  Deeper (empty o) x s j s' j' = ⊥
  Deeper (epsilon o) x s j s' j' = ⊥
  Deeper (letter o c) x s j s' j' = ⊥
  Deeper (union o a b) x s j s' j' = RuleMove w a x s j s' j' ⊎ RuleMove w b (x + size a) s j s' j'
  Deeper (intersection o a b) x s j s' j' = RuleMove w a x s j s' j' ⊎ RuleMove w b (x + size a) s j s' j'
  Deeper (concatenation o a b) x s j s' j' = RuleMove w a x s j s' j' ⊎ RuleMove w b (x + size a) s j s' j'
  Deeper (complement o a) x s j s' j' = RuleMove w a x s j s' j'
  Deeper (star o a) x s j s' j' = RuleMove w a x s j s' j'

  part_move : {t u : Tree} {x y s j s' j' : ℕ} → Part t x u y → NodeMove w u y s j s' j' → RuleMove w t x s j s' j'
  part_move {u = u} {y = y} p m = record { part = u; first = y; within = p; move = m }

  opened_part : {t u : Tree} {x y s j s' j' : ℕ} → Part t x u y → NodeMove w u y s j s' j' → Source w t x s ⊎ Deeper t x s j s' j'
  opened_part itself m = inl (source w m)
  opened_part (union_left p) m = inr (inl (part_move p m))
  opened_part (union_right p) m = inr (inr (part_move p m))
  opened_part (intersection_left p) m = inr (inl (part_move p m))
  opened_part (intersection_right p) m = inr (inr (part_move p m))
  opened_part (concatenation_left p) m = inr (inl (part_move p m))
  opened_part (concatenation_right p) m = inr (inr (part_move p m))
  opened_part (complement_inner p) m = inr (part_move p m)
  opened_part (star_inner p) m = inr (part_move p m)

  opened : {t : Tree} {x s j s' j' : ℕ} → RuleMove w t x s j s' j' → Source w t x s ⊎ Deeper t x s j s' j'
  opened m = opened_part m.within m.move

  -- of two sides, the one that has the state
  from_left : (t a b : Tree) (x s j s' j' : ℕ) → Within x (x + size a) s → (Source w t x s → ⊥)
      → Source w t x s ⊎ (RuleMove w a x s j s' j' ⊎ RuleMove w b (x + size a) s j s' j') → RuleMove w a x s j s' j'
  from_left t a b x s j s' j' r k (inl h) = absurd (k h)
  from_left t a b x s j s' j' r k (inr (inl h)) = h
  from_left t a b x s j s' j' r k (inr (inr h)) = absurd (omega (arith, move_range w h))

  from_right : (t a b : Tree) (x s j s' j' : ℕ) → Within (x + size a) (x + size a + size b) s → (Source w t x s → ⊥)
      → Source w t x s ⊎ (RuleMove w a x s j s' j' ⊎ RuleMove w b (x + size a) s j s' j') → RuleMove w b (x + size a) s j s' j'
  from_right t a b x s j s' j' r k (inl h) = absurd (k h)
  from_right t a b x s j s' j' r k (inr (inl h)) = absurd (omega (arith, move_range w h))
  from_right t a b x s j s' j' r k (inr (inr h)) = h

  -- a state below a side's root is no source of the node above
  no_source : (a b : Tree) (x s e : ℕ) → e ≡ 2 * (x + (size a + size b))
      → Within x (x + below a) s ⊎ Within (x + size a) (x + size a + below b) s → (s ≡ e) ⊎ ((s ≡ exit a x) ⊎ (s ≡ exit b (x + size a))) → ⊥
  no_source a b x s e q (inl r) (inl h) = omega arith
  no_source a b x s e q (inl r) (inr (inl h)) = omega arith
  no_source a b x s e q (inl r) (inr (inr h)) = omega arith
  no_source a b x s e q (inr r) (inl h) = omega arith
  no_source a b x s e q (inr r) (inr (inl h)) = omega arith
  no_source a b x s e q (inr r) (inr (inr h)) = omega arith

  module _ (i : ℕ) (l : i ≤ length w) where
    pub reached_range : (t : Tree) (x s j : ℕ) → TreeWalk w t x i s j → Within x (x + size t) s
    reached_range t x s j r = at_range w t x (λ k. k ≡ i) s j (reached_at w l r)

    -- a special owner's states lie below its node, and below the root
    owned_below : (t : Tree) (x y s j : ℕ) → SpecialWalk w t x y i s j → Within x (x + below t) s × (s < 2 * y)
    owned_below (empty o) x y s j h = absurd h
    owned_below (epsilon o) x y s j h = absurd h
    owned_below (letter o c) x y s j h = absurd h
    owned_below (union o a b) x y s j (inl h) = let r = owned_below a x y s j h in (omega arith, r.1)
    owned_below (union o a b) x y s j (inr h) = let r = owned_below b (x + size a) y s j h in (omega arith, r.1)
    owned_below (intersection o a b) x y s j (inl h) =
        ⊎_elim (λ g. let r = reached_range a x s j g in let e = h.0 in (omega arith, omega arith))
        (λ g. let r = reached_range b (x + size a) s j g in let e = h.0 in (omega arith, omega arith)) h.1
    owned_below (intersection o a b) x y s j (inr (inl h)) = let r = owned_below a x y s j h in (omega arith, r.1)
    owned_below (intersection o a b) x y s j (inr (inr h)) = let r = owned_below b (x + size a) y s j h in (omega arith, r.1)
    owned_below (concatenation o a b) x y s j (inl h) = let r = owned_below a x y s j h in (omega arith, r.1)
    owned_below (concatenation o a b) x y s j (inr h) = let r = owned_below b (x + size a) y s j h in (omega arith, r.1)
    owned_below (complement o a) x y s j (inl h) = let r = reached_range a x s j h.1 in let e = h.0 in (omega arith, omega arith)
    owned_below (complement o a) x y s j (inr h) = let r = owned_below a x y s j h in (omega arith, r.1)
    owned_below (star o a) x y s j h = let r = owned_below a x y s j h in (omega arith, r.1)

    owned_onward : (t : Tree) (x y s j s' j' : ℕ) → SpecialWalk w t x y i s j → RuleMove w t x s j s' j' → SpecialWalk w t x y i s' j'
    owned_onward (empty o) x y s j s' j' h m = absurd h
    owned_onward (epsilon o) x y s j s' j' h m = absurd h
    owned_onward (letter o c) x y s j s' j' h m = absurd h
    owned_onward (union o a b) x y s j s' j' (inl h) m =
        let r = (owned_below a x y s j h).0 in
        inl (owned_onward a x y s j s' j' h
        (from_left (union o a b) a b x s j s' j' (omega (arith, r)) (no_source a b x s (entry (union o a b) x) (omega arith) (inl r))
        (opened m)))
    owned_onward (union o a b) x y s j s' j' (inr h) m =
        let r = (owned_below b (x + size a) y s j h).0 in
        inr (owned_onward b (x + size a) y s j s' j' h
        (from_right (union o a b) a b x s j s' j' (omega (arith, r)) (no_source a b x s (entry (union o a b) x) (omega arith) (inr r))
        (opened m)))
    owned_onward (intersection o a b) x y s j s' j' (inl h) m =
        ⊎_elim
        (λ g. let r = reached_range a x s j g in inl
        (h.0, inl (step g (from_left (intersection o a b) a b x s j s' j' r (λ k. omega (arith, k, r)) (opened m)))))
        (λ g. let r = reached_range b (x + size a) s j g in inl
        (h.0, inr (step g (from_right (intersection o a b) a b x s j s' j' r (λ k. omega (arith, k, r)) (opened m)))))
        h.1
    owned_onward (intersection o a b) x y s j s' j' (inr (inl h)) m =
        let r = (owned_below a x y s j h).0 in
        inr (inl (owned_onward a x y s j s' j' h
        (from_left (intersection o a b) a b x s j s' j' (omega (arith, r)) (λ k. omega (arith, k, r)) (opened m))))
    owned_onward (intersection o a b) x y s j s' j' (inr (inr h)) m =
        let r = (owned_below b (x + size a) y s j h).0 in
        inr (inr (owned_onward b (x + size a) y s j s' j' h
        (from_right (intersection o a b) a b x s j s' j' (omega (arith, r)) (λ k. omega (arith, k, r)) (opened m))))
    owned_onward (concatenation o a b) x y s j s' j' (inl h) m =
        let r = (owned_below a x y s j h).0 in
        inl (owned_onward a x y s j s' j' h
        (from_left (concatenation o a b) a b x s j s' j' (omega (arith, r))
        (no_source a b x s (entry (concatenation o a b) x) (omega arith) (inl r)) (opened m)))
    owned_onward (concatenation o a b) x y s j s' j' (inr h) m =
        let r = (owned_below b (x + size a) y s j h).0 in
        inr (owned_onward b (x + size a) y s j s' j' h
        (from_right (concatenation o a b) a b x s j s' j' (omega (arith, r))
        (no_source a b x s (entry (concatenation o a b) x) (omega arith) (inr r)) (opened m)))
    owned_onward (complement o a) x y s j s' j' (inl h) m =
        let r = reached_range a x s j h.1 in
        inl (h.0, step h.1 (⊎_elim (λ k. absurd (omega (arith, k, r))) (λ k. k) (opened m)))
    owned_onward (complement o a) x y s j s' j' (inr h) m =
        let r = (owned_below a x y s j h).0 in
        inr (owned_onward a x y s j s' j' h (⊎_elim (λ k. absurd (omega (arith, k, r))) (λ k. k) (opened m)))
    owned_onward (star o a) x y s j s' j' h m =
        let r = (owned_below a x y s j h).0 in
        owned_onward a x y s j s' j' h (⊎_elim (λ k. absurd (⊎_elim (λ q. omega (arith, q, r)) (λ q. omega (arith, q, r)) k)) (λ k. k)
        (opened m))

    walk_onward : (t : Tree) (u : Owner) (s j s' j' : ℕ) → WalkOf w t u i s j → RuleMove w t 0 s j s' j' → WalkOf w t u i s' j'
    walk_onward t whole s j s' j' h m = step h m
    walk_onward t (special y) s j s' j' h m = owned_onward t 0 y s j s' j' h m

    -- what a part's owners reach, the rule's owners reach
    part_owned : {t u : Tree} {x z : ℕ} → Part t x u z → (y s j : ℕ) → SpecialWalk w u z y i s j → SpecialWalk w t x y i s j
    part_owned itself y s j h = h
    part_owned (union_left p) y s j h = inl (part_owned p y s j h)
    part_owned (union_right p) y s j h = inr (part_owned p y s j h)
    part_owned (intersection_left p) y s j h = inr (inl (part_owned p y s j h))
    part_owned (intersection_right p) y s j h = inr (inr (part_owned p y s j h))
    part_owned (concatenation_left p) y s j h = inl (part_owned p y s j h)
    part_owned (concatenation_right p) y s j h = inr (part_owned p y s j h)
    part_owned (complement_inner p) y s j h = inr (part_owned p y s j h)
    part_owned (star_inner p) y s j h = part_owned p y s j h

    begins_walk : {t : Tree} {u : Owner} {s : ℕ} → Begins t u s → WalkOf w t u i s i
    begins_walk begin_rule = start
    begins_walk (begin_left {o} {x} {a} {b} p) = part_owned p (x + below (intersection o a b)) (entry a x) i (inl (refl, inl start))
    begins_walk (begin_right {o} {x} {a} {b} p) = part_owned p (x + below (intersection o a b)) (entry b (x + size a)) i
        (inl (refl, inr start))
    begins_walk (begin_inner {o} {x} {a} p) = part_owned p (x + below (complement o a)) (entry a x) i (inl (refl, start))

    pub reaches_walk : {t : Tree} {u : Owner} {s j : ℕ} → Reaches w t u i s j → WalkOf w t u i s j
    reaches_walk (begin b) = begins_walk b
    reaches_walk {t} {u} (onward {s} {j} {s'} {j'} r m) = walk_onward t u s j s' j' (reaches_walk r) m

    -- ---- and back
    reached_reaches : {t a : Tree} {x : ℕ} {u : Owner} {s j : ℕ} → Part t 0 a x → Begins t u (entry a x) → TreeWalk w a x i s j
        → Reaches w t u i s j
    reached_reaches p b start = begin b
    reached_reaches p b (step r m) = onward (reached_reaches p b r) (by_part w p m)

    owned_reaches : (t u : Tree) (x y s j : ℕ) → Part t 0 u x → SpecialWalk w u x y i s j → Reaches w t (special y) i s j
    owned_reaches t (empty o) x y s j p h = absurd h
    owned_reaches t (epsilon o) x y s j p h = absurd h
    owned_reaches t (letter o c) x y s j p h = absurd h
    owned_reaches t (union o a b) x y s j p (inl h) = owned_reaches t a x y s j (part_part p (union_left itself)) h
    owned_reaches t (union o a b) x y s j p (inr h) = owned_reaches t b (x + size a) y s j (part_part p (union_right itself)) h
    owned_reaches t (intersection o a b) x y s j p (inl h) =
        subst (λ (z : ℕ). Reaches w t (special z) i s j) (sym h.0)
        (⊎_elim (λ g. reached_reaches (part_part p (intersection_left itself)) (begin_left p) g)
        (λ g. reached_reaches (part_part p (intersection_right itself)) (begin_right p) g) h.1)
    owned_reaches t (intersection o a b) x y s j p (inr (inl h)) = owned_reaches t a x y s j (part_part p (intersection_left itself)) h
    owned_reaches t (intersection o a b) x y s j p (inr (inr h)) = owned_reaches t b (x + size a) y s j
        (part_part p (intersection_right itself)) h
    owned_reaches t (concatenation o a b) x y s j p (inl h) = owned_reaches t a x y s j (part_part p (concatenation_left itself)) h
    owned_reaches t (concatenation o a b) x y s j p (inr h) = owned_reaches t b (x + size a) y s j
        (part_part p (concatenation_right itself)) h
    owned_reaches t (complement o a) x y s j p (inl h) =
        subst (λ (z : ℕ). Reaches w t (special z) i s j) (sym h.0)
        (reached_reaches (part_part p (complement_inner itself)) (begin_inner p) h.1)
    owned_reaches t (complement o a) x y s j p (inr h) = owned_reaches t a x y s j (part_part p (complement_inner itself)) h
    owned_reaches t (star o a) x y s j p h = owned_reaches t a x y s j (part_part p (star_inner itself)) h

    pub walk_reaches : (t : Tree) (u : Owner) (s j : ℕ) → WalkOf w t u i s j → Reaches w t u i s j
    walk_reaches t whole s j h = reached_reaches itself begin_rule h
    walk_reaches t (special y) s j h = owned_reaches t t 0 y s j itself h

    -- 01: "A place is a state with a number j from 0 to n": no walk leads back before its start, nor past the word's end
    pub reaches_number : {t : Tree} {u : Owner} {s j : ℕ} → Reaches w t u i s j → (i ≤ j) × (j ≤ length w)
    reaches_number (begin b) = omega arith
    reaches_number (onward r m) = let h = reaches_number r in let k = node_number w m.move h.1 in omega arith

    -- 01: "A special owner's own exit is not among its places": all its states come before its node's own two
    pub reaches_below : {t : Tree} {y s j : ℕ} → Reaches w t (special y) i s j → s < 2 * y
    reaches_below {t} {y} {s} {j} r = (owned_below t 0 y s j (reaches_walk r)).1

    -- every state reached is one of the rule's 2 m
    walk_range : (t : Tree) (u : Owner) (s j : ℕ) → WalkOf w t u i s j → s < 2 * size t
    walk_range t whole s j h = omega (arith, reached_range t 0 s j h)
    walk_range t (special y) s j h = omega (arith, (owned_below t 0 y s j h).0)

    pub reaches_state : {t : Tree} {u : Owner} {s j : ℕ} → Reaches w t u i s j → s < 2 * size t
    reaches_state {t} {u} {s} {j} r = walk_range t u s j (reaches_walk r)

    -- from start i the exit of the rule is reached at j exactly if span (i, j) obeys
    pub reaches_exit : (t : Tree) (j : ℕ) → Reaches w t whole i (exit t 0) j ↔ Obeys w t i j
    reaches_exit t j = (
      λ r. (walked_exit w t 0 i j l).0 (reaches_walk r),
      λ o. walk_reaches t whole (exit t 0) j
          ((walked_exit w t 0 i j l).1 o),
    )
