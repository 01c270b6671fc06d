-- What is closed under the moves and holds the entries holds all of At's places. Assumes nothing.
use mathlib.Core.Path.{sym, subst}
use mathlib.Core.Logic.{◌⊎◌, inl, inr}
use Prim.Native.Nat.{ℕ, zero, suc, ◌+◌, ◌≤◌}
use native.Mathlib.Omega.{arith}
use lib.ListN.{length}
use lib.Seq.{slice}
use Rattle.event.specs.Event.{Word}
use Rattle.expression.specs.Tree.{Tree, empty, epsilon, letter, union, intersection, concatenation, complement, star, size}
use Rattle.expression.specs.Lang.{Power, Lang}
use Rattle.work.specs.Span.{Obeys}
use Rattle.work.specs.Walk.{entry, exit, Part, itself, union_left, union_right, concatenation_left, concatenation_right, star_inner, NodeMove}
use Rattle.work.specs.Walk.{epsilon_through, letter_use, union_to_left, union_to_right, union_left_out, union_right_out, concatenation_in}
use Rattle.work.specs.Walk.{concatenation_over, concatenation_out, star_in, star_skip, star_again, star_out, intersection_span, complement_span}
use Rattle.work.specs.Walk.{RuleMove, Fits}
use Rattle.work.proofs.At.{Exit, Own, Under, At}
use Rattle.work.proofs.Moves.{by_root, by_part}
use Rattle.work.proofs.Slices.{split_span, slice_nil, one_slice, obeys_concatenation}

module _ (w : Word) (R : ℕ → ℕ → Type 0) where
  abbrev pub Closed : Tree → ℕ → Type 0
  Closed t x = (s j s' j' : ℕ) → RuleMove w t x s j s' j' → R s j → R s' j'

  -- by a root's move
  move_on : {t : Tree} {x s j s' j' : ℕ} → Closed t x → NodeMove w t x s j s' j' → R s j → R s' j'
  move_on {s = s} {j = j} {s' = s'} {j' = j'} c m r = c s j s' j' (by_root w m) r

  -- what is closed under a tree's moves is closed under its parts'
  part_closed : {t u : Tree} {x y : ℕ} → Part t x u y → Closed t x → Closed u y
  part_closed p c s j s' j' m = c s j s' j' (by_part w p m)

  -- from entry to exit along every span that obeys
  abbrev Through : Tree → ℕ → Type 0
  Through t x = (j k : ℕ) → Obeys w t j k → R (entry t x) j → R (exit t x) k

  -- around a star, back to the inner entry
  around : (o : ℕ) (a : Tree) (x : ℕ) → Closed (star o a) x → Through a x
      → (i j k : ℕ) → j ≤ k → k ≤ length w → Power (Lang a) i (slice j k w) → R (entry (star o a) x) j → R (entry a x) k
  around o a x c th zero j k p q e r = rw (slice_nil w j k p q e) (move_on c star_in r)
  around o a x c th (suc i) j k p q h r =
      let (u, v, e, hu, hv) = h in
      let d = split_span w j k u v p q e in
      let l : d.mid ≤ length w = omega (arith, d.high) in
      let m : R (entry a x) d.mid = around o a x c th i j d.mid d.low l (rw d.left hu) r in
      move_on c star_again (th d.mid k (record { order = d.high; inside = q; word = rw d.right hv }) m)

  through_star : (o : ℕ) (a : Tree) (x : ℕ) → Closed (star o a) x → Through a x
      → (i j k : ℕ) → j ≤ k → k ≤ length w → Power (Lang a) i (slice j k w) → R (entry (star o a) x) j → R (exit (star o a) x) k
  through_star o a x c th zero j k p q e r = rw (slice_nil w j k p q e) (move_on c star_skip r)
  through_star o a x c th (suc i) j k p q h r =
      let (u, v, e, hu, hv) = h in
      let d = split_span w j k u v p q e in
      let l : d.mid ≤ length w = omega (arith, d.high) in
      let m : R (entry a x) d.mid = around o a x c th i j d.mid d.low l (rw d.left hu) r in
      move_on c star_out (th d.mid k (record { order = d.high; inside = q; word = rw d.right hv }) m)

  through_union : (o : ℕ) (a b : Tree) (x : ℕ) → Closed (union o a b) x → Through a x → Through b (x + size a) → (j k : ℕ) → j ≤ k
      → k ≤ length w → Lang a (slice j k w) ⊎ Lang b (slice j k w) → R (entry (union o a b) x) j → R (exit (union o a b) x) k
  through_union o a b x c p q j k l m (inl h) r = move_on c union_left_out
      (p j k (record { order = l; inside = m; word = h }) (move_on c union_to_left r))
  through_union o a b x c p q j k l m (inr h) r = move_on c union_right_out
      (q j k (record { order = l; inside = m; word = h }) (move_on c union_to_right r))

  pub through : (t : Tree) (x : ℕ) → Closed t x → Through t x
  through (empty o) x c j k h r = absurd h.word
  through (epsilon o) x c j k h r = rw (slice_nil w j k h.order h.inside h.word) (move_on c epsilon_through r)
  through (letter o l) x c j k h r =
      let (y, e, f) = h.word in
      let p = one_slice w j k y h.order h.inside e in
      rw p.0 (move_on c (letter_use (omega (arith, h.inside, p.0)) (subst (Fits l) (sym p.1) f)) r)
  through (union o a b) x c j k h r =
      through_union o a b x c (through a x (part_closed (union_left itself) c))
      (through b (x + size a) (part_closed (union_right itself) c))
      j k h.order h.inside h.word r
  through (intersection o a b) x c j k h r = move_on c (intersection_span {a = a} {b = b} h) r
  through (concatenation o a b) x c j k h r =
      let (l, p, q) = obeys_concatenation w o a b j k h in
      move_on c concatenation_out (through b (x + size a) (part_closed (concatenation_right itself) c) l k q
      (move_on c concatenation_over (through a x (part_closed (concatenation_left itself) c) j l p (move_on c concatenation_in r))))
  through (star o a) x c j k h r =
      through_star o a x c (through a x (part_closed (star_inner itself) c)) h.word.0 j k h.order h.inside h.word.1 r
  through (complement o a) x c j k h r = move_on c (complement_span h) r

  abbrev Holds : Tree → ℕ → (ℕ → Type 0) → Type 0
  Holds t x E = (j : ℕ) → E j → R (entry t x) j

  own_in : (t : Tree) (x : ℕ) → Closed t x → (E : ℕ → Type 0) → Holds t x E → (s j : ℕ) → Own w t x E s j → R s j
  own_in t x c E p s j (inl h) = rw h.0 (p j h.1)
  own_in t x c E p s j (inr h) = rw h.0 (through t x c h.1.0 j h.1.2 (p h.1.0 h.1.1))

  -- the exits of a part, from the entries of the part
  exits_in : (t : Tree) (x : ℕ) → Closed t x → (E : ℕ → Type 0) → Holds t x E → (j : ℕ) → Exit w t E j → R (exit t x) j
  exits_in t x c E p j h = through t x c h.0 j h.2 (p h.0 h.1)

  -- the inner entries of a star
  inner : (o : ℕ) (a : Tree) (x : ℕ) → Closed (star o a) x → (E : ℕ → Type 0) → Holds (star o a) x E → Holds a x (Exit w (star o a) E)
  inner o a x c E p j h =
      around o a x c (through a x (part_closed (star_inner itself) c)) h.2.word.0 h.0 j h.2.order h.2.inside h.2.word.1
      (p h.0 h.1)

  under_in : (t : Tree) (x : ℕ) → Closed t x → (E : ℕ → Type 0) → Holds t x E → (s j : ℕ) → Under w t x E s j → R s j
  under_in (empty o) x c E p s j h = absurd h
  under_in (epsilon o) x c E p s j h = absurd h
  under_in (letter o l) x c E p s j h = absurd h
  under_in (union o a b) x c E p s j (inl (inl h)) = own_in a x (part_closed (union_left itself) c) E
      (λ j e. move_on c union_to_left (p j e)) s j h
  under_in (union o a b) x c E p s j (inl (inr h)) = under_in a x (part_closed (union_left itself) c) E
      (λ j e. move_on c union_to_left (p j e)) s j h
  under_in (union o a b) x c E p s j (inr (inl h)) = own_in b (x + size a) (part_closed (union_right itself) c) E
      (λ j e. move_on c union_to_right (p j e)) s j h
  under_in (union o a b) x c E p s j (inr (inr h)) = under_in b (x + size a) (part_closed (union_right itself) c) E
      (λ j e. move_on c union_to_right (p j e)) s j h
  under_in (intersection o a b) x c E p s j h = absurd h
  under_in (concatenation o a b) x c E p s j (inl (inl h)) = own_in a x (part_closed (concatenation_left itself) c) E
      (λ j e. move_on c concatenation_in (p j e)) s j h
  under_in (concatenation o a b) x c E p s j (inl (inr h)) = under_in a x (part_closed (concatenation_left itself) c) E
      (λ j e. move_on c concatenation_in (p j e)) s j h
  under_in (concatenation o a b) x c E p s j (inr (inl h)) =
      own_in b (x + size a) (part_closed (concatenation_right itself) c) (Exit w a E)
      (λ j e. move_on c concatenation_over
      (exits_in a x (part_closed (concatenation_left itself) c) E (λ j e. move_on c concatenation_in (p j e)) j e)) s j h
  under_in (concatenation o a b) x c E p s j (inr (inr h)) =
      under_in b (x + size a) (part_closed (concatenation_right itself) c) (Exit w a E)
      (λ j e. move_on c concatenation_over
      (exits_in a x (part_closed (concatenation_left itself) c) E (λ j e. move_on c concatenation_in (p j e)) j e)) s j h
  under_in (star o a) x c E p s j (inl h) = own_in a x (part_closed (star_inner itself) c) (Exit w (star o a) E) (inner o a x c E p) s j h
  under_in (star o a) x c E p s j (inr h) = under_in a x (part_closed (star_inner itself) c) (Exit w (star o a) E) (inner o a x c E p) s j h
  under_in (complement o a) x c E p s j h = absurd h

  pub at_in : (t : Tree) (x : ℕ) → Closed t x → (E : ℕ → Type 0) → Holds t x E → (s j : ℕ) → At w t x E s j → R s j
  at_in t x c E p s j (inl h) = own_in t x c E p s j h
  at_in t x c E p s j (inr h) = under_in t x c E p s j h
