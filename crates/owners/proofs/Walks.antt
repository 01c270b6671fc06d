-- What the steps of the automaton reach is what the owner's walk reaches. Assumes nothing.
use mathlib.Core.Path.{◌≡◌, sym, subst}
use mathlib.Core.Logic.{◌⊎◌, inl, inr, ⊎_elim, ◌↔◌}
use mathlib.Core.List.{List}
use Prim.Native.Nat.{ℕ, ◌+◌, ◌-◌, ◌*◌, ◌/◌, ◌%◌, ◌≤◌, ◌<◌}
use native.Mathlib.Omega.{arith}
use lib.ListN.{length}
use Rattle.event.specs.Event.{Word}
use Rattle.expression.specs.declared.Node.{Node}
use Rattle.expression.specs.Tree.{Tree, intersection, complement, below, size}
use Rattle.moves.specs.Reached.{Reached, start, after}
use Rattle.moves.specs.Moves.{Leads}
use Rattle.moves.proofs.Paths.{reached_from}
use Rattle.walk.specs.Course.{course_of, Step}
use Rattle.work.specs.Walk.{entry, exit, Part, itself, union_left, union_right, intersection_left, intersection_right, concatenation_left}
use Rattle.work.specs.Walk.{concatenation_right, complement_inner, star_inner, Owner, whole, special, Begins, begin_rule, begin_left}
use Rattle.work.specs.Walk.{begin_right}
use Rattle.work.specs.Walk.{begin_inner, Reaches, begin, onward}
use Rattle.work.proofs.Moves.{part_range, part_part, by_part}
use Rattle.work.proofs.TreeWalk as tree
use Rattle.work.proofs.TreeWalk.{TreeWalk}
use Rattle.work.proofs.Owners.{SpecialWalk, reached_range, reaches_walk, reaches_below, reaches_state}
use Rattle.work.proofs.WorkSize.{owner_range}
use Rattle.levels.specs.declared.automaton.Automaton.{Automaton}
use Rattle.owners.specs.Blocks.{BlocksBelow}
use Rattle.owners.specs.Turns.{Setting}
use Rattle.owners.proofs.Steps.{free_move, letter_move, span_move, move_step}

-- ---- the walk of a special node is over its own sides
module _ (w : Word) (i : ℕ) where
  -- of two sides by side, or of a node with one, the owner's walk is in the part that has its record
  of_part : {t u : Tree} {x z : ℕ} (y s j : ℕ) → Part t x u z → z ≤ y → y ≤ z + below u → SpecialWalk w t x y i s j
      → SpecialWalk w u z y i s j
  of_part y s j itself l k h = h
  of_part y s j (union_left {x = x} {a = a} {b = b} p) l k (inl h) = of_part y s j p l k h
  of_part y s j (union_left {x = x} {a = a} {b = b} p) l k (inr h) =
      absurd (omega (arith, part_range p, owner_range w b (x + size a) y i s j h))
  of_part y s j (union_right {x = x} {a = a} {b = b} p) l k (inl h) = absurd (omega (arith, part_range p, owner_range w a x y i s j h))
  of_part y s j (union_right {x = x} {a = a} {b = b} p) l k (inr h) = of_part y s j p l k h
  of_part y s j (intersection_left p) l k (inl h) = absurd (omega (arith, part_range p, h.0))
  of_part y s j (intersection_left p) l k (inr (inl h)) = of_part y s j p l k h
  of_part y s j (intersection_left {x = x} {a = a} {b = b} p) l k (inr (inr h)) =
      absurd (omega (arith, part_range p, owner_range w b (x + size a) y i s j h))
  of_part y s j (intersection_right p) l k (inl h) = absurd (omega (arith, part_range p, h.0))
  of_part y s j (intersection_right {x = x} {a = a} {b = b} p) l k (inr (inl h)) =
      absurd (omega (arith, part_range p, owner_range w a x y i s j h))
  of_part y s j (intersection_right p) l k (inr (inr h)) = of_part y s j p l k h
  of_part y s j (concatenation_left p) l k (inl h) = of_part y s j p l k h
  of_part y s j (concatenation_left {x = x} {a = a} {b = b} p) l k (inr h) =
      absurd (omega (arith, part_range p, owner_range w b (x + size a) y i s j h))
  of_part y s j (concatenation_right {x = x} {a = a} {b = b} p) l k (inl h) =
      absurd (omega (arith, part_range p, owner_range w a x y i s j h))
  of_part y s j (concatenation_right p) l k (inr h) = of_part y s j p l k h
  of_part y s j (complement_inner p) l k (inl h) = absurd (omega (arith, part_range p, h.0))
  of_part y s j (complement_inner p) l k (inr h) = of_part y s j p l k h
  of_part y s j (star_inner p) l k h = of_part y s j p l k h

  -- the walks of `&` are those over its two sides
  of_sides : {t : Tree} {o x s j : ℕ} {a b : Tree} → i ≤ length w → Part t 0 (intersection o a b) x
      → Reaches w t (special (x + below (intersection o a b))) i s j → TreeWalk w a x i s j ⊎ TreeWalk w b (x + size a) i s j
  of_sides {t} {o} {x} {s} {j} {a} {b} l p r =
      ⊎_elim (λ h. h.1)
      (λ k. ⊎_elim (λ h. absurd (omega (arith, owner_range w a x (x + below (intersection o a b)) i s j h)))
      (λ h. absurd (omega (arith, owner_range w b (x + size a) (x + below (intersection o a b)) i s j h))) k)
      (of_part (x + below (intersection o a b)) s j p (omega arith) (omega arith) (reaches_walk w i l r))

  -- the walk of `!` is that over its inner part
  of_inner : {t : Tree} {o x s j : ℕ} {a : Tree} → i ≤ length w → Part t 0 (complement o a) x
      → Reaches w t (special (x + below (complement o a))) i s j → TreeWalk w a x i s j
  of_inner {t} {o} {x} {s} {j} {a} l p r =
      ⊎_elim (λ h. h.1) (λ h. absurd (omega (arith, owner_range w a x (x + below (complement o a)) i s j h)))
      (of_part (x + below (complement o a)) s j p (omega arith) (omega arith) (reaches_walk w i l r))

-- ---- what the steps reach
module _ {t : Tree} {nodes : List Node} {m : ℕ} {lefts : List ℕ} {automaton : Automaton} {w : List ℕ} {numbers : ℕ} (S : Setting t nodes m lefts automaton w numbers)
    (lent : List ℕ) (k : ℕ) (done : BlocksBelow w lent t automaton.firsts k) (i : ℕ) (l : i ≤ length w) where
  abbrev Stepping : ℕ → ℕ → Type 0
  Stepping = Step (course_of automaton w lent)

  -- the owner's walk goes along with the steps, as long as its states are those of the nodes below k
  module _ (u : Owner) (low : (s j : ℕ) → Reaches w t u i s j → s < 2 * k) where
    -- over closed free moves, one by one
    along : (s s' j : ℕ) → Leads S.built.moves.single s s' → Reaches w t u i s j → Reaches w t u i s' j
    along s s' j (start e) r = subst (λ (z : ℕ). Reaches w t u i z j) (sym e) r
    along s s' j (after {p} d f) r = onward (along s p j d r) (free_move S p s' j f)

    on : (p q : ℕ) → Stepping p q → Reaches w t u i (p % 128) (p / 128) → Reaches w t u i (q % 128) (q / 128)
    on p q (inl f) r =
        subst (λ (n : ℕ). Reaches w t u i (q % 128) n) (sym f.number)
        (along (p % 128) (q % 128) (p / 128) (S.built.moves.closed.only (p % 128) (q % 128) (omega arith) (omega arith) f.move) r)
    on p q (inr (inl f)) r = onward r (letter_move S p q f)
    on p q (inr (inr f)) r = onward r (span_move S lent k done p q (low (p % 128) (p / 128) r) f)

    reaches : {X : ℕ → Type 0} {q : ℕ} → ((p : ℕ) → X p → Reaches w t u i (p % 128) (p / 128)) → Reached X Stepping q
        → Reaches w t u i (q % 128) (q / 128)
    reaches h (start {p} x) = h p x
    reaches h (after {p} {q} r s) = on p q s (reaches h r)

  -- the place of an entry
  at_entry : (a : Tree) (x p : ℕ) (u : Owner) → Part t 0 a x → p ≡ 128 * i + (exit a x - 1) → Begins t u (entry a x)
      → Reaches w t u i (p % 128) (p / 128)
  at_entry a x p u r e b =
      let z = part_range r in
      let f = S.recorded.few in
      let g = S.recorded.long in
      let c : p % 128 ≡ entry a x = omega arith in
      let d : p / 128 ≡ i = omega arith in
      rw (c, d) (begin b)

  -- the steps follow the walk over a part below k
  steps : {a : Tree} {x s j : ℕ} → Part t 0 a x → x + size a ≤ k → TreeWalk w a x i s j
      → Reached (λ (p : ℕ). p ≡ 128 * i + (exit a x - 1)) Stepping (128 * j + s)
  steps {a} {x} p h tree.start = let e : 128 * i + entry a x ≡ 128 * i + (exit a x - 1) = omega arith in start e
  steps {a} {x} p h (tree.step {s} {j} r v) =
      after (steps p h r) (move_step S lent k done (by_part w p v) (omega (arith, reached_range w i l a x s j r)))

  steps_to : {a : Tree} {x q : ℕ} → Part t 0 a x → x + size a ≤ k → TreeWalk w a x i (q % 128) (q / 128)
      → Reached (λ (p : ℕ). p ≡ 128 * i + (exit a x - 1)) Stepping q
  steps_to {a} {x} {q} p h r =
      let e : 128 * (q / 128) + q % 128 ≡ q = omega arith in
      subst (Reached (λ (p : ℕ). p ≡ 128 * i + (exit a x - 1)) Stepping) e (steps p h r)

-- ---- the three owners
module _ {t : Tree} {nodes : List Node} {m : ℕ} {lefts : List ℕ} {automaton : Automaton} {w : List ℕ} {numbers : ℕ} (S : Setting t nodes m lefts automaton w numbers)
    (lent : List ℕ) (i : ℕ) (l : i ≤ length w) where
  -- the place q is reached by the automaton's steps from the entries before the exits x and y
  abbrev pub Walked : (x y q : ℕ) → Type 0
  Walked x y q = Reached (λ (p : ℕ). (p ≡ 128 * i + (x - 1)) ⊎ (p ≡ 128 * i + (y - 1))) (Step (course_of automaton w lent)) q

  pub whole_reached : BlocksBelow w lent t automaton.firsts (size t) → (q : ℕ)
      → Walked (exit t 0) (exit t 0) q ↔ TreeWalk w t 0 i (q % 128) (q / 128)
  whole_reached done q = (
    λ r. reaches_walk w i l (reaches S lent (size t) done i l whole (λ s j z. reaches_state w i l z)
        (λ p x. at_entry S lent (size t) done i l t 0 p whole itself (⊎_elim (λ e. e) (λ e. e) x) begin_rule) r),
    λ r. reached_from (λ p e. start (inl e)) (steps_to S lent (size t) done i l itself (omega arith) r),
  )

  pub complement_reached : (o x : ℕ) (a : Tree) → Part t 0 (complement o a) x
      → BlocksBelow w lent t automaton.firsts (x + below (complement o a)) → (q : ℕ)
      → Walked (exit a x) (exit a x) q ↔ TreeWalk w a x i (q % 128) (q / 128)
  complement_reached o x a p done q =
      let y = x + below (complement o a) in
      let c = part_part p (complement_inner itself) in (
        λ r. of_inner w i l p (reaches S lent y done i l (special y) (λ s j z. reaches_below w i l z)
            (λ n z. at_entry S lent y done i l a x n (special y) c (⊎_elim (λ e. e) (λ e. e) z) (begin_inner p)) r),
        λ r. reached_from (λ p e. start (inl e)) (steps_to S lent y done i l c (omega arith) r),
      )

  pub intersection_reached : (o x : ℕ) (a b : Tree) → Part t 0 (intersection o a b) x
      → BlocksBelow w lent t automaton.firsts (x + below (intersection o a b)) → (q : ℕ) → Walked (exit a x) (exit b (x + size a)) q
      ↔ (TreeWalk w a x i (q % 128) (q / 128) ⊎ TreeWalk w b (x + size a) i (q % 128) (q / 128))
  intersection_reached o x a b p done q =
      let y = x + below (intersection o a b) in
      let c = part_part p (intersection_left itself) in
      let d = part_part p (intersection_right itself) in (
        λ r. of_sides w i l p (reaches S lent y done i l (special y) (λ s j z. reaches_below w i l z)
            (λ n z. ⊎_elim (λ e. at_entry S lent y done i l a x n (special y) c e (begin_left p))
            (λ e. at_entry S lent y done i l b (x + size a) n (special y) d e (begin_right p)) z) r),
        λ r. ⊎_elim (λ z. reached_from (λ p e. start (inl e)) (steps_to S lent y done i l c (omega arith) z))
            (λ z. reached_from (λ p e. start (inr e)) (steps_to S lent y done i l d (omega arith) z)) r,
      )
