-- What At describes is closed under the moves; so every place that is reached is one of At's. Assumes nothing.
use mathlib.Core.Path.{◌≡◌, refl}
use mathlib.Core.Logic.{inl, inr}
use Prim.Native.Nat.{ℕ, ◌+◌, ◌≤◌}
use native.Mathlib.Omega.{arith}
use lib.ListN.{length}
use Rattle.event.specs.Event.{Word}
use Rattle.expression.specs.Tree.{Tree, epsilon, letter, union, intersection, concatenation, complement, star, size}
use Rattle.work.specs.Walk.{exit, Part, itself, union_left, union_right, intersection_left, intersection_right, concatenation_left}
use Rattle.work.specs.Walk.{concatenation_right, complement_inner, star_inner, NodeMove, epsilon_through, letter_use, union_to_left}
use Rattle.work.specs.Walk.{union_to_right, union_left_out, union_right_out, concatenation_in, concatenation_over, concatenation_out, star_in}
use Rattle.work.specs.Walk.{star_skip, star_again, star_out, intersection_span, complement_span}
use Rattle.work.proofs.At.{Exit, At}
use Rattle.work.proofs.Moves.{part_move_range}
use Rattle.work.proofs.Ranges.{own_range, at_entry, at_exit, at_left, at_right, at_inner}
use Rattle.work.proofs.Slices.{epsilon_obeys, letter_obeys, concatenation_obeys, star_none, star_more}
use Rattle.work.proofs.TreeWalk.{TreeWalk, start, step}

-- numbers of the word only
abbrev pub Bounded : Word → (ℕ → Type 0) → Type 0
Bounded w E = (k : ℕ) → E k → k ≤ length w

module _ (w : Word) where
  exit_bounded : (t : Tree) (E : ℕ → Type 0) → Bounded w (Exit w t E)
  exit_bounded t E k h = h.2.inside

  -- the two ways to come to an exit
  exit_union_left : (o : ℕ) (a b : Tree) (E : ℕ → Type 0) (k : ℕ) → Exit w a E k → Exit w (union o a b) E k
  exit_union_left o a b E k h = (h.0, h.1, record { order = h.2.order; inside = h.2.inside; word = inl h.2.word })

  exit_union_right : (o : ℕ) (a b : Tree) (E : ℕ → Type 0) (k : ℕ) → Exit w b E k → Exit w (union o a b) E k
  exit_union_right o a b E k h = (h.0, h.1, record { order = h.2.order; inside = h.2.inside; word = inr h.2.word })

  exit_concatenation : (o : ℕ) (a b : Tree) (E : ℕ → Type 0) (k : ℕ) → Exit w b (Exit w a E) k → Exit w (concatenation o a b) E k
  exit_concatenation o a b E k h = (h.1.0, h.1.1, concatenation_obeys w o a b h.1.0 h.0 k h.1.2 h.2)

  exit_star : (o : ℕ) (a : Tree) (E : ℕ → Type 0) (k : ℕ) → Exit w a (Exit w (star o a) E) k → Exit w (star o a) E k
  exit_star o a E k h = (h.1.0, h.1.1, star_more w o a h.1.0 h.0 k h.1.2 h.2)

  own_closed : {t : Tree} {x s j s' j' : ℕ} → NodeMove w t x s j s' j' → (E : ℕ → Type 0) → Bounded w E → At w t x E s j → At w t x E s' j'
  own_closed (epsilon_through {o} {x} {j}) E β h =
      let e = at_entry w (epsilon o) x E j h in inl (inr (refl, (j, e, epsilon_obeys w o j (β j e))))
  own_closed (letter_use {o} {x} {j} {c} l q) E β h =
      inl (inr (refl, (j, at_entry w (letter o c) x E j h, letter_obeys w o c j l q)))
  own_closed (union_to_left {o} {x} {j} {a} {b}) E β h = inr (inl (inl (inl (refl, at_entry w (union o a b) x E j h))))
  own_closed (union_to_right {o} {x} {j} {a} {b}) E β h = inr (inr (inl (inl (refl, at_entry w (union o a b) x E j h))))
  own_closed (union_left_out {o} {x} {j} {a} {b}) E β h =
      inl (inr (
        refl,
        exit_union_left o a b E j
            (at_exit w a x E j (at_left w (union o a b) a b x E E E (exit a x) j refl (omega arith) h)),
      ))
  own_closed (union_right_out {o} {x} {j} {a} {b}) E β h =
      inl (inr (
        refl,
        exit_union_right o a b E j
            (at_exit w b (x + size a) E j (at_right w (union o a b) a b x E E E (exit b (x + size a)) j refl (omega arith) h)),
      ))
  own_closed (concatenation_in {o} {x} {j} {a} {b}) E β h = inr (inl (inl (inl (refl, at_entry w (concatenation o a b) x E j h))))
  own_closed (concatenation_over {o} {x} {j} {a} {b}) E β h =
      inr (inr (inl (inl (
        refl,
        at_exit w a x E j
            (at_left w (concatenation o a b) a b x E E (Exit w a E) (exit a x) j refl (omega arith) h),
      ))))
  own_closed (concatenation_out {o} {x} {j} {a} {b}) E β h =
      inl (inr (
        refl,
        exit_concatenation o a b E j
            (at_exit w b (x + size a) (Exit w a E) j
            (at_right w (concatenation o a b) a b x E E (Exit w a E) (exit b (x + size a)) j refl (omega arith) h)),
      ))
  own_closed (star_in {o} {x} {j} {a}) E β h =
      let e = at_entry w (star o a) x E j h in inr (inl (inl (refl, (j, e, star_none w o a j (β j e)))))
  own_closed (star_skip {o} {x} {j} {a}) E β h =
      let e = at_entry w (star o a) x E j h in inl (inr (refl, (j, e, star_none w o a j (β j e))))
  own_closed (star_again {o} {x} {j} {a}) E β h =
      inr (inl (inl (
        refl,
        exit_star o a E j
            (at_exit w a x (Exit w (star o a) E) j (at_inner w (star o a) a x E (Exit w (star o a) E) (exit a x) j refl (omega arith) h)),
      )))
  own_closed (star_out {o} {x} {j} {a}) E β h =
      inl (inr (
        refl,
        exit_star o a E j
            (at_exit w a x (Exit w (star o a) E) j (at_inner w (star o a) a x E (Exit w (star o a) E) (exit a x) j refl (omega arith) h)),
      ))
  own_closed (intersection_span {o} {x} {j} {k} {a} {b} q) E β h = inl (inr (refl, (j, at_entry w (intersection o a b) x E j h, q)))
  own_closed (complement_span {o} {x} {j} {k} {a} q) E β h = inl (inr (refl, (j, at_entry w (complement o a) x E j h, q)))

  pub closed : {t u : Tree} {x y s j s' j' : ℕ} → Part t x u y → NodeMove w u y s j s' j' → (E : ℕ → Type 0) → Bounded w E → At w t x E s j
      → At w t x E s' j'
  closed itself m E β h = own_closed m E β h
  closed {s = s} {j = j} (union_left {o} {x} {a = a} {b = b} p) m E β h =
      inr (inl (closed p m E β (at_left w (union o a b) a b x E E E s j refl (part_move_range w p m) h)))
  closed {s = s} {j = j} (union_right {o} {x} {a = a} {b = b} p) m E β h =
      inr (inr (closed p m E β (at_right w (union o a b) a b x E E E s j refl (part_move_range w p m) h)))
  closed {s = s} {j = j} (intersection_left {o} {x} {a = a} {b = b} p) m E β (inl h) = absurd
      (omega (arith, part_move_range w p m, own_range w (intersection o a b) x E s j h))
  closed (intersection_left p) m E β (inr h) = absurd h
  closed {s = s} {j = j} (intersection_right {o} {x} {a = a} {b = b} p) m E β (inl h) = absurd
      (omega (arith, part_move_range w p m, own_range w (intersection o a b) x E s j h))
  closed (intersection_right p) m E β (inr h) = absurd h
  closed {s = s} {j = j} (concatenation_left {o} {x} {a = a} {b = b} p) m E β h =
      inr (inl (closed p m E β (at_left w (concatenation o a b) a b x E E (Exit w a E) s j refl (part_move_range w p m) h)))
  closed {s = s} {j = j} (concatenation_right {o} {x} {a = a} {b = b} p) m E β h =
      inr (inr (closed p m (Exit w a E) (exit_bounded a E)
      (at_right w (concatenation o a b) a b x E E (Exit w a E) s j refl (part_move_range w p m) h)))
  closed {s = s} {j = j} (complement_inner {o} {x} {a = a} p) m E β (inl h) = absurd
      (omega (arith, part_move_range w p m, own_range w (complement o a) x E s j h))
  closed (complement_inner p) m E β (inr h) = absurd h
  closed {s = s} {j = j} (star_inner {o} {x} {a = a} p) m E β h =
      inr (closed p m (Exit w (star o a) E) (exit_bounded (star o a) E)
      (at_inner w (star o a) a x E (Exit w (star o a) E) s j refl (part_move_range w p m) h))

  pub reached_at : {t : Tree} {x i s j : ℕ} → i ≤ length w → TreeWalk w t x i s j → At w t x (λ k. k ≡ i) s j
  reached_at l start = inl (inl (refl, refl))
  reached_at {i = i} l (step r m) = closed m.within m.move (λ k. k ≡ i) (λ k e. omega arith) (reached_at l r)
