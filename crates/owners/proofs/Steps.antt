-- A step of the automaton is a move of the rule, or several free ones; and each move is a step. Assumes nothing.
use mathlib.Core.Path.{◌≡◌, refl, sym, ap, ◌∙◌, subst}
use mathlib.Core.Bool.{true, false≢true}
use mathlib.Core.Logic.{inl, inr, ⊎_elim}
use mathlib.Core.List.{List}
use Prim.Native.Nat.{ℕ, suc, ◌+◌, ◌*◌, ◌/◌, ◌%◌, ◌≤◌, ◌<◌}
use native.Mathlib.Omega.{arith}
use lib.Dec.{T}
use lib.ListN.{length, get_or, replicate}
use Rattle.bits.specs.Bit.{bit_at}
use Rattle.bits.specs.Runs.{Adds}
use Rattle.bits.proofs.Laws.{zeros_bit}
use Rattle.event.specs.declared.sets.LetterSet.{LetterSet}
use Rattle.event.proofs.Tests.{T_of, of_T}
use Rattle.expression.specs.declared.Kind.{Kind}
use Rattle.expression.specs.declared.Node.{Node}
use Rattle.expression.specs.Tree.{Tree, empty, epsilon, letter, union, intersection, concatenation, complement, star, below, is_special}
use Rattle.moves.specs.Reached.{start, after}
use Rattle.moves.specs.Moves.{kind_at, special_kind, KindMove, RecordMove, FreeMove, fits_letter}
use Rattle.table.proofs.LayoutLaws.{held_span}
use Rattle.walk.specs.Course.{course_of, Step, LetterStep, SpanStep}
use Rattle.work.specs.Span.{Obeys}
use Rattle.work.specs.Walk.{entry, exit, Part, Fits, NodeMove, epsilon_through, letter_use, union_to_left, union_to_right, union_left_out}
use Rattle.work.specs.Walk.{union_right_out}
use Rattle.work.specs.Walk.{concatenation_in, concatenation_over, concatenation_out, star_in, star_skip, star_again, star_out}
use Rattle.work.specs.Walk.{intersection_span}
use Rattle.work.specs.Walk.{complement_span, RuleMove}
use Rattle.work.specs.Table.{HoldsBlock}
use Rattle.work.specs.TableComputed.{obeys}
use Rattle.work.proofs.TableLaws.{obeys_eq}
use Rattle.levels.specs.declared.automaton.Automaton.{Automaton}
use Rattle.owners.specs.Filling.{Recorded}
use Rattle.owners.specs.Parts.{part_at, SpecialAt}
use Rattle.owners.specs.Sides.{Left}
use Rattle.owners.specs.Blocks.{BlocksBelow}
use Rattle.owners.specs.Turns.{Setting}
use Rattle.owners.proofs.PartLaws.{kind_of, part_at_lem, Headed, headed, kind_is, special_is, part_within, part_kind, special_kind_lem}

-- a run that began as zeros has only what was added
pub added : {P : ℕ → Type 0} {b : List ℕ} (n q : ℕ) → Adds (replicate n 0) P b → bit_at b q ≡ true → P q
added n q h e = ⊎_elim (λ (z : bit_at (replicate n 0) q ≡ true). absurd (false≢true (sym (zeros_bit n q) ∙ z))) (λ z. z) (h.only q e)

module _ {t : Tree} {nodes : List Node} {m : ℕ} {lefts : List ℕ} {automaton : Automaton} {w : List ℕ} {numbers : ℕ} (S : Setting t nodes m lefts automaton w numbers) where
  recorded : Recorded t nodes m
  recorded = S.recorded

  few : m ≤ 64
  few = S.recorded.few

  -- ---- each step is a move
  -- one bit, one move
  free_is : {u : Tree} {x a b : ℕ} (j s s' : ℕ) → NodeMove w u x a j b j → s' < 128 → b < 128 → 128 * s + s' ≡ 128 * a + b
      → NodeMove w u x s j s' j
  free_is {u} {x} {a} {b} j s s' v h k e = let d : s ≡ a = omega arith in let d' : s' ≡ b = omega arith in rw (d, d') v

  -- a bit that a node's record brings is a move of the node
  kind_move : (u : Tree) (x l j s s' : ℕ) → Left u x l → x + below u < 64 → s' < 128 → KindMove (kind_of u) (x + below u) l (128 * s + s')
      → NodeMove w u x s j s' j
  kind_move (empty o) x l j s s' g k h e = absurd e
  kind_move (epsilon o) x l j s s' g k h e = free_is j s s' epsilon_through h (omega arith) (omega arith)
  kind_move (letter o c) x l j s s' g k h e = absurd e
  kind_move (union o a b) x l j s s' g k h (inl e) = free_is j s s' union_to_left h (omega arith) (omega arith)
  kind_move (union o a b) x l j s s' g k h (inr (inl e)) = free_is j s s' union_to_right h (omega arith) (omega arith)
  kind_move (union o a b) x l j s s' g k h (inr (inr (inl e))) = free_is j s s' union_left_out h (omega arith) (omega arith)
  kind_move (union o a b) x l j s s' g k h (inr (inr (inr e))) = free_is j s s' union_right_out h (omega arith) (omega arith)
  kind_move (intersection o a b) x l j s s' g k h e = absurd e
  kind_move (concatenation o a b) x l j s s' g k h (inl e) = free_is j s s' concatenation_in h (omega arith) (omega arith)
  kind_move (concatenation o a b) x l j s s' g k h (inr (inl e)) = free_is j s s' concatenation_over h (omega arith) (omega arith)
  kind_move (concatenation o a b) x l j s s' g k h (inr (inr e)) = free_is j s s' concatenation_out h (omega arith) (omega arith)
  kind_move (complement o a) x l j s s' g k h e = absurd e
  kind_move (star o a) x l j s s' g k h (inl e) = free_is j s s' star_in h (omega arith) (omega arith)
  kind_move (star o a) x l j s s' g k h (inr (inl e)) = free_is j s s' star_skip h (omega arith) (omega arith)
  kind_move (star o a) x l j s s' g k h (inr (inr (inl e))) = free_is j s s' star_again h (omega arith) (omega arith)
  kind_move (star o a) x l j s s' g k h (inr (inr (inr e))) = free_is j s s' star_out h (omega arith) (omega arith)

  -- the part that a record heads
  at_record : (y : ℕ) → y < m → Headed t y
  at_record y h = headed t y (omega (arith, recorded.long))

  -- a move of a record's part is the rule's
  part_move : {y s j s' n : ℕ} (h : Headed t y) → NodeMove w (part_at t y) h.first s j s' n → RuleMove w t 0 s j s' n
  part_move {y} h v = record { part = part_at t y; first = h.first; within = h.within; move = v }

  -- a single free move
  pub free_move : (s s' j : ℕ) → FreeMove S.built.moves.single s s' → RuleMove w t 0 s j s' j
  free_move s s' j f =
      let v = added 256 (128 * s + s') S.built.moves.moves f.move in
      let h = at_record v.node v.within in
      let l = subst (λ (y : ℕ). Left (part_at t v.node) h.first (get_or lefts y 0)) (sym h.root) (S.left _ h.first h.within) in
      part_move h
      (kind_move (part_at t v.node) h.first (get_or lefts v.node 0) j s s' l (omega (arith, h.root, v.within, few)) f.to
      (subst (λ (y : ℕ). KindMove (kind_of (part_at t v.node)) y (get_or lefts v.node 0) (128 * s + s')) h.root
      (subst (λ (k : Kind). KindMove k v.node (get_or lefts v.node 0) (128 * s + s')) (kind_is recorded v.node v.within)
      v.move)))

  -- a part whose kind fits the next event moves over it
  letter_of_lem : (u : Tree) (x j : ℕ) → fits_letter (kind_of u) (get_or w j 0) ≡ true → j < length w → NodeMove w u x (entry u x) j (exit u x) (suc j)
  letter_of_lem (empty o) x j e h = absurd (false≢true e)
  letter_of_lem (epsilon o) x j e h = absurd (false≢true e)
  letter_of_lem (letter o c) x j e h = letter_use h (T_of _ e)
  letter_of_lem (union o a b) x j e h = absurd (false≢true e)
  letter_of_lem (intersection o a b) x j e h = absurd (false≢true e)
  letter_of_lem (concatenation o a b) x j e h = absurd (false≢true e)
  letter_of_lem (complement o a) x j e h = absurd (false≢true e)
  letter_of_lem (star o a) x j e h = absurd (false≢true e)

  -- a special part moves over a span that obeys it
  span_of : (u : Tree) (x j n : ℕ) → T (is_special u) → Obeys w u j n → NodeMove w u x (entry u x) j (exit u x) n
  span_of (empty o) x j n h g = absurd h
  span_of (epsilon o) x j n h g = absurd h
  span_of (letter o c) x j n h g = absurd h
  span_of (union o a b) x j n h g = absurd h
  span_of (intersection o a b) x j n h g = intersection_span g
  span_of (concatenation o a b) x j n h g = absurd h
  span_of (complement o a) x j n h g = complement_span g
  span_of (star o a) x j n h g = absurd h

  -- a move from a node's entry to its exit, by its states
  through : {y : ℕ} (h : Headed t y) (p q j n : ℕ) → p % 128 ≡ 2 * y → q % 128 ≡ suc (2 * y) → p / 128 ≡ j → q / 128 ≡ n
      → NodeMove w (part_at t y) h.first (entry (part_at t y) h.first) j (exit (part_at t y) h.first) n
      → RuleMove w t 0 (p % 128) (p / 128) (q % 128) (q / 128)
  through {y} h p q j n a b c d v =
      let a' : p % 128 ≡ entry (part_at t y) h.first = omega (arith, a, h.root) in
      let b' : q % 128 ≡ exit (part_at t y) h.first = omega (arith, b, h.root) in
      rw (a', b', c, d) (part_move h v)

  -- a letter's step
  pub letter_move : (p q : ℕ) → LetterStep automaton.letters w p q → RuleMove w t 0 (p % 128) (p / 128) (q % 128) (q / 128)
  letter_move p q f =
      let c = get_or w (p / 128) 0 in
      let v = added 512 (128 * c + p % 128) S.built.letter f.event in
      let a : (128 * c + p % 128) % 128 ≡ p % 128 = omega arith in
      let b : (128 * c + p % 128) / 128 ≡ c = omega arith in
      let l : p % 128 / 2 < m = rw a at v.small in
      let k : fits_letter (kind_at nodes (p % 128 / 2)) c ≡ true = rw (a, b) at v.letter in
      let ev = v.even in
      let e = f.exit in
      let h = at_record (p % 128 / 2) l in
      let odd : p % 128 % 2 ≡ 0 = omega arith in
      through h p q (p / 128) (suc (p / 128)) (omega arith) (omega arith) refl (omega arith)
      (letter_of_lem (part_at t (p % 128 / 2)) h.first (p / 128) (rw (kind_is recorded (p % 128 / 2) l) at k) f.within)

  -- the special node of an entry
  pub special_entry : (s : ℕ) → bit_at automaton.specials s ≡ true → (s / 2 < m) × (s % 2 ≡ 0) × SpecialAt t (s / 2)
  special_entry s e =
      let v = added 2 s S.built.special e in
      (v.small, v.even, T_of (is_special (part_at t (s / 2))) (sym (special_is recorded (s / 2) v.small) ∙ v.special))

  -- a table that holds the blocks below node k
  module _ (lent : List ℕ) (k : ℕ) (done : BlocksBelow w lent t automaton.firsts k) where
    -- a special node's step
    pub span_move : (p q : ℕ) → p % 128 < 2 * k → SpanStep automaton.specials automaton.firsts lent (length w) p q
        → RuleMove w t 0 (p % 128) (p / 128) (q % 128) (q / 128)
    span_move p q z f =
        let (l, ev, s) = special_entry (p % 128) f.special in
        let u = part_at t (p % 128 / 2) in
        let h = at_record (p % 128 / 2) l in
        let e = f.exit in
        let g = held_span S.short (done (p % 128 / 2) (omega arith) s) (p / 128) (q / 128) f.from f.to in
        through h p q (p / 128) (q / 128) (omega arith) (omega arith) refl refl
        (span_of u h.first (p / 128) (q / 128) s
        ((obeys_eq w u (p / 128) (q / 128)).0 (T_of (obeys w u (p / 128) (q / 128)) (sym g ∙ f.span))))

    -- ---- each move is a step
    abbrev Stepping : ℕ → ℕ → Type 0
    Stepping = Step (course_of automaton w lent)

    free_step : {u : Tree} {x : ℕ} (s s' j : ℕ) → Part t 0 u x → s < 128 → s' < 128
        → KindMove (kind_of u) (x + below u) (get_or lefts (x + below u) 0) (128 * s + s') → Stepping (128 * j + s) (128 * j + s')
    free_step {u} {x} s s' j p a b h =
        let e : (128 * j + s) % 128 ≡ s = omega arith in
        let e' : (128 * j + s') % 128 ≡ s' = omega arith in
        let v : RecordMove nodes lefts m (128 * s + s') = record {
          node = x + below u;
          within = part_within recorded p;
          move = subst (λ (k : Kind). KindMove k (x + below u) (get_or lefts (x + below u) 0) (128 * s + s')) (sym (part_kind recorded p)) h;
        } in
        inl (record {
          number = omega arith;
          move = rw (e, e') (S.built.moves.closed.all s s' a
              (after (start refl) (record { from = a; to = b; move = S.built.moves.moves.new (128 * s + s') v })));
        })

    span_step : {u : Tree} {x : ℕ} (j n : ℕ) → Part t 0 u x → T (is_special u) → x + below u < k → Obeys w u j n
        → Stepping (128 * j + entry u x) (128 * n + exit u x)
    span_step {u} {x} j n p h l o =
        let z = part_within recorded p in
        let f = few in
        let e : (128 * j + entry u x) % 128 ≡ 2 * (x + below u) = omega arith in
        let d : (128 * j + entry u x) / 128 ≡ j = omega arith in
        let d' : (128 * n + exit u x) / 128 ≡ n = omega arith in
        let y : 2 * (x + below u) / 2 ≡ x + below u = omega arith in
        let low = o.order in
        let high = o.inside in
        let a : part_at t (x + below u) ≡ u = part_at_lem p in
        let b : HoldsBlock w u lent (get_or automaton.firsts (x + below u) 0) =
        subst (λ (v : Tree). HoldsBlock w v lent (get_or automaton.firsts (x + below u) 0)) a
        (done (x + below u) l (subst (λ (v : Tree). T (is_special v)) (sym a) h)) in
        let g = held_span S.short b j n low high ∙ of_T (obeys w u j n) ((obeys_eq w u j n).1 o) in
        inr (inr (record {
          exit = omega arith;
          from = rw (d, d') low;
          to = rw d' high;
          special = rw e (S.built.special.new (2 * (x + below u)) (record {
            small = rw y z;
            even = omega arith;
            special = rw y (ap special_kind (part_kind recorded p) ∙ special_kind_lem u ∙ of_T (is_special u) h);
          }));
          span = rw (e, y, d, d') g;
        }))

    letter_step : (o x j : ℕ) (c : LetterSet) → Part t 0 (letter o c) x → j < length w → Fits c (get_or w j 0)
        → Stepping (128 * j + entry (letter o c) x) (128 * suc j + exit (letter o c) x)
    letter_step o x j c p h g =
        let z = part_within recorded p in
        let f = few in
        let y = get_or w j 0 in
        let e : (128 * j + entry (letter o c) x) % 128 ≡ 2 * (x + below (letter o c)) = omega arith in
        let d : (128 * j + entry (letter o c) x) / 128 ≡ j = omega arith in
        let a : (128 * y + 2 * (x + below (letter o c))) % 128 / 2 ≡ x + below (letter o c) =
        let b : (128 * y + 2 * (x + below (letter o c))) % 128 ≡ 2 * (x + below (letter o c)) = omega arith in rw b (omega arith) in
        let b : (128 * y + 2 * (x + below (letter o c))) / 128 ≡ y = omega arith in
        inr (inl (record {
          exit = omega arith;
          within = rw d h;
          event = rw (d, e) (S.built.letter.new (128 * y + 2 * (x + below (letter o c))) (record {
            small = rw a z;
            even = omega arith;
            letter = rw (a, b, part_kind recorded p) (of_T _ g);
          }));
        }))

    node_step : {u : Tree} {x s j s' n : ℕ} → NodeMove w u x s j s' n → Part t 0 u x → s < 2 * k → Stepping (128 * j + s) (128 * n + s')
    node_step (epsilon_through {o} {x} {j}) p l =
        let z = part_within recorded p in let f = few in
        free_step _ _ j p (omega arith) (omega arith) (omega arith)
    node_step (letter_use {o} {x} {j} {c} h e) p l = letter_step o x j c p h e
    node_step (union_to_left {o} {x} {j} {a} {b}) p l =
        let z = part_within recorded p in let f = few in let g = S.left _ x p in
        free_step _ _ j p (omega arith) (omega arith) (inl (omega arith))
    node_step (union_to_right {o} {x} {j} {a} {b}) p l =
        let z = part_within recorded p in let f = few in let g = S.left _ x p in
        free_step _ _ j p (omega arith) (omega arith) (inr (inl (omega arith)))
    node_step (union_left_out {o} {x} {j} {a} {b}) p l =
        let z = part_within recorded p in let f = few in let g = S.left _ x p in
        free_step _ _ j p (omega arith) (omega arith) (inr (inr (inl (omega arith))))
    node_step (union_right_out {o} {x} {j} {a} {b}) p l =
        let z = part_within recorded p in let f = few in let g = S.left _ x p in
        free_step _ _ j p (omega arith) (omega arith) (inr (inr (inr (omega arith))))
    node_step (concatenation_in {o} {x} {j} {a} {b}) p l =
        let z = part_within recorded p in let f = few in let g = S.left _ x p in
        free_step _ _ j p (omega arith) (omega arith) (inl (omega arith))
    node_step (concatenation_over {o} {x} {j} {a} {b}) p l =
        let z = part_within recorded p in let f = few in let g = S.left _ x p in
        free_step _ _ j p (omega arith) (omega arith) (inr (inl (omega arith)))
    node_step (concatenation_out {o} {x} {j} {a} {b}) p l =
        let z = part_within recorded p in let f = few in let g = S.left _ x p in
        free_step _ _ j p (omega arith) (omega arith) (inr (inr (omega arith)))
    node_step (star_in {o} {x} {j} {a}) p l =
        let z = part_within recorded p in let f = few in
        free_step _ _ j p (omega arith) (omega arith) (inl (omega arith))
    node_step (star_skip {o} {x} {j} {a}) p l =
        let z = part_within recorded p in let f = few in
        free_step _ _ j p (omega arith) (omega arith) (inr (inl (omega arith)))
    node_step (star_again {o} {x} {j} {a}) p l =
        let z = part_within recorded p in let f = few in
        free_step _ _ j p (omega arith) (omega arith) (inr (inr (inl (omega arith))))
    node_step (star_out {o} {x} {j} {a}) p l =
        let z = part_within recorded p in let f = few in
        free_step _ _ j p (omega arith) (omega arith) (inr (inr (inr (omega arith))))
    node_step (intersection_span {o} {x} {j} {k = n} {a} {b} h) p l = span_step j n p tt (omega arith) h
    node_step (complement_span {o} {x} {j} {k = n} {a} h) p l = span_step j n p tt (omega arith) h

    -- every move from a state of the nodes below k
    pub move_step : {s j s' n : ℕ} → RuleMove w t 0 s j s' n → s < 2 * k → Stepping (128 * j + s) (128 * n + s')
    move_step v l = node_step v.move v.within l
