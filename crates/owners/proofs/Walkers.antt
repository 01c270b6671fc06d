-- What the block of an owner comes to: its spans are those of its part, and its count is that of its walks. Assumes nothing.
use mathlib.Core.Path.{◌≡◌, refl, sym, ap, ◌∙◌, subst}
use mathlib.Core.Bool.{Bool, true, false, false≢true}
use mathlib.Core.Logic.{◌⊎◌, inl, inr, ⊎_elim, ◌↔◌}
use mathlib.Core.List.{List}
use Prim.Native.Nat.{ℕ, ◌+◌, ◌*◌, ◌/◌, ◌%◌, ◌≤◌, ◌<◌}
use native.Mathlib.Omega.{arith}
use lib.Dec.{T}
use lib.ListN.{length, get_or}
use Rattle.bits.specs.Bit.{bit_at}
use Rattle.bits.specs.Runs.{tally_below}
use Rattle.event.proofs.Tests.{same_test}
use Rattle.expression.specs.declared.Node.{Node}
use Rattle.expression.specs.Tree.{Tree, intersection, complement, below, size, is_special}
use Rattle.moves.specs.Reached.{Reached}
use Rattle.table.proofs.LayoutLaws.{holds_block}
use Rattle.marks.specs.declared.target.Target.{Target}
use Rattle.walk.specs.Course.{Course, course_of, Step}
use Rattle.marks.specs.Marks.{StartsAt}
use Rattle.marks.specs.Rows.{decide, judged}
use Rattle.walk.specs.Filled.{Apart, Filled}
use Rattle.work.specs.Walk.{exit, Part, itself, intersection_left, intersection_right, complement_inner, Owner, whole, special}
use Rattle.work.specs.SizeOf.{SizeOf}
use Rattle.work.specs.Count.{sum_to, places}
use Rattle.work.specs.Table.{HoldsBlock}
use Rattle.work.specs.TableComputed.{obeys}
use Rattle.work.proofs.Moves.{Within, part_range, part_part, node_number}
use Rattle.work.proofs.TableLaws.{obeys_eq}
use Rattle.work.proofs.TreeWalk as tree
use Rattle.work.proofs.TreeWalk.{TreeWalk}
use Rattle.work.proofs.Walked.{walked_exit}
use Rattle.work.proofs.WalkSize.{Of, of_sum, places_size}
use Rattle.work.proofs.Owners.{reached_range}
use Rattle.levels.specs.declared.automaton.Automaton.{Automaton}
use Rattle.owners.specs.Blocks.{BlocksApart, WholeApart, BlocksBelow}
use Rattle.owners.specs.Turns.{Setting}
use Rattle.owners.proofs.PartLaws.{part_at_lem}
use Rattle.owners.proofs.Steps.{special_entry}
use Rattle.owners.proofs.Walks.{whole_reached, complement_reached, intersection_reached}
use Rattle.owners.proofs.Counting.{count_most, count_exact, visits_are, visits_most}
use Rattle.owners.proofs.SideSpans.{intersection_obeys, complement_obeys}

both_ended : (a b : Bool) → T (decide a b false) ↔ ((a ≡ true) × (b ≡ true))
both_ended true true = (λ h. (refl, refl), λ h. tt)
both_ended true false = (λ h. absurd h, λ h. absurd (false≢true h.1))
both_ended false b = (λ h. absurd h, λ h. absurd (false≢true h.0))

not_ended : (a : Bool) → T (decide a a true) ↔ (a ≡ true → ⊥)
not_ended true = (λ h e. h, λ h. h refl)
not_ended false = (λ h e. false≢true e, λ h. tt)

-- the exit of a node
abbrev pub Bound : ℕ → Type 0
Bound x = x < 128

-- what an owner's walks fill, by its parts
abbrev pub target_of : (first left right : ℕ) (complement : Bool) → Bound left → Bound right → Target
target_of f x y c l r = record { first = f; left = x; right = y; complement = c; left_bound = l; right_bound = r }

-- ---- an owner: what its walks reach, how many places those are, and what their marks say of the spans
pub record Walker (g : Course) (o : Target) (v : Tree) (c : ℕ → ℕ) : Type 1 where
  pub owner : Owner
  pub reach : ℕ → ℕ → ℕ → Type 0
  pub many : (i : ℕ) → i ≤ length g.word → SizeOf (Of owner i (reach i)) (c i)
  pub bound : (i s j : ℕ) → i ≤ length g.word → reach i s j → (s < 128) × (j ≤ length g.word)
  pub same : (i q : ℕ) → i ≤ length g.word → Reached (StartsAt o i) (Step g) q ↔ reach i (q % 128) (q / 128)
  pub spans : (marks : List ℕ) (i j : ℕ) → i ≤ j → j ≤ length g.word
      → ((q : ℕ) → (bit_at marks q ≡ true) ↔ reach i (q % 128) (q / 128)) → judged marks o j ≡ obeys g.word v i j

module _ {g : Course} {o : Target} {v : Tree} {c : ℕ → ℕ} (k : Walker g o v c) {count limit : ℕ} {b : List ℕ} {d : ℕ} {spent : Bool}
    (f : Filled g o count limit b d spent) where
  marks_most : (i : ℕ) → i ≤ length g.word → tally_below (128 * (length g.word + 1)) (bit_at (f.marks i)) ≤ c i
  marks_most i l =
      count_most k.owner i (length g.word) (c i) (k.reach i) (k.many i l) (f.marks i) (λ q e. (k.same i q l).0 (f.only i q e))

  -- where the limit is reached, the walks have more places
  pub filled_over : spent ≡ true → limit < count + sum_to (length g.word) c
  filled_over s =
      let a = f.over s in
      omega (arith, a.1, visits_most f.marks c (length g.word) f.stop a.0 marks_most)

  module _ (s : spent ≡ false) where
    all : (i : ℕ) → i ≤ length g.word → (q : ℕ) → (bit_at (f.marks i) q ≡ true) ↔ k.reach i (q % 128) (q / 128)
    all i l q = (λ e. (k.same i q l).0 (f.only i q e), λ z. f.all i q (omega (arith, f.finished s)) ((k.same i q l).1 z))

    marks_are : (i : ℕ) → i ≤ length g.word → tally_below (128 * (length g.word + 1)) (bit_at (f.marks i)) ≡ c i
    marks_are i l =
        count_exact k.owner i (length g.word) (c i) (k.reach i) (k.many i l) (f.marks i) (λ q e. (all i l q).0 e)
        (λ s j z. k.bound i s j l z) (λ q z. (all i l q).1 z)

    -- where it is not, each place is counted once
    pub filled_counted : d ≡ count + sum_to (length g.word) c
    filled_counted = f.counted s ∙ ap (count +◌) (visits_are f.marks c (length g.word) marks_are)

    -- and the block is that of the owner's part
    pub filled_block : length g.word ≤ 255 → HoldsBlock g.word v b o.first
    filled_block short =
        holds_block short
        (λ i j l h.
        f.rows i j (omega (arith, f.finished s)) l h ∙ k.spans (f.marks i) i j l h (all i (omega arith)))
        (λ q l e. (f.others q l e).0)

-- ---- the three owners
module _ {t : Tree} {nodes : List Node} {m : ℕ} {lefts : List ℕ} {automaton : Automaton} {w : List ℕ} {numbers : ℕ} (S : Setting t nodes m lefts automaton w numbers)
    (lent : List ℕ) where
  abbrev A : Course
  A = course_of automaton w lent

  walk_number : {a : Tree} {x i s j : ℕ} → i ≤ length w → TreeWalk w a x i s j → j ≤ length w
  walk_number l tree.start = l
  walk_number l (tree.step r v) = (node_number w v.move (walk_number l r)).1

  -- the states and numbers of a walk over a part
  side_bound : (a : Tree) (x i s j : ℕ) → Part t 0 a x → i ≤ length w → TreeWalk w a x i s j → (s < 128) × (j ≤ length w)
  side_bound a x i s j p h r =
      let z = reached_range w i h a x s j r in
      let b = part_range p in
      let c = S.recorded.few in
      let d = S.recorded.long in
      (omega (arith, z.1), walk_number h r)

  -- the mark at a part's exit
  exit_mark : (a : Tree) (x j : ℕ) (marks : List ℕ) (X : ℕ → ℕ → Type 0) → Part t 0 a x
      → ((q : ℕ) → (bit_at marks q ≡ true) ↔ X (q % 128) (q / 128)) → (bit_at marks (128 * j + exit a x) ≡ true) ↔ X (exit a x) j
  exit_mark a x j marks X p h =
      let b = part_range p in
      let c = S.recorded.few in
      let f = S.recorded.long in
      let e : (128 * j + exit a x) % 128 ≡ exit a x = omega arith in
      let d : (128 * j + exit a x) / 128 ≡ j = omega arith in
      let z = h (128 * j + exit a x) in (
        λ k. subst (λ s. X s j) e (subst (λ n. X ((128 * j + exit a x) % 128) n) d (z.0 k)),
        λ k. z.1 (subst (λ s. X s ((128 * j + exit a x) / 128)) (sym e) (subst (λ n. X (exit a x) n) (sym d) k)),
      )

  pub whole_walker : (first : ℕ) (l r : Bound (exit t 0)) → BlocksBelow w lent t automaton.firsts (size t)
      → Walker A (target_of first (exit t 0) (exit t 0) false l r) t (places w t)
  whole_walker first _ _ done = record {
    owner = whole;
    reach = λ i s j. TreeWalk w t 0 i s j;
    many = λ i h. places_size w whole i t 0 h;
    bound = λ i s j h r. side_bound t 0 i s j itself h r;
    same = λ i q h. whole_reached S lent i h done q;
    spans = λ marks i j l h e.
        let z = exit_mark t 0 j marks (TreeWalk w t 0 i) itself e in
        let o = walked_exit w t 0 i j (omega arith) in
        let m = bit_at marks (128 * j + exit t 0) in
        let d = both_ended m m in
        same_test (decide m m false) (obeys w t i j)
        (λ r. (obeys_eq w t i j).1 (o.0 (z.0 (d.0 r).0)))
        (λ r. let b = z.1 (o.1 ((obeys_eq w t i j).0 r)) in d.1 (b, b));
  }

  pub complement_walker : (first o x : ℕ) (a : Tree) (l r : Bound (exit a x)) → Part t 0 (complement o a) x
      → BlocksBelow w lent t automaton.firsts (x + below (complement o a))
      → Walker A (target_of first (exit a x) (exit a x) true l r) (complement o a) (places w a)
  complement_walker first o x a _ _ p done = record {
    owner = special (x + below (complement o a));
    reach = λ i s j. TreeWalk w a x i s j;
    many = λ i h. places_size w (special (x + below (complement o a))) i a x h;
    bound = λ i s j h r. side_bound a x i s j (part_part p (complement_inner itself)) h r;
    same = λ i q h. complement_reached S lent i h o x a p done q;
    spans = λ marks i j l h e.
        let z = exit_mark a x j marks (TreeWalk w a x i) (part_part p (complement_inner itself)) e in
        let r = complement_obeys w o x i j a (omega arith) S.events in
        let m = bit_at marks (128 * j + exit a x) in
        let d = not_ended m in
        same_test (decide m m true) (obeys w (complement o a) i j)
        (λ k. (obeys_eq w (complement o a) i j).1 (r.1 (l, h, λ q. d.0 k (z.1 q))))
        (λ k. let u = r.0 ((obeys_eq w (complement o a) i j).0 k) in d.1 (λ q. u.2 (z.0 q)));
  }

  pub intersection_walker : (first o x : ℕ) (a b : Tree) (l : Bound (exit a x)) (r : Bound (exit b (x + size a)))
      → Part t 0 (intersection o a b) x → BlocksBelow w lent t automaton.firsts (x + below (intersection o a b))
      → Walker A (target_of first (exit a x) (exit b (x + size a)) false l r) (intersection o a b) (λ i. places w a i + places w b i)
  intersection_walker first o x a b _ _ p done =
      let u = special (x + below (intersection o a b)) in
      let c = part_part p (intersection_left itself) in
      let d = part_part p (intersection_right itself) in
      record {
        owner = special (x + below (intersection o a b));
        reach = λ i s j. TreeWalk w a x i s j ⊎ TreeWalk w b (x + size a) i s j;
        many = λ i h.
            of_sum u i (TreeWalk w a x i) (TreeWalk w b (x + size a) i) (places w a i) (places w b i)
            (λ s j y z. omega (arith, reached_range w i h a x s j y, reached_range w i h b (x + size a) s j z))
            (places_size w u i a x h) (places_size w u i b (x + size a) h);
        bound = λ i s j h r. ⊎_elim (λ z. side_bound a x i s j c h z) (λ z. side_bound b (x + size a) i s j d h z) r;
        same = λ i q h. intersection_reached S lent i h o x a b p done q;
        spans = λ marks i j l n e.
            let h : i ≤ length w = omega arith in
            let X : ℕ → ℕ → Type 0 = λ s n. TreeWalk w a x i s n ⊎ TreeWalk w b (x + size a) i s n in
            let y = exit_mark a x j marks X c e in
            let z = exit_mark b (x + size a) j marks X d e in
            let r = intersection_obeys w o x i j a h b (x + size a) in
            let f = both_ended (bit_at marks (128 * j + exit a x)) (bit_at marks (128 * j + exit b (x + size a))) in
            same_test (decide (bit_at marks (128 * j + exit a x)) (bit_at marks (128 * j + exit b (x + size a))) false)
            (obeys w (intersection o a b) i j)
            (λ k. let v = f.0 k in
            (obeys_eq w (intersection o a b) i j).1 (r.1 (
              ⊎_elim (λ q. q) (λ q. absurd (omega (arith, reached_range w i h b (x + size a) (exit a x) j q))) (y.0 v.0),
              ⊎_elim (λ q. absurd (omega (arith, reached_range w i h a x (exit b (x + size a)) j q))) (λ q. q) (z.0 v.1),
            )))
            (λ k. let v = r.0 ((obeys_eq w (intersection o a b) i j).0 k) in f.1 (y.1 (inl v.0), z.1 (inr v.1)));
      }

  -- ---- an owner's own block is none of those that its walks go by
  inside_apart : (u : Tree) (x s : ℕ) → Part t 0 u x → T (is_special u) → Within x (x + below u) s → bit_at automaton.specials s ≡ true
      → BlocksApart (length w) (get_or automaton.firsts (s / 2) 0) (get_or automaton.firsts (x + below u) 0)
  inside_apart u x s p h l e =
      let (k, ev, v) = special_entry S s e in
      S.spaced.apart (s / 2) (x + below u) (omega arith) v (subst (λ (c : Tree). T (is_special c)) (sym (part_at_lem p)) h)

  pub complement_apart : (o x : ℕ) (a : Tree) (l r : Bound (exit a x)) → Part t 0 (complement o a) x
      → BlocksBelow w lent t automaton.firsts (x + below (complement o a))
      → Apart A (target_of (get_or automaton.firsts (x + below (complement o a)) 0) (exit a x) (exit a x) true l r)
  complement_apart o x a _ _ p done i q h r e =
      let z = reached_range w i h a x (q % 128) (q / 128) ((complement_reached S lent i h o x a p done q).0 r) in
      inside_apart (complement o a) x (q % 128) p tt (omega (arith, z)) e

  pub intersection_apart : (o x : ℕ) (a b : Tree) (l : Bound (exit a x)) (r : Bound (exit b (x + size a)))
      → Part t 0 (intersection o a b) x → BlocksBelow w lent t automaton.firsts (x + below (intersection o a b))
      → Apart A (target_of (get_or automaton.firsts (x + below (intersection o a b)) 0) (exit a x) (exit b (x + size a)) false l r)
  intersection_apart o x a b _ _ p done i q h r e =
      let l : Within x (x + below (intersection o a b)) (q % 128) = ⊎_elim
      (λ c. let z = reached_range w i h a x (q % 128) (q / 128) c in omega arith)
      (λ c. let z = reached_range w i h b (x + size a) (q % 128) (q / 128) c in omega arith)
      ((intersection_reached S lent i h o x a b p done q).0 r) in
      inside_apart (intersection o a b) x (q % 128) p tt l e

  pub whole_apart : {first : ℕ} (x y : ℕ) (l : Bound x) (r : Bound y) → WholeApart t (length w) automaton.firsts numbers first
      → Apart A (target_of first x y false l r)
  whole_apart x y _ _ f i q h r e =
      let (k, ev, v) = special_entry S (q % 128) e in ⊎_elim (λ z. inr z) (λ z. inl z) (f.apart (q % 128 / 2) v)
