-- `parse` reads each text of the grammar as its tree: it pushes the tree's records, in order, and stops at the text's end.
-- Assumes nothing.
use Prim.Native.Nat.{ℕ, zero, suc, ◌+◌, ◌-◌, ◌≤◌, ◌<◌}
use native.Mathlib.Omega.{arith}
use mathlib.Core.Path.{◌≡◌, refl, sym, ap, ap₂, subst₂, ◌∙◌}
use mathlib.Core.List.{List, [], ◌∷◌, ◌++◌, append_assoc, append-nil}
use mathlib.Core.Bool.{Bool, true, false, cond}
use lib.ListN.{length, get_or, drop, length-append}
use lib.Seq.{drop-append_seam}
use lib.Dec.{eqb, ltb}
use borrow.Author.Tests.{lt-ltb}
use Rattle.event.proofs.EventLaws.{event_not, reserved_foreign}
use Rattle.event.specs.LetterSets.{single, every, letters_of}
use Rattle.expression.specs.Bytes.{is_start}
use Rattle.expression.specs.Leaves.{leaf, leaf_at}
use Rattle.expression.specs.declared.Leaf.{Leaf}
use Rattle.expression.specs.Tree.{Tree, records, node_record}
use Rattle.expression.specs.Grammar.{Level, Alt, Conj, Seq, Pre, Post, Atom, Reads, alt_conj, alt_bar, conj_seq, conj_amp, seq_pre, seq_more}
use Rattle.expression.specs.Grammar.{pre_post, pre_bang, post_atom, post_star, atom_letter, atom_any, atom_set, atom_empty, atom_epsilon, atom_group}
use Rattle.expression.specs.Parse as parser
use Rattle.expression.specs.Parse.{alt, alt_rest, conj, conj_rest, seq, seq_rest, pre, post, post_rest, atom, parse, measure}
use Rattle.expression.specs.declared.Kind.{Kind}
use Rattle.expression.specs.declared.Kind.TheVariants.{Empty, Epsilon, Letter, Union, Intersection, Concatenation, Complement, Star}
use Rattle.expression.specs.declared.Node.{Node}
use Rattle.expression.proofs.LeafLaws.{letter_leaf_at, any_leaf_at, set_leaf_at, empty_leaf_at, epsilon_leaf_at}
use Rattle.expression.proofs.Texts.{begins, start_not, start_some}

module _ {A : Type 0} (push : A → ℕ → Kind → A) where
  unfoldable pub pushes : A → List Node → A
  pushes a [] = a
  pushes a (n ∷ ns) = pushes (push a n.offset n.kind) ns

  pushes_append : (a : A) (x y : List Node) → pushes a (x ++ y) ≡ pushes (pushes a x) y
  unfolding pushes
  pushes_append a [] y = refl
  pushes_append a (n ∷ x) y = pushes_append (push a n.offset n.kind) x y

  -- what may follow a text at a level: nothing that a tighter level would read on with
  abbrev Free : Level → List ℕ → Type 0
  Free Alt x = (eqb (get_or x 0 0) 42 ≡ false) × (is_start (get_or x 0 0) ≡ false) × (eqb (get_or x 0 0) 38 ≡ false)
  Free Conj x = (eqb (get_or x 0 0) 42 ≡ false) × (is_start (get_or x 0 0) ≡ false)
  Free Seq x = eqb (get_or x 0 0) 42 ≡ false
  Free Pre x = eqb (get_or x 0 0) 42 ≡ false
  Free Post x = Unit {0}
  Free Atom x = Unit {0}

  abbrev level : Level → parser.Call
  level Alt = alt
  level Conj = conj
  level Seq = seq
  level Pre = pre
  level Post = post
  level Atom = atom

  -- the call of a rest that a level's call p comes to, with enough fuel
  record Comes (l : parser.Call) (x : List ℕ) (q p : A × ℕ) : Type 0 where
    fuel : ℕ
    enough : measure l x ≤ fuel
    same : p ≡ parse push fuel l x q

  -- what a level's call p comes to, at the rest x in the state q
  abbrev Goes : Level → List ℕ → A × ℕ → A × ℕ → Type 0
  Goes Alt x q p = Comes alt_rest x q p
  Goes Conj x q p = Comes conj_rest x q p
  Goes Seq x q p = Comes seq_rest x q p
  Goes Pre x q p = p ≡ q
  Goes Post x q p = Comes post_rest x q p
  Goes Atom x q p = p ≡ q

  -- a rest that reads no more
  stops : (l : parser.Call) (x : List ℕ) (q p : A × ℕ) → ((f : ℕ) → parse push (suc f) l x q ≡ q) → 0 < parser.rank l → Comes l x q p
      → p ≡ q
  stops l x q p s h c = go c.fuel c.enough c.same
    where
      go : (f : ℕ) → measure l x ≤ f → p ≡ parse push f l x q → p ≡ q
      go zero g e = absurd (omega arith)
      go (suc f) g e = e ∙ s f

  past : (u x : List ℕ) (o : ℕ) → drop (o + length u - o) (u ++ x) ≡ x
  past u x o = let e : o + length u - o ≡ length u = omega arith in rw e (drop-append_seam u x)

  -- a level that reads with another and comes to its rest
  module _ (W F R : parser.Call)
      (step : (f : ℕ) (s : List ℕ) (q : A × ℕ) → parse push (suc f) W s q ≡ parse push f R (drop ((parse push f F s q).1 - q.1) s)
      (parse push f F s q))
      (rf : parser.rank F < parser.rank W) (rr : parser.rank R < parser.rank W) where
    lift : (u x : List ℕ) (a b : A) (o f : ℕ) → measure W (u ++ x) ≤ f
        → ((g : ℕ) → measure F (u ++ x) ≤ g → parse push g F (u ++ x) (a, o) ≡ (b, o + length u))
        → Comes R x (b, o + length u) (parse push f W (u ++ x) (a, o))
    lift u x a b o zero n h = absurd (omega arith)
    lift u x a b o (suc f) n h =
        record {
          fuel = f;
          enough = omega (arith, length-append u x);
          same = step f (u ++ x) (a, o)
              ∙ ap (λ (p : A × ℕ). parse push f R (drop (p.1 - o) (u ++ x)) p) (h f (omega arith))
              ∙ ap (λ (s : List ℕ). parse push f R s (b, o + length u)) (past u x o);
        }

  -- a rest that reads an operator c and its right side
  module _ (F R : parser.Call) (c : ℕ) (K : Kind)
      (step : (f : ℕ) (s : List ℕ) (q : A × ℕ) → parse push (suc f) R (c ∷ s) q ≡ parse push f R
      (drop ((parse push f F s (q.0, q.1 + 1)).1 - q.1) (c ∷ s))
      (push (parse push f F s (q.0, q.1 + 1)).0 q.1 K, (parse push f F s (q.0, q.1 + 1)).1))
      (rf : parser.rank F ≤ 8) (rr : 0 < parser.rank R) where
    further : (v x : List ℕ) (a b : A) (o : ℕ) (p : A × ℕ) → Comes R (c ∷ v ++ x) (a, o) p
        → ((g : ℕ) → measure F (v ++ x) ≤ g → parse push g F (v ++ x) (a, o + 1) ≡ (b, o + 1 + length v))
        → Comes R x (push b o K, o + 1 + length v) p
    further v x a b o p w h = go w.fuel w.enough w.same
      where
        go : (f : ℕ) → measure R (c ∷ v ++ x) ≤ f → p ≡ parse push f R (c ∷ v ++ x) (a, o) → Comes R x (push b o K, o + 1 + length v) p
        go zero n e = absurd (omega arith)
        go (suc f) n e =
            record {
              fuel = f;
              enough = omega (arith, length-append v x);
              same = e ∙ step f (v ++ x) (a, o)
                  ∙ ap (λ (r : A × ℕ). parse push f R (drop (r.1 - o) (c ∷ v ++ x)) (push r.0 o K, r.1)) (h f (omega arith))
                  ∙ ap (λ (s : List ℕ). parse push f R s (push b o K, o + 1 + length v))
                  (let z : o + 1 + length v - o ≡ suc (length v) = omega arith in rw z (drop-append_seam v x));
            }

  -- no Post begins with a `!`
  unbanged_atom : {o : ℕ} {u : List ℕ} {t : Tree} → Reads Atom o u t → (x : List ℕ) → eqb (get_or (u ++ x) 0 0) 33 ≡ false
  unbanged_atom (atom_letter {b = b} h) x = event_not b 33 h tt
  unbanged_atom atom_any x = refl
  unbanged_atom (atom_set u h e) x = refl
  unbanged_atom atom_empty x = refl
  unbanged_atom atom_epsilon x = refl
  unbanged_atom (atom_group r) x = refl

  unbanged : {o : ℕ} {u : List ℕ} {t : Tree} → Reads Post o u t → (x : List ℕ) → eqb (get_or (u ++ x) 0 0) 33 ≡ false
  unbanged (post_atom r) x = unbanged_atom r x
  unbanged (post_star {u = u} r) x = rw (append_assoc u (42 ∷ []) x) (unbanged r (42 ∷ x))

  -- the records of a node with two sides, one side, are pushed after those of its sides
  pub two : (a : A) (x y : List Node) (o : ℕ) (k : Kind) → push (pushes (pushes a x) y) o k ≡ pushes a (x ++ y ++ node_record o k)
  unfolding pushes
  two a x y o k = sym (pushes_append a (x ++ y) (node_record o k) ∙ ap (λ (b : A). push b o k) (pushes_append a x y))

  pub one : (a : A) (x : List Node) (o : ℕ) (k : Kind) → push (pushes a x) o k ≡ pushes a (x ++ node_record o k)
  unfolding pushes
  one a x o k = sym (pushes_append a x (node_record o k))

  leaf_read : (b : ℕ) (x : List ℕ) (a : A) (o f : ℕ) (l : Leaf) → eqb b 40 ≡ false → leaf_at (b ∷ x) ≡ l → measure atom (b ∷ x) ≤ f
      → parse push f atom (b ∷ x) (a, o) ≡ (push a o l.kind, o + l.width)
  unfolding parse
  leaf_read b x a o zero l h e n = absurd (omega arith)
  leaf_read b x a o (suc f) l h e n =
      rw (h, lt-ltb 0 (suc (length x)) (omega arith)) (ap (λ (y : Leaf). (push a o y.kind, o + y.width)) e)

  bang_read : (u x : List ℕ) (a b : A) (o f : ℕ) → measure pre (33 ∷ u ++ x) ≤ f
      → ((g : ℕ) → measure pre (u ++ x) ≤ g → parse push g pre (u ++ x) (a, o + 1) ≡ (b, o + 1 + length u))
      → parse push f pre (33 ∷ u ++ x) (a, o) ≡ (push b o Complement, o + 1 + length u)
  unfolding parse
  bang_read u x a b o zero n h = absurd (omega arith)
  bang_read u x a b o (suc f) n h = ap (λ (p : A × ℕ). (push p.0 o Complement, p.1)) (h f (omega arith))

  post_read : (s : List ℕ) (q p : A × ℕ) (f : ℕ) → eqb (get_or s 0 0) 33 ≡ false → measure pre s ≤ f
      → ((g : ℕ) → measure post s ≤ g → parse push g post s q ≡ p) → parse push f pre s q ≡ p
  unfolding parse
  post_read s q p zero e n h = absurd (omega arith)
  post_read s q p (suc f) e n h = rw e (h f (omega arith))

  group_read : (s u x : List ℕ) (a b : A) (o f : ℕ) → s ≡ u ++ 41 ∷ x → measure atom (40 ∷ s) ≤ f
      → ((g : ℕ) → measure alt s ≤ g → parse push g alt s (a, o + 1) ≡ (b, o + 1 + length u))
      → parse push f atom (40 ∷ s) (a, o) ≡ (b, o + 1 + length u + 1)
  unfolding parse
  group_read s u x a b o zero e n h = absurd (omega arith)
  group_read s u x a b o (suc f) e n h =
      ap (λ (p : A × ℕ). cond (ltb (p.1 - o) (suc (length s))) (p.0, p.1 + 1) p) (h f (omega arith))
      ∙ ap (λ (t : Bool). cond t (b, o + 1 + length u + 1) (b, o + 1 + length u))
      (lt-ltb (o + 1 + length u - o) (suc (length s)) (omega (arith, ap length e, length-append u (41 ∷ x))))

  star_read : (x : List ℕ) (q p : A × ℕ) → Comes post_rest (42 ∷ x) q p → Comes post_rest x (push q.0 q.1 Star, q.1 + 1) p
  unfolding parse
  star_read x q p w = go w.fuel w.enough w.same
    where
      go : (f : ℕ) → measure post_rest (42 ∷ x) ≤ f → p ≡ parse push f post_rest (42 ∷ x) q
          → Comes post_rest x (push q.0 q.1 Star, q.1 + 1) p
      go zero n e = absurd (omega arith)
      go (suc f) n e = record { fuel = f; enough = omega arith; same = e }

  join_read : (v x : List ℕ) (a b : A) (o : ℕ) (p : A × ℕ) → is_start (get_or (v ++ x) 0 0) ≡ true → Comes seq_rest (v ++ x) (a, o) p
      → ((g : ℕ) → measure pre (v ++ x) ≤ g → parse push g pre (v ++ x) (a, o) ≡ (b, o + length v)) → 0 < length v
      → Comes seq_rest x (push b o Concatenation, o + length v) p
  unfolding parse
  join_read v x a b o p t w h l = go w.fuel w.enough w.same
    where
      go : (f : ℕ) → measure seq_rest (v ++ x) ≤ f → p ≡ parse push f seq_rest (v ++ x) (a, o)
          → Comes seq_rest x (push b o Concatenation, o + length v) p
      go zero n e = absurd (omega arith)
      go (suc f) n e =
          record {
            fuel = f;
            enough = omega (arith, length-append v x);
            same = e ∙ rw t (ap (λ (r : A × ℕ). parse push f seq_rest (drop (r.1 - o) (v ++ x)) (push r.0 o Concatenation, r.1))
                (h f (omega arith)))
                ∙ ap (λ (s : List ℕ). parse push f seq_rest s (push b o Concatenation, o + length v)) (past v x o);
          }

  -- the same call and rest, in a state that is written another way
  state : {l : parser.Call} {x : List ℕ} {p : A × ℕ} {a b : A} {o n : ℕ} → a ≡ b → o ≡ n → Comes l x (a, o) p → Comes l x (b, n) p
  state {l} {x} {p} e h c = subst₂ (λ (a : A) (o : ℕ). Comes l x (a, o) p) e h c

  nonempty : {l : Level} {o : ℕ} {u : List ℕ} {t : Tree} → Reads l o u t → 0 < length u
  nonempty {u = []} r = start_some [] (begins r [])
  nonempty {u = b ∷ u} r = omega arith

  parses : {l : Level} {o : ℕ} {u : List ℕ} {t : Tree} → Reads l o u t → (x : List ℕ) (a : A) → Free l x → (f : ℕ)
      → measure (level l) (u ++ x) ≤ f → Goes l x (pushes a (records t), o + length u) (parse push f (level l) (u ++ x) (a, o))
  unfolding parse records pushes
  parses {o = o} (alt_conj {u = u} {t = t} r) x a free f n =
      lift alt conj alt_rest (λ f s q. refl) (omega arith) (omega arith) u x a (pushes a (records t)) o f n
      (λ g h. stops conj_rest x (pushes a (records t), o + length u) (parse push g conj (u ++ x) (a, o)) (λ f. rw free.2) (omega arith)
      (parses r x a (free.0, free.1) g h))
  parses {o = o} (alt_bar {u = u} {v = v} {t = t} {r = w} r q) x a free f n =
      let b = pushes a (records t) in
      let s : (u ++ 124 ∷ v) ++ x ≡ u ++ (124 ∷ v ++ x) = append_assoc u (124 ∷ v) x in
      state (two a (records t) (records w) (o + length u) Union) (omega (arith, length-append u (124 ∷ v)))
      (further conj alt_rest 124 Union (λ f s q. refl) (omega arith) (omega arith) v x b (pushes b (records w)) (o + length u)
      (parse push f alt ((u ++ 124 ∷ v) ++ x) (a, o))
      (rw s (parses r (124 ∷ v ++ x) a (refl, reserved_foreign 124 tt, refl) f (rw s at n)))
      (λ g h. stops conj_rest x (pushes b (records w), o + length u + 1 + length v) (parse push g conj (v ++ x) (b, o + length u + 1))
      (λ f. rw free.2) (omega arith) (parses q x b (free.0, free.1) g h)))
  parses {o = o} (conj_seq {u = u} {t = t} r) x a free f n =
      lift conj seq conj_rest (λ f s q. refl) (omega arith) (omega arith) u x a (pushes a (records t)) o f n
      (λ g h. stops seq_rest x (pushes a (records t), o + length u) (parse push g seq (u ++ x) (a, o)) (λ f. rw free.1) (omega arith)
      (parses r x a free.0 g h))
  parses {o = o} (conj_amp {u = u} {v = v} {t = t} {r = w} r q) x a free f n =
      let b = pushes a (records t) in
      let s : (u ++ 38 ∷ v) ++ x ≡ u ++ (38 ∷ v ++ x) = append_assoc u (38 ∷ v) x in
      state (two a (records t) (records w) (o + length u) Intersection) (omega (arith, length-append u (38 ∷ v)))
      (further seq conj_rest 38 Intersection (λ f s q. refl) (omega arith) (omega arith) v x b (pushes b (records w)) (o + length u)
      (parse push f conj ((u ++ 38 ∷ v) ++ x) (a, o))
      (rw s (parses r (38 ∷ v ++ x) a (refl, reserved_foreign 38 tt) f (rw s at n)))
      (λ g h. stops seq_rest x (pushes b (records w), o + length u + 1 + length v) (parse push g seq (v ++ x) (b, o + length u + 1))
      (λ f. rw free.1) (omega arith) (parses q x b free.0 g h)))
  parses {o = o} (seq_pre {u = u} {t = t} r) x a free f n =
      lift seq pre seq_rest (λ f s q. refl) (omega arith) (omega arith) u x a (pushes a (records t)) o f n (λ g h. parses r x a free g h)
  parses {o = o} (seq_more {u = u} {v = v} {t = t} {r = w} r q) x a free f n =
      let b = pushes a (records t) in
      let s : (u ++ v) ++ x ≡ u ++ (v ++ x) = append_assoc u v x in
      state (two a (records t) (records w) (o + length u) Concatenation) (omega (arith, length-append u v))
      (join_read v x b (pushes b (records w)) (o + length u) (parse push f seq ((u ++ v) ++ x) (a, o)) (begins q x)
      (rw s (parses r (v ++ x) a (start_not (get_or (v ++ x) 0 0) 42 (begins q x) (reserved_foreign 42 tt)) f (rw s at n)))
      (λ g h. parses q x b free g h) (nonempty q))
  parses {o = o} (pre_post {u = u} {t = t} r) x a free f n =
      post_read (u ++ x) (a, o) (pushes a (records t), o + length u) f (unbanged r x) n
      (λ g h. stops post_rest x (pushes a (records t), o + length u) (parse push g post (u ++ x) (a, o)) (λ f. rw free) (omega arith)
      (parses r x a tt g h))
  parses {o = o} (pre_bang {u = u} {t = t} r) x a free f n =
      bang_read u x a (pushes a (records t)) o f n (λ g h. parses r x a free g h) ∙ ap₂ (λ (b : A) (m : ℕ). (b, m))
      (one a (records t) o Complement) (omega arith)
  parses {o = o} (post_atom {u = u} {t = t} r) x a free f n =
      lift post atom post_rest (λ f s q. refl) (omega arith) (omega arith) u x a (pushes a (records t)) o f n (λ g h. parses r x a tt g h)
  parses {o = o} (post_star {u = u} {t = t} r) x a free f n =
      let s : (u ++ 42 ∷ []) ++ x ≡ u ++ 42 ∷ x = append_assoc u (42 ∷ []) x in
      state (one a (records t) (o + length u) Star) (omega (arith, length-append u (42 ∷ [])))
      (star_read x (pushes a (records t), o + length u) (parse push f post ((u ++ 42 ∷ []) ++ x) (a, o))
      (rw s (parses r (42 ∷ x) a tt f (rw s at n))))
  parses {o = o} (atom_letter {b = b} h) x a free f n =
      leaf_read b x a o f (leaf 1 (Letter (single b))) (event_not b 40 h tt) (letter_leaf_at b x h) n
  parses {o = o} atom_any x a free f n = leaf_read 46 x a o f (leaf 1 (Letter every)) refl (any_leaf_at x) n
  parses {o = o} (atom_set u h e) x a free f n =
      leaf_read 91 ((u ++ 93 ∷ []) ++ x) a o f (leaf (length u + 2) (Letter (letters_of u))) refl (set_leaf_at u x e) n
      ∙ ap₂ (λ (c : A) (m : ℕ). (c, m)) refl (omega (arith, length-append u (93 ∷ [])))
  parses {o = o} atom_empty x a free f n = leaf_read 48 x a o f (leaf 1 Empty) refl (empty_leaf_at x) n
  parses {o = o} atom_epsilon x a free f n = leaf_read 49 x a o f (leaf 1 Epsilon) refl (epsilon_leaf_at x) n
  parses {o = o} (atom_group {u = u} {t = t} r) x a free f n =
      let s : (u ++ 41 ∷ []) ++ x ≡ u ++ 41 ∷ x = append_assoc u (41 ∷ []) x in
      group_read ((u ++ 41 ∷ []) ++ x) u x a (pushes a (records t)) o f s n
      (λ g h. rw s (stops alt_rest (41 ∷ x) (pushes a (records t), o + 1 + length u) (parse push g alt (u ++ 41 ∷ x) (a, o + 1)) (λ f. refl)
      (omega arith) (parses r (41 ∷ x) a (refl, reserved_foreign 41 tt, refl) g (rw s at h))))
      ∙ ap₂ (λ (c : A) (m : ℕ). (c, m)) refl (omega (arith, length-append u (41 ∷ [])))

  -- a sentence: the records of its tree are pushed, and all of it is read
  pub parse_whole : {s : List ℕ} {t : Tree} → Reads Alt 0 s t → (a : A) (f : ℕ) → measure alt s ≤ f
      → parse push f alt s (a, 0) ≡ (pushes a (records t), length s)
  unfolding parse
  parse_whole {s} {t} r a f n =
      let z = append-nil s in
      ap (λ (u : List ℕ). parse push f alt u (a, 0)) (sym z)
      ∙ stops alt_rest [] (pushes a (records t), 0 + length s) (parse push f alt (s ++ []) (a, 0)) (λ f. refl) (omega arith)
      (parses r [] a (refl, reserved_foreign 0 tt, refl) f (rw z n))
      ∙ ap₂ (λ (c : A) (m : ℕ). (c, m)) refl (omega arith)
