-- One special node's turn, and the whole rule's. Assumes nothing.
use mathlib.Core.Path.{◌≡◌, refl, sym, ap, ◌∙◌, subst}
use mathlib.Core.Bool.{Bool, true, false, false≢true, true≢false}
use mathlib.Core.Logic.{⊎_elim}
use mathlib.Core.List.{List}
use Prim.Native.Nat.{ℕ, zero, suc, ◌+◌, ◌-◌, ◌*◌, ◌≤◌, ◌<◌}
use native.Mathlib.Omega.{arith}
use lib.Dec.{T}
use lib.ListN.{length, get_or}
use Rattle.bits.specs.Bit.{bit_at}
use Rattle.bits.proofs.Digits.{below_or_not}
use Rattle.event.proofs.Tests.{T_of, of_T}
use Rattle.event.specs.Event.{Word}
use Rattle.expression.specs.declared.Node.{Node}
use Rattle.expression.specs.Tree.{Tree, empty, epsilon, letter, union, intersection, concatenation, complement, star, below, size, is_special}
use Rattle.moves.specs.Moves.{kind_at, special_kind}
use Rattle.table.proofs.LayoutLaws.{blocks_part, held_kept}
use Rattle.marks.specs.declared.target.Target.{Target}
use Rattle.walk.specs.Course.{Course, course_of}
use Rattle.walk.specs.Filled.{Apart, Filled}
use Rattle.work.specs.Walk.{exit, Part}
use Rattle.work.specs.Count.{sum_to, places, full_count}
use Rattle.work.specs.Table.{HoldsBlock}
use Rattle.levels.specs.declared.automaton.Automaton.{Automaton}
use Rattle.owners.specs.Parts.{part_at, SpecialAt}
use Rattle.owners.specs.Blocks.{WholeApart, BlocksBelow, OffBlocks}
use Rattle.owners.specs.Turns.{is_complement, own_walks, Setting, Turned, SpecialsTurned, AllTurned}
use Rattle.owners.proofs.PartLaws.{kind_of, Headed, headed, kind_is, special_is}
use Rattle.owners.proofs.SumLaws.{walks_below, below_all, below_none, below_more, below_up}
use Rattle.owners.proofs.Walkers.{Bound, target_of, Walker, filled_over, filled_counted, filled_block, whole_walker, complement_walker}
use Rattle.owners.proofs.Walkers.{intersection_walker, complement_apart, intersection_apart}

sum_add : (f g : ℕ → ℕ) (k : ℕ) → sum_to k (λ i. f i + g i) ≡ sum_to k f + sum_to k g
sum_add f g zero = refl
sum_add f g (suc k) = omega (arith, sum_add f g k)

-- an owner by its target: its walks, of the count that is its part's, go by other blocks
record Own (g : Course) (o : Target) (v : Tree) : Type 1 where
  each : ℕ → ℕ
  walker : Walker g o v each
  count : sum_to (length g.word) each ≡ own_walks g.word v
  apart : Apart g o

module _ {t : Tree} {nodes : List Node} {m : ℕ} {lefts : List ℕ} {automaton : Automaton} {w : List ℕ} {numbers : ℕ} (S : Setting t nodes m lefts automaton w numbers)
    (lent : List ℕ) where
  abbrev A : Course
  A = course_of automaton w lent

  -- the target of special node i, of that kind
  abbrev target_at : (i : ℕ) → Bool → Bound (2 * get_or lefts i 0 + 1) → Bound (2 * i - 1) → Target
  target_at i c = target_of (get_or automaton.firsts i 0) (2 * get_or lefts i 0 + 1) (2 * i - 1) c

  -- what the root of a special part owns
  own_part : (u : Tree) (x : ℕ) → Part t 0 u x → T (is_special u) → BlocksBelow w lent t automaton.firsts (x + below u)
      → (l : Bound (2 * get_or lefts (x + below u) 0 + 1)) (r : Bound (2 * (x + below u) - 1))
      → Own A (target_at (x + below u) (is_complement (kind_of u)) l r) u
  unfolding own_walks
  own_part (empty o) x p s d = absurd s
  own_part (epsilon o) x p s d = absurd s
  own_part (letter o c) x p s d = absurd s
  own_part (union o a b) x p s d = absurd s
  own_part (intersection o a b) x p s d =
      let y = S.left _ x p in
      let ex : 2 * get_or lefts (x + below (intersection o a b)) 0 + 1 ≡ exit a x = omega arith in
      let ey : 2 * (x + below (intersection o a b)) - 1 ≡ exit b (x + size a) = omega arith in
      rw (ex, ey) (λ l r. record {
        each = λ n. places w a n + places w b n;
        walker = intersection_walker S lent _ o x a b l r p d;
        count = sum_add (places w a) (places w b) (length w);
        apart = intersection_apart S lent o x a b l r p d;
      })
  own_part (concatenation o a b) x p s d = absurd s
  own_part (complement o a) x p s d =
      let y = S.left _ x p in
      let ex : 2 * get_or lefts (x + below (complement o a)) 0 + 1 ≡ exit a x = omega arith in
      let ey : 2 * (x + below (complement o a)) - 1 ≡ exit a x = omega arith in
      rw (ex, ey) (λ l r. record {
        each = places w a;
        walker = complement_walker S lent _ o x a l r p d;
        count = refl;
        apart = complement_apart S lent o x a l r p d;
      })
  own_part (star o a) x p s d = absurd s

  -- ---- a special node's turn
  module _ (i : ℕ) (h : i < m) (done : BlocksBelow w lent t automaton.firsts i) where
    at_node : Headed t i
    at_node = headed t i (omega (arith, S.recorded.long))

    module _ (sp : special_kind (kind_at nodes i) ≡ true) where
      special_here : SpecialAt t i
      special_here = T_of (is_special (part_at t i)) (sym (special_is S.recorded i h) ∙ sp)

      own : (l : Bound (2 * get_or lefts i 0 + 1)) (r : Bound (2 * i - 1))
          → Own A (target_at i (is_complement (kind_at nodes i)) l r) (part_at t i)
      own =
          rw (kind_is S.recorded i h)
          (subst (λ (n : ℕ). BlocksBelow w lent t automaton.firsts n → (l : Bound (2 * get_or lefts n 0 + 1)) (r : Bound (2 * n - 1))
          → Own A (target_at n (is_complement (kind_of (part_at t i))) l r) (part_at t i))
          (sym at_node.root) (own_part (part_at t i) at_node.first at_node.within special_here) done)

      module _ (first : ℕ) (flag : Bool) (same : first ≡ get_or automaton.firsts i 0) (kind : flag ≡ is_complement (kind_at nodes i))
          (l : Bound (2 * get_or lefts i 0 + 1)) (r : Bound (2 * i - 1)) where
        -- its walks go by other blocks
        pub own_apart : Apart A (target_of first (2 * get_or lefts i 0 + 1) (2 * i - 1) flag l r)
        own_apart = rw (same, kind) (own l r).apart

        -- its block as filled, and all blocks before
        pub own_turn : {count limit : ℕ} {b : List ℕ} {c : ℕ} {spent : Bool}
            → Filled A (target_of first (2 * get_or lefts i 0 + 1) (2 * i - 1) flag l r) count limit b c spent
            → Turned t w automaton.firsts i count limit lent b c spent
        own_turn {count} {limit} {b} {c} {spent} g =
            let f : Filled A (target_at i (is_complement (kind_at nodes i)) l r) count limit b c spent = rw (same, kind) at g in
            record {
              done = λ e. again f (filled_block (own l r).walker f e S.short);
              outside = λ q n. f.outside q (n special_here);
              counted = λ e. filled_counted (own l r).walker f e ∙ ap (count +◌) (own l r).count;
              over = λ e. let z = filled_over (own l r).walker f e in let y = (own l r).count in omega arith;
              spends = f.spends;
              bounded = f.bounded;
            }
          where
            again : Filled A (target_at i (is_complement (kind_at nodes i)) l r) count limit b c spent
                → HoldsBlock w (part_at t i) b (get_or automaton.firsts i 0) → BlocksBelow w b t automaton.firsts (i + 1)
            again f r y j s =
                ⊎_elim
                (λ (l : y < i).
                held_kept S.short (done y l s)
                (λ q x. f.outside q (λ z. blocks_part (S.spaced.apart y i l s special_here) x z)))
                (λ (l : i ≤ y).
                let e : i ≡ y = omega arith in
                subst (λ (n : ℕ). HoldsBlock w (part_at t n) b (get_or automaton.firsts n 0)) e r)
                (below_or_not y i)

    -- ---- another node's turn
    plain_walks : (u : Tree) → is_special u ≡ false → own_walks w u ≡ 0
    unfolding own_walks
    plain_walks (empty o) e = refl
    plain_walks (epsilon o) e = refl
    plain_walks (letter o c) e = refl
    plain_walks (union o a b) e = refl
    plain_walks (intersection o a b) e = absurd (true≢false e)
    plain_walks (concatenation o a b) e = refl
    plain_walks (complement o a) e = absurd (true≢false e)
    plain_walks (star o a) e = refl

    pub plain_turn : {count limit : ℕ} → special_kind (kind_at nodes i) ≡ false → count ≤ limit
        → Turned t w automaton.firsts i count limit lent lent count false
    plain_turn {count} {limit} sp k =
        let s : is_special (part_at t i) ≡ false = sym (special_is S.recorded i h) ∙ sp in
        record {
          done = λ _ y j v.
              ⊎_elim (λ (l : y < i). done y l v)
              (λ (l : i ≤ y).
              let e : i ≡ y = omega arith in
              absurd (false≢true (sym s ∙ ap (λ (n : ℕ). is_special (part_at t n)) e ∙ of_T (is_special (part_at t y)) v)))
              (below_or_not y i);
          outside = λ q _. refl;
          counted = λ _. let e = plain_walks (part_at t i) s in omega arith;
          over = λ e. absurd (false≢true e);
          spends = λ e. absurd (false≢true e);
          bounded = k;
        }

  -- ---- the whole rule's turn
  pub whole_turn : {whole limit count : ℕ} {a b : List ℕ} {c : ℕ} {before spent : Bool} → before ≡ false
      → SpecialsTurned t w automaton.firsts limit a lent count before → WholeApart t (length w) automaton.firsts numbers whole
      → (l r : Bound (2 * m - 1)) → Filled A (target_of whole (2 * m - 1) (2 * m - 1) false l r) count limit b c spent
      → AllTurned t w automaton.firsts whole limit a b c spent
  unfolding full_count
  whole_turn {whole} {limit} {count} {a} {b} {c} {before} {spent} e₀ s p l r g =
      let x : exit t 0 ≡ 2 * m - 1 = omega (arith, S.recorded.long) in
      let d = s.done e₀ in
      let k = subst (λ (y : ℕ). (l r : Bound y) → Walker A (target_of whole y y false l r) t (places w t)) x
      (λ u v. whole_walker S lent whole u v d) l r in
      let n = s.counted e₀ in
      record {
        rule = λ e. filled_block k g e S.short;
        done = λ e y l v. held_kept S.short (d y l v) (λ q i. g.outside q (λ z. blocks_part (p.apart y v) z i));
        outside = λ e q h o. g.outside q h ∙ s.outside e₀ q o;
        counted = λ e. let z = filled_counted k g e in (omega arith, g.bounded);
        over = λ e. let z = filled_over k g e in omega arith;
        spends = g.spends;
      }

-- ---- the loop over the records: the first i had their turns, and the table was lent as a
pub record Turning (t : Tree) (w : Word) (firsts : List ℕ) (limit : ℕ) (a b : List ℕ) (c i : ℕ) : Type 0 where
  pub few : i ≤ size t
  pub long : length b ≡ length a
  pub done : BlocksBelow w b t firsts i
  pub outside : (q : ℕ) → OffBlocks t (length w) firsts q → bit_at b q ≡ bit_at a q
  pub counted : c ≡ walks_below w t i
  pub bounded : c ≤ limit

module _ {t : Tree} {w : Word} {firsts : List ℕ} {limit : ℕ} {a : List ℕ} where
  pub turning_begins : Turning t w firsts limit a a 0 0
  turning_begins =
      record {
        few = omega arith;
        long = refl;
        done = λ y l s. absurd (omega arith);
        outside = λ q o. refl;
        counted = sym (below_none w t);
        bounded = omega arith;
      }

  module _ {lent : List ℕ} {count i : ℕ} (g : Turning t w firsts limit a lent count i) where
    pub turning_on : {b : List ℕ} {c : ℕ} {spent : Bool} → i < size t → length b ≡ length lent → spent ≡ false
        → Turned t w firsts i count limit lent b c spent → Turning t w firsts limit a b c (i + 1)
    turning_on h l e s =
        let z = s.counted e in
        let y = below_more w t i in
        let k = g.counted in
        record {
          few = omega arith;
          long = l ∙ g.long;
          done = s.done e;
          outside = λ q o. s.outside q (o i) ∙ g.outside q o;
          counted = omega arith;
          bounded = s.bounded;
        }

    pub turning_spent : {b : List ℕ} {c : ℕ} {spent : Bool} → i < size t → spent ≡ true → Turned t w firsts i count limit lent b c spent
        → SpecialsTurned t w firsts limit a b c spent
    turning_spent h e s =
        let z = s.over e in
        let y = below_more w t i in
        let k = g.counted in
        let u = below_up w t (i + 1) (size t) (omega arith) in
        let v = below_all w t in
        record {
          done = λ d. absurd (true≢false (sym e ∙ d));
          outside = λ d. absurd (true≢false (sym e ∙ d));
          counted = λ d. absurd (true≢false (sym e ∙ d));
          over = λ _. omega arith;
          spends = s.spends;
          bounded = s.bounded;
        }

    -- the same by other names
    pub turning_same : {b : List ℕ} {c : ℕ} → b ≡ lent → c ≡ count → Turning t w firsts limit a b c i
    turning_same d e = rw (d, e) g

    pub turning_ends : size t ≤ i → SpecialsTurned t w firsts limit a lent count false
    turning_ends h =
        let e : i ≡ size t = omega (arith, g.few) in
        record {
          done = λ _. subst (BlocksBelow w lent t firsts) e g.done;
          outside = λ _. g.outside;
          counted = λ _. g.counted ∙ ap (walks_below w t) e ∙ below_all w t;
          over = λ d. absurd (false≢true d);
          spends = λ d. absurd (false≢true d);
          bounded = g.bounded;
        }

-- where the special owners' walks alone are too many, so are all
pub specials_spent : {t : Tree} {w : Word} {firsts : List ℕ} {whole limit : ℕ} {a b : List ℕ} {c : ℕ} {spent : Bool} → spent ≡ true
    → SpecialsTurned t w firsts limit a b c spent → AllTurned t w firsts whole limit a b c spent
unfolding full_count
specials_spent e s =
    record {
      rule = λ d. absurd (true≢false (sym e ∙ d));
      done = λ d. absurd (true≢false (sym e ∙ d));
      outside = λ d. absurd (true≢false (sym e ∙ d));
      counted = λ d. absurd (true≢false (sym e ∙ d));
      over = λ d. let z = s.over d in omega arith;
      spends = s.spends;
    }
