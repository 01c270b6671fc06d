-- How spans join and split, and which spans obey a rule. Assumes nothing.
use mathlib.Core.Path.{◌≡◌, refl, sym, ap, subst, ◌∙◌}
use mathlib.Core.List.{[], ◌∷◌, ◌++◌, cons-eq-cons}
use Prim.Native.Nat.{ℕ, zero, suc, ◌+◌, ◌-◌, ◌≤◌, ◌<◌}
use native.Mathlib.Omega.{arith}
use lib.Dec.{T}
use lib.ListN.{length, get_or, take, drop, length-append}
use lib.Seq.{slice, slice_empty, slice-cons, length-slice, take-nil, drop-nil, take_at, drop_at}
use Rattle.expression.specs.Tree.{Tree, epsilon, letter, concatenation, star}
use Rattle.event.specs.Event.{Word}
use Rattle.event.specs.LetterSets.{holds}
use Rattle.event.specs.declared.sets.LetterSet.{LetterSet}
use Rattle.work.specs.Span.{Obeys}

pub slice_join : (w : Word) (j k l : ℕ) → j ≤ k → k ≤ l → slice j k w ++ slice k l w ≡ slice j l w
slice_join [] j k l p q = simp (take-nil, drop-nil)
slice_join (x ∷ w) zero zero l p q = refl
slice_join (x ∷ w) zero (suc k) zero p q = absurd (omega arith)
slice_join (x ∷ w) zero (suc k) (suc l) p q = ap (λ (u : Word). x ∷ u) (slice_join w 0 k l (omega arith) (omega arith))
slice_join (x ∷ w) (suc j) zero l p q = absurd (omega arith)
slice_join (x ∷ w) (suc j) (suc k) zero p q = absurd (omega arith)
slice_join (x ∷ w) (suc j) (suc k) (suc l) p q = slice_join w j k l (omega arith) (omega arith)

-- the cut of a span's word is a cut of the span
pub record Split (w : Word) (j l : ℕ) (u v : Word) : Type 0 where
  pub mid : ℕ
  pub low : j ≤ mid
  pub high : mid ≤ l
  pub left : slice j mid w ≡ u
  pub right : slice mid l w ≡ v

pub split_span : (w : Word) (j l : ℕ) (u v : Word) → j ≤ l → l ≤ length w → slice j l w ≡ u ++ v → Split w j l u v
split_span w j l u v p r e =
    let n : length u + length v ≡ l - j = sym (length-append u v) ∙ ap length (sym e) ∙ length-slice j l w r in
    let q : j + length u ≤ l = omega arith in
    let s : length (slice j (j + length u) w) ≡ length u = length-slice j (j + length u) w (omega arith) ∙ omega arith in
    let f : u ++ v ≡ slice j (j + length u) w ++ slice (j + length u) l w = sym e ∙ sym
    (slice_join w j (j + length u) l (omega arith) q) in
    record {
      mid = j + length u;
      low = omega arith;
      high = q;
      left = sym (take_at (slice j (j + length u) w) (slice (j + length u) l w) (length u) s) ∙ ap (take (length u)) (sym f) ∙ take_at u v
          (length u) refl;
      right = sym (drop_at (slice j (j + length u) w) (slice (j + length u) l w) (length u) s) ∙ ap (drop (length u)) (sym f) ∙ drop_at u v
          (length u) refl;
    }

-- an empty span
pub slice_nil : (w : Word) (j k : ℕ) → j ≤ k → k ≤ length w → slice j k w ≡ [] → k ≡ j
slice_nil w j k p r e = let n : 0 ≡ k - j = ap length (sym e) ∙ length-slice j k w r in omega arith

-- a span of one event
pub slice_one : (w : Word) (j : ℕ) → j < length w → slice j (suc j) w ≡ get_or w j 0 ∷ []
slice_one w j h = slice-cons j (suc j) w 0 (omega arith) h ∙ ap (get_or w j 0 ∷◌) (slice_empty (suc j) w)

pub one_slice : (w : Word) (j k c : ℕ) → j ≤ k → k ≤ length w → slice j k w ≡ c ∷ [] → (k ≡ suc j) × (get_or w j 0 ≡ c)
one_slice w j k c p r e =
    let n : 1 ≡ k - j = ap length (sym e) ∙ length-slice j k w r in
    let m : k ≡ suc j = omega arith in
    let f : slice j (suc j) w ≡ c ∷ [] = subst (λ z. slice j z w ≡ c ∷ []) m e in
    (m, (cons-eq-cons.0 (sym (slice_one w j (omega arith)) ∙ f)).0)

-- ---- what obeys
pub epsilon_obeys : (w : Word) (o j : ℕ) → j ≤ length w → Obeys w (epsilon o) j j
epsilon_obeys w o j h = record { order = omega arith; inside = h; word = slice_empty j w }

pub letter_obeys : (w : Word) (o : ℕ) (c : LetterSet) (j : ℕ) → j < length w → T (holds c (get_or w j 0)) → Obeys w (letter o c) j (suc j)
letter_obeys w o c j h e = record { order = omega arith; inside = h; word = (get_or w j 0, slice_one w j h, e) }

pub concatenation_obeys : (w : Word) (o : ℕ) (a b : Tree) (j k l : ℕ) → Obeys w a j k → Obeys w b k l → Obeys w (concatenation o a b) j l
concatenation_obeys w o a b j k l p q =
    record {
      order = omega (arith, p.order, q.order);
      inside = q.inside;
      word = (slice j k w, slice k l w, sym (slice_join w j k l p.order q.order), p.word, q.word);
    }

pub obeys_concatenation : (w : Word) (o : ℕ) (a b : Tree) (j l : ℕ) → Obeys w (concatenation o a b) j l
    → (k : ℕ) × Obeys w a j k × Obeys w b k l
obeys_concatenation w o a b j l h =
    let (u, v, e, hu, hv) = h.word in
    let p = split_span w j l u v h.order h.inside e in (
      p.mid,
      record { order = p.low; inside = omega (arith, p.high, h.inside); word = rw p.left hu },
      record { order = p.high; inside = h.inside; word = rw p.right hv },
    )

pub star_none : (w : Word) (o : ℕ) (a : Tree) (j : ℕ) → j ≤ length w → Obeys w (star o a) j j
star_none w o a j h = record { order = omega arith; inside = h; word = (0, slice_empty j w) }

pub star_more : (w : Word) (o : ℕ) (a : Tree) (j k l : ℕ) → Obeys w (star o a) j k → Obeys w a k l → Obeys w (star o a) j l
star_more w o a j k l p q =
    record {
      order = omega (arith, p.order, q.order);
      inside = q.inside;
      word = (suc p.word.0, (slice j k w, slice k l w, sym (slice_join w j k l p.order q.order), p.word.1, q.word));
    }
