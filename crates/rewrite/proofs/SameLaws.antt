-- Readings whose parts can stand for each other can stand for each other; (r*)* has the language of r*. Assumes nothing.
use Prim.Native.Nat.{ℕ, zero, suc}
use native.Mathlib.Omega.{arith}
use mathlib.Core.Path.{refl, sym, subst}
use mathlib.Core.Logic.{inl, inr, ⊎_elim}
use mathlib.Core.List.{List, [], ◌∷◌, ◌++◌, append-nil, append_assoc}
use Rattle.event.specs.Event.{Word}
use Rattle.event.specs.declared.sets.LetterSet.{LetterSet}
use Rattle.expression.specs.Tree.{Tree, empty, epsilon, letter, union, intersection, concatenation, complement, star}
use Rattle.expression.specs.Lang.{Concat, Power, Lang}
use Rattle.expression.proofs.LangDecided.{power_map}
use Rattle.work.specs.TableComputed.{special_parts}
use Rattle.rewrite.specs.Same.{SameLang, SameParts, Same}

-- ---- lists of parts
parts_append : (k l k' l' : List Tree) → SameParts k k' → SameParts l l' → SameParts (k ++ l) (k' ++ l')
parts_append [] l [] l' p q = q
parts_append [] l (u ∷ k') l' p q = absurd p
parts_append (t ∷ k) l [] l' p q = absurd p
parts_append (t ∷ k) l (u ∷ k') l' p q = (p.0, parts_append k l k' l' p.1 q)

-- ---- (r*)* has the language of r*
pub powers : (L : Word → Type 0) (i k : ℕ) (u v : Word) → Power L i u → Power L k v → (n : ℕ) × Power L n (u ++ v)
powers L i zero u v p e = (i, rw (e, append-nil) p)
powers L i (suc k) u v p h =
    let (a, b, e, ha, hb) = h in
    let (n, q) = powers L i k u a p ha in
    (suc n, (u ++ a, b, rw (e, append_assoc), q, hb))

flatten : (L : Word → Type 0) (i : ℕ) (w : Word) → Power (λ u. (k : ℕ) × Power L k u) i w → (n : ℕ) × Power L n w
flatten L zero w e = (0, e)
flatten L (suc i) w h =
    let (u, v, e, hu, hv) = h in
    let (n, q) = flatten L i u hu in
    let (j, r) = powers L n hv.0 u v q hv.1 in
    (j, subst (Power L j) (sym e) r)

pub star_idempotent : (o q : ℕ) (t : Tree) → SameLang (star o (star q t)) (star q t)
star_idempotent o q t w = (λ h. flatten (Lang t) h.0 w h.1, λ h. (1, ([], w, refl, refl, h)))

-- ---- languages
concat_map : (L L' M M' : Word → Type 0) → ((u : Word) → L u → L' u) → ((u : Word) → M u → M' u) → (w : Word) → Concat L M w → Concat L' M' w
concat_map L L' M M' f g w h = let (u, v, e, hu, hv) = h in (u, v, e, f u hu, g v hv)

union_lang : (o n : ℕ) (a b a' b' : Tree) → SameLang a a' → SameLang b b' → SameLang (union o a b) (union n a' b')
union_lang o n a b a' b' p q w = (
  λ h. ⊎_elim (λ x. inl ((p w).0 x)) (λ y. inr ((q w).0 y)) h,
  λ h. ⊎_elim (λ x. inl ((p w).1 x)) (λ y. inr ((q w).1 y)) h,
)

intersection_lang : (o n : ℕ) (a b a' b' : Tree) → SameLang a a' → SameLang b b' → SameLang (intersection o a b) (intersection n a' b')
intersection_lang o n a b a' b' p q w = (λ h. ((p w).0 h.0, (q w).0 h.1), λ h. ((p w).1 h.0, (q w).1 h.1))

concatenation_lang : (o n : ℕ) (a b a' b' : Tree) → SameLang a a' → SameLang b b' → SameLang (concatenation o a b) (concatenation n a' b')
concatenation_lang o n a b a' b' p q w = (
  concat_map (Lang a) (Lang a') (Lang b) (Lang b') (λ u. (p u).0) (λ u. (q u).0) w,
  concat_map (Lang a') (Lang a) (Lang b') (Lang b) (λ u. (p u).1) (λ u. (q u).1) w,
)

complement_lang : (o n : ℕ) (a a' : Tree) → SameLang a a' → SameLang (complement o a) (complement n a')
complement_lang o n a a' p w = (λ h. (h.0, λ x. h.1 ((p w).1 x)), λ h. (h.0, λ x. h.1 ((p w).0 x)))

pub star_lang : (o n : ℕ) (a a' : Tree) → SameLang a a' → SameLang (star o a) (star n a')
star_lang o n a a' p w = (
  λ h. (h.0, power_map (Lang a) (Lang a') (λ u. (p u).0) h.0 w h.1),
  λ h. (h.0, power_map (Lang a') (Lang a) (λ u. (p u).1) h.0 w h.1),
)

-- ---- readings
pub same_empty : (o n : ℕ) → Same (empty o) (empty n)
same_empty o n = record { lang = λ w. (λ h. h, λ h. h); parts = tt; nodes = omega arith; special = refl }

pub same_epsilon : (o n : ℕ) → Same (epsilon o) (epsilon n)
same_epsilon o n = record { lang = λ w. (λ h. h, λ h. h); parts = tt; nodes = omega arith; special = refl }

pub same_letter : (o n : ℕ) (c : LetterSet) → Same (letter o c) (letter n c)
same_letter o n c = record { lang = λ w. (λ h. h, λ h. h); parts = tt; nodes = omega arith; special = refl }

module _ (o n : ℕ) {a b a' b' : Tree} (p : Same a a') (q : Same b b') where
  pub same_union : Same (union o a b) (union n a' b')
  same_union = record {
    lang = union_lang o n a b a' b' p.lang q.lang;
    parts = parts_append (special_parts a) (special_parts b) (special_parts a') (special_parts b') p.parts q.parts;
    nodes = omega (arith, p.nodes, q.nodes);
    special = omega (arith, p.special, q.special);
  }

  pub same_intersection : Same (intersection o a b) (intersection n a' b')
  same_intersection = record {
    lang = intersection_lang o n a b a' b' p.lang q.lang;
    parts = parts_append (special_parts a) (intersection o a b ∷ special_parts b) (special_parts a') (intersection n a' b' ∷ special_parts b') p.parts
        (intersection_lang o n a b a' b' p.lang q.lang, q.parts);
    nodes = omega (arith, p.nodes, q.nodes);
    special = omega (arith, p.special, q.special);
  }

  pub same_concatenation : Same (concatenation o a b) (concatenation n a' b')
  same_concatenation = record {
    lang = concatenation_lang o n a b a' b' p.lang q.lang;
    parts = parts_append (special_parts a) (special_parts b) (special_parts a') (special_parts b') p.parts q.parts;
    nodes = omega (arith, p.nodes, q.nodes);
    special = omega (arith, p.special, q.special);
  }

module _ (o n : ℕ) {a a' : Tree} (p : Same a a') where
  pub same_complement : Same (complement o a) (complement n a')
  same_complement = record {
    lang = complement_lang o n a a' p.lang;
    parts = (complement_lang o n a a' p.lang, p.parts);
    nodes = omega (arith, p.nodes);
    special = omega (arith, p.special);
  }

  pub same_star : Same (star o a) (star n a')
  same_star = record {
    lang = star_lang o n a a' p.lang;
    parts = p.parts;
    nodes = omega (arith, p.nodes);
    special = p.special;
  }

-- a star upon a star falls away
pub same_again : (o q : ℕ) (t : Tree) {u : Tree} → Same (star q t) u → Same (star o (star q t)) u
same_again o q t p = record {
  lang = λ w. (λ h. (p.lang w).0 ((star_idempotent o q t w).0 h), λ h. (star_idempotent o q t w).1 ((p.lang w).1 h));
  parts = p.parts;
  nodes = omega (arith, p.nodes);
  special = p.special;
}
