-- `accepts` decides the language: T (accepts t w) ↔ Lang t w, for every tree and every word. Assumes nothing.
use mathlib.Core.Path.{◌≡◌, refl, sym, ap, subst}
use mathlib.Core.Logic.{◌⊎◌, inl, inr, ⊎_elim, ◌↔◌}
use mathlib.Core.List.{[], ◌∷◌, ◌++◌, append-nil, append_assoc, nil≢cons, cons≢nil, head-eq_of_cons-eq, tail-eq_of_cons-eq}
use mathlib.Core.Bool.{Bool, not, ◌&&◌}
use Prim.Native.Nat.{ℕ, zero, suc, ◌≤◌}
use native.Mathlib.Omega.{arith}
use lib.Dec.{T, not_T, T_not}
use lib.ListN.{length, length-append}
use Rattle.event.specs.Event.{is_event, Word, Events}
use Rattle.event.specs.LetterSets.{holds}
use Rattle.event.specs.declared.sets.LetterSet.{LetterSet}
use Rattle.event.proofs.Tests.{and_split, and_join, or_split, or_left, or_right}
use Rattle.expression.specs.Tree.{Tree, empty, epsilon, letter, union, intersection, concatenation, complement, star}
use Rattle.expression.specs.Lang.{Concat, Power, Lang}
use Rattle.expression.specs.Accept.{is_nil, is_letter, are_events, cut, joined, accepts}

-- the language that a test decides
abbrev pub In : (Word → Bool) → Word → Type 0
In f u = T (f u)

-- ---- a cut
pub cut_sound : (f g : Word → Bool) (w : Word) → T (cut f g w) → Concat (In f) (In g) w
cut_sound f g [] h = let p = and_split (f []) (g []) h in ([], [], refl, p.0, p.1)
cut_sound f g (x ∷ w) h = go (or_split (f [] && g (x ∷ w)) (cut (λ u. f (x ∷ u)) g w) h) (cut_sound (λ u. f (x ∷ u)) g w)
  where
    go : T (f [] && g (x ∷ w)) ⊎ T (cut (λ u. f (x ∷ u)) g w) → (T (cut (λ u. f (x ∷ u)) g w) → Concat (In (λ u. f (x ∷ u))) (In g) w)
        → Concat (In f) (In g) (x ∷ w)
    go (inl p) k = let q = and_split (f []) (g (x ∷ w)) p in ([], x ∷ w, refl, q.0, q.1)
    go (inr p) k = let (u, v, e, hu, hv) = k p in (x ∷ u, v, ap (x ∷◌) e, hu, hv)

pub cut_complete : (f g : Word → Bool) (u v : Word) → T (f u) → T (g v) → T (cut f g (u ++ v))
cut_complete f g [] [] p q = and_join (f []) (g []) p q
cut_complete f g [] (y ∷ v) p q = or_left (f [] && g (y ∷ v)) (cut (λ u. f (y ∷ u)) g v) (and_join (f []) (g (y ∷ v)) p q)
cut_complete f g (x ∷ u) v p q = or_right (f [] && g (x ∷ (u ++ v))) (cut (λ z. f (x ∷ z)) g (u ++ v))
    (cut_complete (λ z. f (x ∷ z)) g u v p q)

-- ---- powers
pub power_map : (L M : Word → Type 0) → ((u : Word) → L u → M u) → (i : ℕ) (w : Word) → Power L i w → Power M i w
power_map L M f zero w h = h
power_map L M f (suc i) w h = let (u, v, e, hu, hv) = h in (u, v, e, power_map L M f i u hu, f v hv)

pub power_cons : (L : Word → Type 0) (i : ℕ) (u v : Word) → L u → Power L i v → Power L (suc i) (u ++ v)
power_cons L zero u v hu e = ([], u, rw (e, append-nil), refl, hu)
power_cons L (suc i) u v hu h =
    let (p, q, e, hp, hq) = h in
    (u ++ p, q, rw (e, append_assoc), power_cons L i u p hu hp, hq)

-- ---- a joined word
pub joined_sound : (f : Word → Bool) (d : ℕ) (w : Word) → T (joined f d w) → (i : ℕ) × Power (In f) i w
joined_sound f zero [] h = (0, refl)
joined_sound f zero (x ∷ w) h = absurd h
joined_sound f (suc d) [] h = (0, refl)
joined_sound f (suc d) (x ∷ w) h =
    let (u, v, e, hu, hv) = cut_sound (λ u. f (x ∷ u)) (joined f d) w h in
    let (i, p) = joined_sound f d v hv in
    (suc i, subst (Power (In f) (suc i)) (sym (ap (x ∷◌) e)) (power_cons (In f) i (x ∷ u) v hu p))

joined_nil : (f : Word → Bool) (d : ℕ) → T (joined f d [])
joined_nil f zero = tt
joined_nil f (suc d) = tt

joined_one : (f : Word → Bool) (d : ℕ) (v : Word) → length v ≤ d → T (f v) → T (joined f d v)
joined_one f d [] l h = joined_nil f d
joined_one f zero (x ∷ v) l h = absurd (omega arith)
joined_one f (suc d) (x ∷ v) l h = rw append-nil at (cut_complete (λ u. f (x ∷ u)) (joined f d) v [] h (joined_nil f d))

joined_snoc : (f : Word → Bool) (e d : ℕ) (u v : Word) → length (u ++ v) ≤ d → T (joined f e u) → T (f v) → T (joined f d (u ++ v))
joined_snoc f zero d [] v l r h = joined_one f d v l h
joined_snoc f zero d (x ∷ u) v l r h = absurd r
joined_snoc f (suc e) d [] v l r h = joined_one f d v l h
joined_snoc f (suc e) zero (x ∷ u) v l r h = absurd (omega arith)
joined_snoc f (suc e) (suc d) (x ∷ u) v l r h =
    let (p, q, k, hp, hq) = cut_sound (λ z. f (x ∷ z)) (joined f e) u r in
    let m : length (q ++ v) ≤ d = simp length-append (omega (arith, simp length-append at l, simp length-append at (ap length k))) in
    rw (k, append_assoc) (cut_complete (λ z. f (x ∷ z)) (joined f d) p (q ++ v) hp (joined_snoc f e d q v m hq h))

pub joined_complete : (f : Word → Bool) (i : ℕ) (w : Word) → Power (In f) i w → T (joined f (length w) w)
joined_complete f zero w e = rw e tt
joined_complete f (suc i) w h =
    let (u, v, e, hu, hv) = h in
    rw e (joined_snoc f (length u) (length (u ++ v)) u v (omega arith) (joined_complete f i u hu) hv)

-- ---- the leaves
is_nil_eq : (w : Word) → T (is_nil w) ↔ (w ≡ [])
is_nil_eq [] = (λ h. refl, λ e. tt)
is_nil_eq (x ∷ w) = (λ h. absurd h, λ e. absurd (cons≢nil e))

is_letter_eq : (c : LetterSet) (w : Word) → T (is_letter c w) ↔ ((x : ℕ) × (w ≡ x ∷ []) × T (holds c x))
is_letter_eq c [] = (λ h. absurd h, λ h. absurd (nil≢cons h.1))
is_letter_eq c (x ∷ w) = (
  λ h. let p = and_split (holds c x) (is_nil w) h in (x, ap (x ∷◌) ((is_nil_eq w).0 p.1), p.0),
  λ h. and_join (holds c x) (is_nil w) (subst (λ (y : ℕ). T (holds c y)) (sym (head-eq_of_cons-eq h.1)) h.2) ((is_nil_eq w).1 (tail-eq_of_cons-eq h.1)),
)

are_events_eq : (w : Word) → T (are_events w) ↔ Events w
are_events_eq [] = (λ h. h, λ h. h)
are_events_eq (x ∷ w) = (
  λ h. let p = and_split (is_event x) (are_events w) h in (p.0, (are_events_eq w).0 p.1),
  λ h. and_join (is_event x) (are_events w) h.0 ((are_events_eq w).1 h.1),
)

-- ---- the theorem
pub decides : (t : Tree) (w : Word) → T (accepts t w) ↔ Lang t w
unfolding accepts
decides (empty o) w = (λ h. h, λ h. h)
decides (epsilon o) w = is_nil_eq w
decides (letter o c) w = is_letter_eq c w
decides (union o a b) w = (
  λ h. ⊎_elim (λ p. inl ((decides a w).0 p)) (λ q. inr ((decides b w).0 q)) (or_split (accepts a w) (accepts b w) h),
  λ h. ⊎_elim (λ p. or_left (accepts a w) (accepts b w) ((decides a w).1 p))
      (λ q. or_right (accepts a w) (accepts b w) ((decides b w).1 q)) h,
)
decides (intersection o a b) w = (
  λ h. let p = and_split (accepts a w) (accepts b w) h in ((decides a w).0 p.0, (decides b w).0 p.1),
  λ h. and_join (accepts a w) (accepts b w) ((decides a w).1 h.0) ((decides b w).1 h.1),
)
decides (concatenation o a b) w = (
  λ h. let (u, v, e, hu, hv) = cut_sound (accepts a) (accepts b) w h in (u, v, e, (decides a u).0 hu, (decides b v).0 hv),
  λ h. let (u, v, e, hu, hv) = h in rw e (cut_complete (accepts a) (accepts b) u v ((decides a u).1 hu) ((decides b v).1 hv)),
)
decides (star o a) w = (
  λ h. let (i, p) = joined_sound (accepts a) (length w) w h in (i, power_map (In (accepts a)) (Lang a) (λ u. (decides a u).0) i w p),
  λ h. joined_complete (accepts a) h.0 w (power_map (Lang a) (In (accepts a)) (λ u. (decides a u).1) h.0 w h.1),
)
decides (complement o a) w = (
  λ h. let p = and_split (are_events w) (not (accepts a w)) h in
      ((are_events_eq w).0 p.0, λ l. T_not (accepts a w) p.1 ((decides a w).1 l)),
  λ h. and_join (are_events w) (not (accepts a w)) ((are_events_eq w).1 h.0) (not_T (accepts a w) (λ k. h.1 ((decides a w).0 k))),
)
