-- The special parts of a rule: which they are, and that they stand in rising byte offset. Assumes nothing.
use mathlib.Core.Path.{◌≡◌, refl, sym, ap, ap₂, subst}
use mathlib.Core.Logic.{⊎_elim}
use mathlib.Core.List.Memᴰ
use mathlib.Core.List.{List, [], ◌∷◌, ◌++◌, Memᴰ}
use Prim.Native.Nat.{ℕ, suc, ◌+◌, ◌≤◌}
use native.Mathlib.Omega.{arith}
use lib.Dec.{T}
use lib.ListN.{length, length-append}
use Rattle.expression.specs.Tree.{Tree, empty, epsilon, letter, union, intersection, concatenation, complement, star, offset, size, is_special}
use Rattle.expression.specs.Grammar.{Level, Alt, Reads, alt_conj, alt_bar, conj_seq, conj_amp, seq_pre, seq_more, pre_post, pre_bang, post_atom, post_star}
use Rattle.expression.specs.Grammar.{atom_letter, atom_any, atom_set, atom_empty, atom_epsilon, atom_group}
use Rattle.work.specs.Walk.{Part, itself, union_left, union_right, intersection_left, intersection_right, concatenation_left}
use Rattle.work.specs.Walk.{concatenation_right, complement_inner, star_inner}
use Rattle.work.specs.Table.{SpecialPart, Rising}
use Rattle.work.specs.TableComputed.{Members}
use Rattle.work.specs.TableComputed.{special_parts}

-- ---- rising byte offset
-- the offsets rise, from lo on and below hi
abbrev RisingIn : ℕ → List Tree → ℕ → Type 0
RisingIn lo [] hi = lo ≤ hi
RisingIn lo (t ∷ l) hi = (lo ≤ offset t) × RisingIn (suc (offset t)) l hi

wider : (lo lo' hi hi' : ℕ) (l : List Tree) → lo' ≤ lo → hi ≤ hi' → RisingIn lo l hi → RisingIn lo' l hi'
wider lo lo' hi hi' [] a b h = omega arith
wider lo lo' hi hi' (t ∷ l) a b h = (omega (arith, h.0), wider (suc (offset t)) (suc (offset t)) hi hi' l (omega arith) b h.1)

rising_append : (lo mid mid' hi : ℕ) (l m : List Tree) → mid ≤ mid' → RisingIn lo l mid → RisingIn mid' m hi → RisingIn lo (l ++ m) hi
rising_append lo mid mid' hi [] m a h k = wider mid' lo hi hi m (omega arith) (omega arith) k
rising_append lo mid mid' hi (t ∷ l) m a h k = (h.0, rising_append (suc (offset t)) mid mid' hi l m a h.1 k)

rising : {l : Level} {o : ℕ} {u : List ℕ} {t : Tree} → Reads l o u t → RisingIn o (special_parts t) (o + length u)
rising (alt_conj r) = rising r
rising {o = o} (alt_bar {u = u} {v = v} {t = t} {r = r} p q) =
    rising_append o (o + length u) (o + length u + 1) _ (special_parts t) (special_parts r) (omega arith) (rising p)
    (wider _ _ _ _ (special_parts r) (omega arith) (omega (arith, length-append u (124 ∷ v))) (rising q))
rising (conj_seq r) = rising r
rising {o = o} (conj_amp {u = u} {v = v} {t = t} {r = r} p q) =
    rising_append o (o + length u) (o + length u) _ (special_parts t) (intersection (o + length u) t r ∷ special_parts r) (omega arith) (rising p) (
      omega arith,
      wider (o + length u + 1) _ (o + length u + 1 + length v) _ (special_parts r) (omega arith)
          (omega (arith, length-append u (38 ∷ v))) (rising q),
    )
rising (seq_pre r) = rising r
rising {o = o} (seq_more {u = u} {v = v} {t = t} {r = r} p q) =
    rising_append o (o + length u) (o + length u) _ (special_parts t) (special_parts r) (omega arith) (rising p)
    (wider _ _ _ _ (special_parts r) (omega arith) (omega (arith, length-append u v)) (rising q))
rising (pre_post r) = rising r
rising {o = o} (pre_bang {u = u} {t = t} p) = (
  omega arith,
  wider (o + 1) _ (o + 1 + length u) _ (special_parts t) (omega arith)
      (omega arith) (rising p),
)
rising (post_atom r) = rising r
rising {o = o} (post_star {u = u} {t = t} p) = wider o o (o + length u) _ (special_parts t) (omega arith)
    (omega (arith, length-append u (42 ∷ []))) (rising p)
rising (atom_letter h) = omega arith
rising atom_any = omega arith
rising (atom_set u l h) = omega arith
rising atom_empty = omega arith
rising atom_epsilon = omega arith
rising {o = o} (atom_group {u = u} {t = t} p) = wider (o + 1) o (o + 1 + length u) _ (special_parts t) (omega arith)
    (omega (arith, length-append (40 ∷ u) (41 ∷ []))) (rising p)

unbounded : (lo hi : ℕ) (l : List Tree) → RisingIn lo l hi → Rising lo l
unbounded lo hi [] h = tt
unbounded lo hi (t ∷ l) h = (h.0, unbounded (suc (offset t)) hi l h.1)

-- 01: "one block for each special node, in rising byte offset"
pub parts_rising : {s : List ℕ} {t : Tree} → Reads Alt 0 s t → Rising 0 (special_parts t)
parts_rising {s} {t} r = unbounded 0 (0 + length s) (special_parts t) (rising r)

-- ---- exactly the special parts
pub listed_special : (t u : Tree) (x : ℕ) → Memᴰ u (special_parts t) → SpecialPart t x u
listed_special (empty o) u x m = absurd (Memᴰ.not-nil m)
listed_special (epsilon o) u x m = absurd (Memᴰ.not-nil m)
listed_special (letter o c) u x m = absurd (Memᴰ.not-nil m)
listed_special (union o a b) u x m =
    ⊎_elim (λ k. let (y, p, s) = listed_special a u x k in (y, union_left p, s))
    (λ k. let (y, p, s) = listed_special b u (x + size a) k in (y, union_right p, s)) (Memᴰ.append_cases (special_parts a) m)
listed_special (intersection o a b) u x m =
    ⊎_elim (λ k. let (y, p, s) = listed_special a u x k in (y, intersection_left p, s))
    (λ k. ⊎_elim (λ (e : u ≡ intersection o a b). subst (SpecialPart (intersection o a b) x) (sym e) (x, itself, tt))
    (λ n. let (y, p, s) = listed_special b u (x + size a) n in (y, intersection_right p, s)) (Memᴰ.cases_cons k))
    (Memᴰ.append_cases (special_parts a) m)
listed_special (concatenation o a b) u x m =
    ⊎_elim (λ k. let (y, p, s) = listed_special a u x k in (y, concatenation_left p, s))
    (λ k. let (y, p, s) = listed_special b u (x + size a) k in (y, concatenation_right p, s))
    (Memᴰ.append_cases (special_parts a) m)
listed_special (complement o a) u x m =
    ⊎_elim (λ (e : u ≡ complement o a). subst (SpecialPart (complement o a) x) (sym e) (x, itself, tt))
    (λ k. let (y, p, s) = listed_special a u x k in (y, complement_inner p, s)) (Memᴰ.cases_cons m)
listed_special (star o a) u x m = let (y, p, s) = listed_special a u x m in (y, star_inner p, s)

root_listed : (t : Tree) → T (is_special t) → Memᴰ t (special_parts t)
root_listed (empty o) h = absurd h
root_listed (epsilon o) h = absurd h
root_listed (letter o c) h = absurd h
root_listed (union o a b) h = absurd h
root_listed (intersection o a b) h = Memᴰ.append_right (special_parts a) (Memᴰ.head refl)
root_listed (concatenation o a b) h = absurd h
root_listed (complement o a) h = Memᴰ.head refl
root_listed (star o a) h = absurd h

pub special_listed : {t u : Tree} {x y : ℕ} → Part t x u y → T (is_special u) → Memᴰ u (special_parts t)
special_listed {t} itself h = root_listed t h
special_listed (union_left {b = b} p) h = Memᴰ.append_left (special_parts b) (special_listed p h)
special_listed (union_right {a = a} p) h = Memᴰ.append_right (special_parts a) (special_listed p h)
special_listed (intersection_left {o} {a = a} {b = b} p) h = Memᴰ.append_left (intersection o a b ∷ special_parts b) (special_listed p h)
special_listed (intersection_right {a = a} p) h = Memᴰ.append_right (special_parts a) (Memᴰ.tail (special_listed p h))
special_listed (concatenation_left {b = b} p) h = Memᴰ.append_left (special_parts b) (special_listed p h)
special_listed (concatenation_right {a = a} p) h = Memᴰ.append_right (special_parts a) (special_listed p h)
special_listed (complement_inner p) h = Memᴰ.tail (special_listed p h)
special_listed (star_inner p) h = special_listed p h

-- ---- one list only
above : (lo : ℕ) (l : List Tree) (u : Tree) → Rising lo l → Memᴰ u l → lo ≤ offset u
above lo [] u r m = absurd (Memᴰ.not-nil m)
above lo (t ∷ l) u r m =
    ⊎_elim (λ (e : u ≡ t). rw e r.0) (λ k. let h = above (suc (offset t)) l u r.1 k in omega (arith, r.0)) (Memᴰ.cases_cons m)

-- the first of a rising list stands in no other place, so what is left has the same members
rest_members : (lo : ℕ) (t : Tree) (k l : List Tree) → Rising lo (t ∷ k) → Members (t ∷ k) (t ∷ l) → Members k l
rest_members lo t k l r f u m =
    ⊎_elim (λ (e : u ≡ t). let h = above (suc (offset t)) k u r.1 m in let g = ap (λ (x : Tree). offset x) e in absurd (omega arith)) (λ n. n)
    (Memᴰ.cases_cons (f u (Memᴰ.tail m)))

first_same : (lo lo' : ℕ) (t v : Tree) (k l : List Tree) → Rising lo (t ∷ k) → Rising lo' (v ∷ l)
    → Members (t ∷ k) (v ∷ l) → Members (v ∷ l) (t ∷ k) → t ≡ v
first_same lo lo' t v k l r q f g =
    ⊎_elim (λ (e : t ≡ v). e)
    (λ m. ⊎_elim (λ (e : v ≡ t). sym e)
    (λ n. let a = above (suc (offset v)) l t q.1 m in let b = above (suc (offset t)) k v r.1 n in absurd (omega arith))
    (Memᴰ.cases_cons (g v (Memᴰ.head refl))))
    (Memᴰ.cases_cons (f t (Memᴰ.head refl)))

-- two rising lists with the same members are one
pub rising_one : (lo lo' : ℕ) (k l : List Tree) → Rising lo k → Rising lo' l → Members k l → Members l k → k ≡ l
rising_one lo lo' [] [] r q f g = refl
rising_one lo lo' [] (v ∷ l) r q f g = absurd (Memᴰ.not-nil (g v (Memᴰ.head refl)))
rising_one lo lo' (t ∷ k) [] r q f g = absurd (Memᴰ.not-nil (f t (Memᴰ.head refl)))
rising_one lo lo' (t ∷ k) (v ∷ l) r q f g =
    let e = first_same lo lo' t v k l r q f g in
    let f' : Members (t ∷ k) (t ∷ l) = subst (λ (x : Tree). Members (t ∷ k) (x ∷ l)) (sym e) f in
    let g' : Members (v ∷ l) (v ∷ k) = subst (λ (x : Tree). Members (v ∷ l) (x ∷ k)) e g in
    ap₂ ◌∷◌ e (rising_one (suc (offset t)) (suc (offset v)) k l r.1 q.1 (rest_members lo t k l r f') (rest_members lo' v l k q g'))
