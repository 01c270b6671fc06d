-- The marked spans of a block: which they are, that they are listed in order, and that an order lists them in one way. Assumes nothing.
use Prim.Native.Nat.{ℕ, zero, suc, ◌+◌, ◌≤◌, ◌<◌}
use native.Mathlib.Omega.{arith}
use native.Mathlib.Nat.{eq-or-lt_of_le}
use mathlib.Core.Path.{◌≡◌, refl, sym, ap, ap₂, ◌∙◌}
use mathlib.Core.Logic.{◌⊎◌, inl, inr, ⊎_elim, ◌↔◌}
use mathlib.Core.Bool.{Bool, true, false, false≢true}
use mathlib.Core.List.Memᴰ
use mathlib.Core.List.{List, [], ◌∷◌, ◌++◌, Memᴰ}
use Rattle.work.specs.Spans.{Spans, Before, InOrder}
use Rattle.work.specs.SpansComputed.{list_if}
use Rattle.listing.specs.Marked.{ends, starts, is_marked, marked}

-- ---- the members
-- s begins at i, ends from j to j + d - 1, and passes
abbrev Begins : (ℕ → Bool) → ℕ → ℕ → ℕ → ℕ × ℕ → Type 0
Begins f i d j s = (s.0 ≡ i) × (j ≤ s.1) × (s.1 < j + d) × (f s.1 ≡ true)

ends_in : (f : ℕ → Bool) (i d j : ℕ) (s : ℕ × ℕ) → Memᴰ s (ends f i d j) → Begins f i d j s
unfolding ends
ends_in f i zero j s m = absurd (Memᴰ.not-nil m)
ends_in f i (suc d) j s m = go (f j) refl m (ends_in f i d (suc j) s)
  where
    later : Begins f i d (suc j) s → Begins f i (suc d) j s
    later h = (h.0, omega (arith, h.1), omega (arith, h.2), h.3)

    go : (b : Bool) → f j ≡ b → Memᴰ s (list_if b i j (ends f i d (suc j)))
        → (Memᴰ s (ends f i d (suc j)) → Begins f i d (suc j) s) → Begins f i (suc d) j s
    go false e n r = later (r n)
    go true e n r =
        ⊎_elim (λ (g : s ≡ (i, j)).
        let k : s.1 ≡ j = ap (λ (q : ℕ × ℕ). q.1) g in
        (ap (λ (q : ℕ × ℕ). q.0) g, omega arith, omega arith, ap f k ∙ e))
        (λ k. later (r k)) (Memᴰ.cases_cons n)

ends_hit : (f : ℕ → Bool) (i d j : ℕ) (s : ℕ × ℕ) → Begins f i d j s → Memᴰ s (ends f i d j)
unfolding ends
ends_hit f i zero j s h = absurd (omega (arith, h.1, h.2))
ends_hit f i (suc d) j s h = go (f j) refl (eq-or-lt_of_le h.1) (ends_hit f i d (suc j) s)
  where
    go : (b : Bool) → f j ≡ b → (j ≡ s.1) ⊎ (j < s.1) → (Begins f i d (suc j) s → Memᴰ s (ends f i d (suc j)))
        → Memᴰ s (list_if b i j (ends f i d (suc j)))
    go true e (inl g) r = Memᴰ.head (ap₂ (λ (x y : ℕ). (x, y)) h.0 (sym g))
    go true e (inr g) r = Memᴰ.tail (r (h.0, g, omega (arith, h.2), h.3))
    go false e (inl g) r = absurd (false≢true (sym e ∙ ap f g ∙ h.3))
    go false e (inr g) r = r (h.0, g, omega (arith, h.2), h.3)

-- s lies between i and i + d - 1, and passes
abbrev Within : (ℕ → ℕ → Bool) → ℕ → ℕ → ℕ × ℕ → Type 0
Within f d i s = (i ≤ s.0) × (s.0 ≤ s.1) × (s.1 < i + d) × (f s.0 s.1 ≡ true)

starts_in : (f : ℕ → ℕ → Bool) (d i : ℕ) (s : ℕ × ℕ) → Memᴰ s (starts f d i) → Within f d i s
unfolding starts
starts_in f zero i s m = absurd (Memᴰ.not-nil m)
starts_in f (suc d) i s m =
    ⊎_elim (λ k.
    let h = ends_in (f i) i (suc d) i s k in
    (omega (arith, h.0), omega (arith, h.0, h.1), h.2, ap (λ (x : ℕ). f x s.1) h.0 ∙ h.3))
    (λ k. let h = starts_in f d (suc i) s k in (omega (arith, h.0), h.1, omega (arith, h.2), h.3))
    (Memᴰ.append_cases (ends (f i) i (suc d) i) m)

starts_hit : (f : ℕ → ℕ → Bool) (d i : ℕ) (s : ℕ × ℕ) → Within f d i s → Memᴰ s (starts f d i)
unfolding starts
starts_hit f zero i s h = absurd (omega (arith, h.0, h.1, h.2))
starts_hit f (suc d) i s h = go (eq-or-lt_of_le h.0) (starts_hit f d (suc i) s)
  where
    go : (i ≡ s.0) ⊎ (i < s.0) → (Within f d (suc i) s → Memᴰ s (starts f d (suc i)))
        → Memᴰ s (ends (f i) i (suc d) i ++ starts f d (suc i))
    go (inl e) r = Memᴰ.append_left (starts f d (suc i))
        (ends_hit (f i) i (suc d) i s (sym e, omega (arith, h.1), h.2, ap (λ (x : ℕ). f x s.1) e ∙ h.3))
    go (inr l) r = Memᴰ.append_right (ends (f i) i (suc d) i) (r (l, h.1, omega (arith, h.2), h.3))

pub marked_has : (n : ℕ) (a : List ℕ) (p : ℕ × ℕ)
    → Memᴰ p (marked n a) ↔ ((p.0 ≤ p.1) × (p.1 ≤ n) × (is_marked n a p.0 p.1 ≡ true))
marked_has n a p = (
  λ m. let h = starts_in (is_marked n a) (suc n) 0 p m in (h.1, omega (arith, h.2), h.3),
  λ h. starts_hit (is_marked n a) (suc n) 0 p (omega arith, h.0, omega (arith, h.1), h.2),
)

-- ---- their order
ends_order : (f : ℕ → Bool) (i d j : ℕ) → InOrder (ends f i d j)
unfolding ends
ends_order f i zero j = tt
ends_order f i (suc d) j = go (f j) (ends_order f i d (suc j))
  where
    go : (b : Bool) → InOrder (ends f i d (suc j)) → InOrder (list_if b i j (ends f i d (suc j)))
    go true o = (λ s m. let h = ends_in f i d (suc j) s m in inr (sym h.0, h.1), o)
    go false o = o

append_order : (l m : Spans) → InOrder l → InOrder m → ((p q : ℕ × ℕ) → Memᴰ p l → Memᴰ q m → Before p q) → InOrder (l ++ m)
append_order [] m o r h = r
append_order (p ∷ l) m o r h = (
  λ q k. ⊎_elim (o.0 q) (h p q (Memᴰ.head refl)) (Memᴰ.append_cases l k),
  append_order l m o.1 r (λ s q k. h s q (Memᴰ.tail k)),
)

starts_order : (f : ℕ → ℕ → Bool) (d i : ℕ) → InOrder (starts f d i)
unfolding starts
starts_order f zero i = tt
starts_order f (suc d) i =
    append_order (ends (f i) i (suc d) i) (starts f d (suc i)) (ends_order (f i) i (suc d) i) (starts_order f d (suc i))
    (λ p q k l. let e = (ends_in (f i) i (suc d) i p k).0 in let h = (starts_in f d (suc i) q l).0 in inl (omega arith))

pub marked_order : (n : ℕ) (a : List ℕ) → InOrder (marked n a)
marked_order n a = starts_order (is_marked n a) (suc n) 0

-- ---- two lists in order with the same members are one list
never_before : (p q : ℕ × ℕ) → Before p q → Before q p → ⊥
never_before p q (inl h) (inl k) = omega arith
never_before p q (inl h) (inr k) = omega (arith, k.0)
never_before p q (inr h) (inl k) = omega (arith, h.0)
never_before p q (inr h) (inr k) = omega (arith, h.1, k.1)

never_itself : (p q : ℕ × ℕ) → p ≡ q → Before p q → ⊥
never_itself p q e (inl h) = let f : p.0 ≡ q.0 = ap (λ (r : ℕ × ℕ). r.0) e in omega arith
never_itself p q e (inr h) = let f : p.1 ≡ q.1 = ap (λ (r : ℕ × ℕ). r.1) e in omega (arith, h.1)

-- the first of one list is the first of the other
same_first : (p q : ℕ × ℕ) (l m : Spans) → InOrder (p ∷ l) → InOrder (q ∷ m) → Memᴰ p (q ∷ m) → Memᴰ q (p ∷ l) → p ≡ q
same_first p q l m o r g h =
    ⊎_elim (λ (e : p ≡ q). e)
    (λ k. ⊎_elim (λ (e : q ≡ p). sym e) (λ n. absurd (never_before p q (o.0 q n) (r.0 p k))) (Memᴰ.cases_cons h))
    (Memᴰ.cases_cons g)

-- what stands behind the first of one stands behind the first of the other
behind : (p q : ℕ × ℕ) (l m : Spans) → p ≡ q → InOrder (p ∷ l) → (s : ℕ × ℕ) → Memᴰ s l → Memᴰ s (q ∷ m) → Memᴰ s m
behind p q l m e o s g h =
    ⊎_elim (λ (f : s ≡ q). absurd (never_itself p s (e ∙ sym f) (o.0 s g))) (λ k. k) (Memᴰ.cases_cons h)

pub order_one : (l m : Spans) → InOrder l → InOrder m → ((p : ℕ × ℕ) → Memᴰ p l ↔ Memᴰ p m) → l ≡ m
order_one [] [] o r h = refl
order_one [] (q ∷ m) o r h = absurd (Memᴰ.not-nil ((h q).1 (Memᴰ.head refl)))
order_one (p ∷ l) [] o r h = absurd (Memᴰ.not-nil ((h p).0 (Memᴰ.head refl)))
order_one (p ∷ l) (q ∷ m) o r h =
    let e = same_first p q l m o r ((h p).0 (Memᴰ.head refl)) ((h q).1 (Memᴰ.head refl)) in
    ap₂ (λ (s : ℕ × ℕ) (n : Spans). s ∷ n) e
    (order_one l m o.1 r.1 (λ s. (
      λ k. behind p q l m e o s k ((h s).0 (Memᴰ.tail k)),
      λ k. behind q p m l (sym e) r s k ((h s).1 (Memᴰ.tail k)),
    )))
