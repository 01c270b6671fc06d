-- The listed spans are exactly those that obey, each once, by rising start and then rising end. Assumes nothing.
use mathlib.Core.Path.{◌≡◌, refl, sym, ap, subst}
use mathlib.Core.Logic.{◌⊎◌, inl, inr, ⊎_elim, ◌↔◌}
use mathlib.Core.List.Memᴰ
use mathlib.Core.List.{[], ◌∷◌, Memᴰ}
use mathlib.Core.Bool.{Bool, true, false}
use Prim.Native.Nat.{ℕ, zero, suc, ◌+◌, ◌≤◌, ◌<◌}
use native.Mathlib.Omega.{arith}
use native.Mathlib.Nat.{eq-or-lt_of_le}
use lib.Dec.{T}
use lib.ListN.{length}
use lib.Seq.{slice}
use Rattle.event.specs.Event.{Word}
use Rattle.expression.specs.Tree.{Tree}
use Rattle.expression.specs.Accept.{accepts}
use Rattle.expression.proofs.LangDecided.{decides}
use Rattle.work.specs.Span.{Obeys}
use Rattle.work.specs.SizeOf.{Once, SizeOf}
use Rattle.work.specs.Spans.{Spans, Before, InOrder}
use Rattle.work.specs.SpansComputed.{list_if, from_start, from_starts, obeying}

list_in : (b : Bool) (i j : ℕ) (l : Spans) (p : ℕ × ℕ) → Memᴰ p (list_if b i j l) → (T b × (p ≡ (i, j))) ⊎ Memᴰ p l
list_in true i j l p m = ⊎_elim (λ e. inl (tt, e)) (λ k. inr k) (Memᴰ.cases_cons m)
list_in false i j l p m = inr m

list_keep : (b : Bool) (i j : ℕ) (l : Spans) (p : ℕ × ℕ) → Memᴰ p l → Memᴰ p (list_if b i j l)
list_keep true i j l p m = Memᴰ.tail m
list_keep false i j l p m = m

list_hit : (b : Bool) (i j : ℕ) (l : Spans) (p : ℕ × ℕ) → T b → p ≡ (i, j) → Memᴰ p (list_if b i j l)
list_hit true i j l p h e = Memᴰ.head e
list_hit false i j l p h e = absurd h

list_order : (b : Bool) (i j : ℕ) (l : Spans) → ((q : ℕ × ℕ) → Memᴰ q l → Before (i, j) q) → InOrder l → InOrder (list_if b i j l)
list_order true i j l h o = (h, o)
list_order false i j l h o = o

-- a list in order has no span twice
order_once : (l : Spans) → InOrder l → Once l
order_once [] o = tt
order_once (p ∷ l) o = (λ m. ⊎_elim (λ h. omega (arith, h)) (λ h. omega (arith, h.1)) (o.0 p m), order_once l o.1)

module _ (w : Word) (t : Tree) where
  abbrev Hit : ℕ → ℕ → Type 0
  Hit i j = T (accepts t (slice i j w))

  -- span p begins at i, ends from j to j + d, and obeys
  abbrev Begun : ℕ → ℕ → ℕ → ℕ × ℕ → Type 0
  Begun i j d p = (p.0 ≡ i) × (j ≤ p.1) × (p.1 ≤ j + d) × Hit p.0 p.1

  begun_here : (i j d : ℕ) (p : ℕ × ℕ) → Hit i j → p ≡ (i, j) → Begun i j d p
  begun_here i j d p h e =
      let a : p.0 ≡ i = ap (λ (q : ℕ × ℕ). q.0) e in
      let b : p.1 ≡ j = ap (λ (q : ℕ × ℕ). q.1) e in
      (a, omega arith, omega arith, rw (a, b) h)

  start_in : (d i j : ℕ) (l : Spans) (p : ℕ × ℕ) → Memᴰ p (from_start w t i d j l) → Begun i j d p ⊎ Memᴰ p l
  start_in zero i j l p m = ⊎_elim (λ h. inl (begun_here i j 0 p h.0 h.1)) (λ k. inr k) (list_in (accepts t (slice i j w)) i j l p m)
  start_in (suc d) i j l p m =
      ⊎_elim (λ h. inl (begun_here i j (suc d) p h.0 h.1))
      (λ k. ⊎_elim (λ h. inl (h.0, omega (arith, h.1), omega (arith, h.2), h.3)) (λ r. inr r) (start_in d i (suc j) l p k))
      (list_in (accepts t (slice i j w)) i j (from_start w t i d (suc j) l) p m)

  start_keep : (d i j : ℕ) (l : Spans) (p : ℕ × ℕ) → Memᴰ p l → Memᴰ p (from_start w t i d j l)
  start_keep zero i j l p m = list_keep (accepts t (slice i j w)) i j l p m
  start_keep (suc d) i j l p m = list_keep (accepts t (slice i j w)) i j (from_start w t i d (suc j) l) p (start_keep d i (suc j) l p m)

  start_hit : (d i j k : ℕ) (l : Spans) → j ≤ k → k ≤ j + d → Hit i k → Memᴰ (i, k) (from_start w t i d j l)
  start_hit zero i j k l a b h =
      let e : k ≡ j = omega arith in
      list_hit (accepts t (slice i j w)) i j l (i, k) (rw e at h) (ap (λ n. (i, n)) e)
  start_hit (suc d) i j k l a b h = go (eq-or-lt_of_le a) (start_hit d i (suc j) k l)
    where
      go : (j ≡ k) ⊎ (j < k) → (suc j ≤ k → k ≤ suc j + d → Hit i k → Memᴰ (i, k) (from_start w t i d (suc j) l))
          → Memᴰ (i, k) (from_start w t i (suc d) j l)
      go (inl e) r = list_hit (accepts t (slice i j w)) i j (from_start w t i d (suc j) l) (i, k) (rw (← e) at h) (ap (λ n. (i, n)) (sym e))
      go (inr m) r = list_keep (accepts t (slice i j w)) i j (from_start w t i d (suc j) l) (i, k) (r m (omega arith) h)

  start_order : (d i j : ℕ) (l : Spans) → ((q : ℕ × ℕ) → Memᴰ q l → i < q.0) → InOrder l → InOrder (from_start w t i d j l)
  start_order zero i j l h o = list_order (accepts t (slice i j w)) i j l (λ q m. inl (h q m)) o
  start_order (suc d) i j l h o =
      list_order (accepts t (slice i j w)) i j (from_start w t i d (suc j) l)
      (λ q m. ⊎_elim (λ b. inr (sym b.0, omega (arith, b.1))) (λ k. inl (h q k)) (start_in d i (suc j) l q m))
      (start_order d i (suc j) l h o)

  -- span p lies between i and i + d, and obeys
  abbrev Between : ℕ → ℕ → ℕ × ℕ → Type 0
  Between i d p = (i ≤ p.0) × (p.0 ≤ p.1) × (p.1 ≤ i + d) × Hit p.0 p.1

  between_here : (i d : ℕ) (p : ℕ × ℕ) → Begun i i d p → Between i d p
  between_here i d p h = (omega (arith, h.0), omega (arith, h.0, h.1), h.2, h.3)

  starts_in : (d i : ℕ) (p : ℕ × ℕ) → Memᴰ p (from_starts w t d i) → Between i d p
  starts_in zero i p m = ⊎_elim (λ h. between_here i 0 p h) (λ k. absurd (Memᴰ.not-nil k)) (start_in 0 i i [] p m)
  starts_in (suc d) i p m =
      ⊎_elim (λ h. between_here i (suc d) p h)
      (λ k. let h = starts_in d (suc i) p k in (omega (arith, h.0), h.1, omega (arith, h.2), h.3))
      (start_in (suc d) i i (from_starts w t d (suc i)) p m)

  starts_hit : (d i j k : ℕ) → i ≤ j → j ≤ k → k ≤ i + d → Hit j k → Memᴰ (j, k) (from_starts w t d i)
  starts_hit zero i j k a b c h =
      let e : j ≡ i = omega arith in
      subst (λ n. Memᴰ (n, k) (from_starts w t 0 i)) (sym e) (start_hit 0 i i k [] (omega arith) (omega arith) (rw e at h))
  starts_hit (suc d) i j k a b c h = go (eq-or-lt_of_le a) (starts_hit d (suc i) j k)
    where
      go : (i ≡ j) ⊎ (i < j) → (suc i ≤ j → j ≤ k → k ≤ suc i + d → Hit j k → Memᴰ (j, k) (from_starts w t d (suc i)))
          → Memᴰ (j, k) (from_starts w t (suc d) i)
      go (inl e) r = subst (λ n. Memᴰ (n, k) (from_starts w t (suc d) i)) e
          (start_hit (suc d) i i k (from_starts w t d (suc i)) (omega arith) c (rw (← e) at h))
      go (inr m) r = start_keep (suc d) i i (from_starts w t d (suc i)) (j, k) (r m b (omega arith) h)

  starts_order : (d i : ℕ) → InOrder (from_starts w t d i)
  starts_order zero i = start_order 0 i i [] (λ q m. absurd (Memᴰ.not-nil m)) tt
  starts_order (suc d) i =
      start_order (suc d) i i (from_starts w t d (suc i)) (λ q m. omega (arith, (starts_in d (suc i) q m).0)) (starts_order d (suc i))

  pub listed : (i j : ℕ) → Memᴰ (i, j) (obeying w t) ↔ Obeys w t i j
  unfolding obeying
  listed i j = (
    λ m. let h = starts_in (length w) 0
        (i, j) m in record { order = h.1; inside = omega (arith, h.2); word = (decides t (slice i j w)).0 h.3 },
    λ o. starts_hit (length w) 0 i j (omega arith) o.order (omega (arith, o.inside)) ((decides t (slice i j w)).1 o.word),
  )

  pub listed_order : InOrder (obeying w t)
  unfolding obeying
  listed_order = starts_order (length w) 0

  -- the spans that obey are as many as are listed
  pub listed_size : SizeOf (λ (p : ℕ × ℕ). Obeys w t p.0 p.1) (length (obeying w t))
  unfolding obeying
  listed_size = record { list = obeying w t; once = order_once (obeying w t) listed_order; holds = λ p. listed p.0 p.1; count = refl }
