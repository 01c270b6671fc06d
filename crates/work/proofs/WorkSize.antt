-- The full work count is the size of the collection that document 01 describes. Assumes nothing.
use mathlib.Core.Path.{◌≡◌, refl, sym, ap, subst, ◌∙◌}
use mathlib.Core.Logic.{◌⊎◌, inl, inr, ⊎_elim, ◌↔◌}
use Prim.Native.Nat.{ℕ, suc, ◌+◌, ◌≤◌}
use native.Mathlib.Omega.{arith}
use lib.ListN.{length}
use Rattle.event.specs.Event.{Word}
use Rattle.expression.specs.Tree.{Tree, empty, epsilon, letter, union, intersection, concatenation, complement, star, below, size}
use Rattle.work.specs.Walk.{Owner, whole, special, Visit, Collection}
use Rattle.work.specs.SizeOf.{SizeOf}
use Rattle.work.specs.Count.{walks, special_walks, full_count}
use Rattle.work.proofs.Sizes.{size_none, size_same, size_sum}
use Rattle.work.proofs.WalkSize.{All, walks_size}
use Rattle.work.proofs.TreeWalk.{TreeWalk}
use Rattle.work.proofs.Owners.{SpecialWalk, WalkOf, reached_range, reaches_walk, walk_reaches}

-- an owner's node tells the owner
node_of : Owner → ℕ
node_of whole = 0
node_of (special y) = suc y

one_node : {u : Owner} {y z : ℕ} → u ≡ special y → u ≡ special z → y ≡ z
unfolding node_of
one_node e f = let g = ap node_of (sym e ∙ f) in omega arith

not_whole : {y : ℕ} → whole ≡ special y → ⊥
unfolding node_of
not_whole e = let f = ap node_of e in omega arith

module _ (w : Word) where
  -- the visits that special owners make by P
  abbrev BySpecial : (ℕ → ℕ → ℕ → ℕ → Type 0) → Visit → Type 0
  BySpecial P v = (y : ℕ) × (v.owner ≡ special y) × (v.start ≤ length w) × P y v.start v.state v.used

  -- the visits of t's special owners
  abbrev Specials : Tree → ℕ → Visit → Type 0
  Specials t x = BySpecial (SpecialWalk w t x)

  pub owner_range : (t : Tree) (x y i s j : ℕ) → SpecialWalk w t x y i s j → (x ≤ y) × (y ≤ x + below t)
  owner_range (empty o) x y i s j h = absurd h
  owner_range (epsilon o) x y i s j h = absurd h
  owner_range (letter o c) x y i s j h = absurd h
  owner_range (union o a b) x y i s j (inl h) = omega (arith, owner_range a x y i s j h)
  owner_range (union o a b) x y i s j (inr h) = omega (arith, owner_range b (x + size a) y i s j h)
  owner_range (intersection o a b) x y i s j (inl h) = omega (arith, h.0)
  owner_range (intersection o a b) x y i s j (inr (inl h)) = omega (arith, owner_range a x y i s j h)
  owner_range (intersection o a b) x y i s j (inr (inr h)) = omega (arith, owner_range b (x + size a) y i s j h)
  owner_range (concatenation o a b) x y i s j (inl h) = omega (arith, owner_range a x y i s j h)
  owner_range (concatenation o a b) x y i s j (inr h) = omega (arith, owner_range b (x + size a) y i s j h)
  owner_range (complement o a) x y i s j (inl h) = omega (arith, h.0)
  owner_range (complement o a) x y i s j (inr h) = omega (arith, owner_range a x y i s j h)
  owner_range (star o a) x y i s j h = omega (arith, owner_range a x y i s j h)

  -- the visits of special owners are their nodes' own
  visits_range : (t : Tree) (x : ℕ) (v : Visit) (h : Specials t x v) → (x ≤ h.0) × (h.0 ≤ x + below t)
  visits_range t x v h = owner_range t x h.0 v.start v.state v.used h.3

  -- the special owners of two trees side by side
  beside : (a b : Tree) (x : ℕ) → SizeOf (Specials a x) (special_walks w a) → SizeOf (Specials b (x + size a)) (special_walks w b)
      → SizeOf (λ v. Specials a x v ⊎ Specials b (x + size a) v) (special_walks w a + special_walks w b)
  beside a b x p q =
      size_sum (Specials a x) (Specials b (x + size a)) (special_walks w a) (special_walks w b)
      (λ v g h. let e : g.0 ≡ h.0 = one_node g.1 h.1 in omega (arith, e, visits_range a x v g, visits_range b (x + size a) v h))
      p q

  either_side : (P Q : ℕ → ℕ → ℕ → ℕ → Type 0) (v : Visit)
      → (BySpecial P v ⊎ BySpecial Q v) ↔ BySpecial (λ y i s j. P y i s j ⊎ Q y i s j) v
  either_side P Q v = (
    λ h. ⊎_elim (λ g. (g.0, g.1, g.2, inl g.3)) (λ g. (g.0, g.1, g.2, inr g.3)) h,
    λ h. ⊎_elim (λ g. inl (h.0, h.1, h.2, g)) (λ g. inr (h.0, h.1, h.2, g)) h.3,
  )

  sides_size : (a b : Tree) (x : ℕ) → SizeOf (Specials a x) (special_walks w a) → SizeOf (Specials b (x + size a)) (special_walks w b)
      → SizeOf (BySpecial (λ y i s j. SpecialWalk w a x y i s j ⊎ SpecialWalk w b (x + size a) y i s j)) (special_walks w a + special_walks w b)
  sides_size a b x p q =
      size_same (λ v. Specials a x v ⊎ Specials b (x + size a) v)
      (BySpecial (λ y i s j. SpecialWalk w a x y i s j ⊎ SpecialWalk w b (x + size a) y i s j))
      (special_walks w a + special_walks w b) (either_side (SpecialWalk w a x) (SpecialWalk w b (x + size a))) (beside a b x p q)

  -- the two walks of `&`
  pub both_size : (a b : Tree) (x : ℕ) (u : Owner)
      → SizeOf (λ v. All w u (TreeWalk w a x) v ⊎ All w u (TreeWalk w b (x + size a)) v) (walks w a + walks w b)
  both_size a b x u =
      size_sum (All w u (TreeWalk w a x)) (All w u (TreeWalk w b (x + size a))) (walks w a) (walks w b)
      (λ v g h. omega (
        arith,
        reached_range w v.start g.1 a x v.state v.used g.2,
        reached_range w v.start h.1 b
            (x + size a) v.state v.used h.2,
      ))
      (walks_size w u a x) (walks_size w u b (x + size a))

  specials_size : (t : Tree) (x : ℕ) → SizeOf (Specials t x) (special_walks w t)
  specials_size (empty o) x = size_none (Specials (empty o) x) (λ v h. h.3)
  specials_size (epsilon o) x = size_none (Specials (epsilon o) x) (λ v h. h.3)
  specials_size (letter o c) x = size_none (Specials (letter o c) x) (λ v h. h.3)
  specials_size (union o a b) x = sides_size a b x (specials_size a x) (specials_size b (x + size a))
  specials_size (concatenation o a b) x = sides_size a b x (specials_size a x) (specials_size b (x + size a))
  specials_size (star o a) x = specials_size a x
  specials_size (intersection o a b) x =
      let r = x + below (intersection o a b) in
      let own : Visit → Type 0 = λ v. All w (special r) (TreeWalk w a x) v ⊎ All w (special r) (TreeWalk w b (x + size a)) v in
      let inner : Visit → Type 0 = λ v. Specials a x v ⊎ Specials b (x + size a) v in
      size_same (λ v. own v ⊎ inner v) (Specials (intersection o a b) x) ((walks w a + walks w b) + (special_walks w a + special_walks w b))
      (λ v. (
        λ h. ⊎_elim
            (λ g. ⊎_elim (λ k. (r, k.0, k.1, inl (refl, inl k.2))) (λ k. (r, k.0, k.1, inl (refl, inr k.2))) g)
            (λ g. ⊎_elim (λ k. (k.0, k.1, k.2, inr (inl k.3))) (λ k. (k.0, k.1, k.2, inr (inr k.3))) g) h,
        λ h. ⊎_elim
            (λ g. let e : v.owner ≡ special r = h.1 ∙ ap special g.0 in ⊎_elim (λ k. inl (inl (e, h.2, k)))
            (λ k. inl (inr (e, h.2, k))) g.1)
            (λ g. ⊎_elim (λ k. inr (inl (h.0, h.1, h.2, k))) (λ k. inr (inr (h.0, h.1, h.2, k))) g) h.3,
      ))
      (size_sum own inner (walks w a + walks w b) (special_walks w a + special_walks w b)
      (λ v g h. let e : v.owner ≡ special r = ⊎_elim (λ k. k.0) (λ k. k.0) g in ⊎_elim
      (λ k. let f : r ≡ k.0 = one_node e k.1 in omega (arith, f, visits_range a x v k))
      (λ k. let f : r ≡ k.0 = one_node e k.1 in omega (arith, f, visits_range b (x + size a) v k)) h)
      (both_size a b x (special r)) (beside a b x (specials_size a x) (specials_size b (x + size a))))
  specials_size (complement o a) x =
      let r = x + below (complement o a) in
      size_same (λ v. All w (special r) (TreeWalk w a x) v ⊎ Specials a x v) (Specials (complement o a) x) (walks w a + special_walks w a)
      (λ v. (
        λ h. ⊎_elim (λ k. (r, k.0, k.1, inl (refl, k.2))) (λ k. (k.0, k.1, k.2, inr k.3)) h,
        λ h. ⊎_elim (λ g. inl (h.1 ∙ ap special g.0, h.2, g.1)) (λ g. inr (h.0, h.1, h.2, g)) h.3,
      ))
      (size_sum (All w (special r) (TreeWalk w a x)) (Specials a x) (walks w a) (special_walks w a)
      (λ v g k. let f : r ≡ k.0 = one_node g.0 k.1 in omega (arith, f, visits_range a x v k))
      (walks_size w (special r) a x) (specials_size a x))

  -- all walks, owner by owner
  abbrev Walks : Tree → Visit → Type 0
  Walks t v = (v.start ≤ length w) × WalkOf w t v.owner v.start v.state v.used

  by_owner : (t : Tree) (v : Visit) (u : Owner) → v.owner ≡ u → (v.start ≤ length w) × WalkOf w t u v.start v.state v.used
      → All w whole (TreeWalk w t 0) v ⊎ Specials t 0 v
  by_owner t v whole e h = inl (e, h.0, h.1)
  by_owner t v (special y) e h = inr (y, e, h.0, h.1)

  walks_all : (t : Tree) → SizeOf (Walks t) (full_count w t)
  unfolding full_count
  walks_all t =
      size_same (λ v. All w whole (TreeWalk w t 0) v ⊎ Specials t 0 v) (Walks t) (walks w t + special_walks w t)
      (λ v. (
        λ h. ⊎_elim
            (λ g. (g.1, subst (λ (u : Owner). WalkOf w t u v.start v.state v.used) (sym g.0) g.2))
            (λ g. (g.2, subst (λ (u : Owner). WalkOf w t u v.start v.state v.used) (sym g.1) g.3)) h,
        λ h. by_owner t v v.owner refl h,
      ))
      (size_sum (All w whole (TreeWalk w t 0)) (Specials t 0) (walks w t) (special_walks w t)
      (λ v g h. not_whole (sym g.0 ∙ h.1)) (walks_size w whole t 0) (specials_size t 0))

  -- 01: "the count equals the size of that collection"
  pub collection_size : (t : Tree) → SizeOf (Collection w t) (full_count w t)
  collection_size t =
      size_same (Walks t) (Collection w t) (full_count w t)
      (λ v. (
        λ h. (h.0, walk_reaches w v.start h.0 t v.owner v.state v.used h.1),
        λ h. (h.0, reaches_walk w v.start h.0 h.1),
      ))
      (walks_all t)
