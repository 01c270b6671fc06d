-- Every state of a rule has one owner. Assumes nothing.
use mathlib.Core.Path.{◌≡◌, refl, sym, ap, ◌∙◌}
use mathlib.Core.Logic.{◌⊎◌, inl, inr, ⊎_elim}
use mathlib.Core.Bool.{cond}
use Prim.Native.Nat.{ℕ, suc, ◌+◌, ◌*◌, ◌/◌, ◌%◌, ◌≤◌, ◌<◌}
use native.Mathlib.Omega.{arith}
use native.Mathlib.Decide.{dec_lt}
use native.Mathlib.Nat.{eq-or-lt_of_le}
use lib.Dec.{ltb}
use borrow.Author.Tests.{lt-ltb, le-ltb}
use Rattle.expression.specs.Tree.{Tree, empty, epsilon, letter, union, intersection, concatenation, complement, star, below, size}
use Rattle.work.specs.Walk.{Owner, whole, special}
use Rattle.work.specs.Owned.{Owns, of_rule, of_union_left, of_union_right, of_concatenation_left}
use Rattle.work.specs.Owned.{of_concatenation_right, of_star, of_intersection_left, of_intersection_right, of_complement, StateOf}

-- the owner of a node z: that of the side that has it, or u where z is the root
abbrev by_side : ℕ → ℕ → Owner → Owner → Owner → ℕ → Owner
by_side left root a b u z = cond (ltb z left) a (cond (ltb z root) b u)

-- the owner of the node z of t, whose records stand from x on and whose root u owns
owner_at : Tree → ℕ → Owner → ℕ → Owner
owner_at (empty o) x u z = u
owner_at (epsilon o) x u z = u
owner_at (letter o c) x u z = u
owner_at (union o a b) x u z =
    by_side (x + size a) (x + below (union o a b)) (owner_at a x u z) (owner_at b (x + size a) u z) u z
owner_at (intersection o a b) x u z =
    let v = special (x + below (intersection o a b)) in
    by_side (x + size a) (x + below (intersection o a b)) (owner_at a x v z) (owner_at b (x + size a) v z) u z
owner_at (concatenation o a b) x u z =
    by_side (x + size a) (x + below (concatenation o a b)) (owner_at a x u z) (owner_at b (x + size a) u z) u z
owner_at (complement o a) x u z = cond (ltb z (x + size a)) (owner_at a x (special (x + below (complement o a))) z) u
owner_at (star o a) x u z = cond (ltb z (x + size a)) (owner_at a x u z) u

in_left : (left root : ℕ) (a b u : Owner) (z : ℕ) → z < left → by_side left root a b u z ≡ a
in_left left root a b u z h = rw (lt-ltb z left h)

in_right : (left root : ℕ) (a b u : Owner) (z : ℕ) → left ≤ z → z < root → by_side left root a b u z ≡ b
in_right left root a b u z h k = rw (le-ltb z left h, lt-ltb z root k)

at_root_lem : (left root : ℕ) (a b u : Owner) (z : ℕ) → left ≤ z → root ≤ z → by_side left root a b u z ≡ u
at_root_lem left root a b u z h k = rw (le-ltb z left h, le-ltb z root k)

inner : (left : ℕ) (a u : Owner) (z : ℕ) → z < left → cond (ltb z left) a u ≡ a
inner left a u z h = rw (lt-ltb z left h)

root_owner : (t : Tree) (x : ℕ) (u : Owner) → owner_at t x u (x + below t) ≡ u
unfolding owner_at
root_owner (empty o) x u = refl
root_owner (epsilon o) x u = refl
root_owner (letter o c) x u = refl
root_owner (union o a b) x u = at_root_lem (x + size a) (x + below (union o a b)) _ _ u (x + below (union o a b)) (omega arith) (omega arith)
root_owner (intersection o a b) x u =
    at_root_lem (x + size a) (x + below (intersection o a b)) _ _ u (x + below (intersection o a b)) (omega arith) (omega arith)
root_owner (concatenation o a b) x u =
    at_root_lem (x + size a) (x + below (concatenation o a b)) _ _ u (x + below (concatenation o a b)) (omega arith) (omega arith)
root_owner (complement o a) x u = rw (le-ltb (x + below (complement o a)) (x + size a) (omega arith))
root_owner (star o a) x u = rw (le-ltb (x + below (star o a)) (x + size a) (omega arith))

-- the nodes of a part that u owns have the owners that they have in the part
part_owners : {t : Tree} {u : Owner} {v : Tree} {y : ℕ} → Owns t u v y → (z : ℕ) → y ≤ z → z < y + size v
    → owner_at t 0 whole z ≡ owner_at v y u z
unfolding owner_at
part_owners of_rule z l h = refl
part_owners (of_union_left {x = x} {a = a} {b = b} p) z l h =
    part_owners p z l (omega arith) ∙ in_left (x + size a) _ _ _ _ z h
part_owners (of_union_right {x = x} {a = a} {b = b} p) z l h =
    part_owners p z (omega arith) (omega arith) ∙ in_right (x + size a) _ _ _ _ z l (omega arith)
part_owners (of_concatenation_left {x = x} {a = a} {b = b} p) z l h =
    part_owners p z l (omega arith) ∙ in_left (x + size a) _ _ _ _ z h
part_owners (of_concatenation_right {x = x} {a = a} {b = b} p) z l h =
    part_owners p z (omega arith) (omega arith) ∙ in_right (x + size a) _ _ _ _ z l (omega arith)
part_owners (of_star {x = x} {a = a} p) z l h = part_owners p z l (omega arith) ∙ inner (x + size a) _ _ z h
part_owners (of_intersection_left {x = x} {a = a} {b = b} p) z l h =
    part_owners p z l (omega arith) ∙ in_left (x + size a) _ _ _ _ z h
part_owners (of_intersection_right {x = x} {a = a} {b = b} p) z l h =
    part_owners p z (omega arith) (omega arith) ∙ in_right (x + size a) _ _ _ _ z l (omega arith)
part_owners (of_complement {x = x} {a = a} p) z l h = part_owners p z l (omega arith) ∙ inner (x + size a) _ _ z h

state_owner : {t : Tree} {u : Owner} {s : ℕ} → StateOf t u s → owner_at t 0 whole (s / 2) ≡ u
state_owner {t} {u} {s} h =
    let z = h.first + below h.part in
    let e : s / 2 ≡ z = ⊎_elim (λ k. omega (arith, k)) (λ k. omega (arith, k)) h.state in
    ap (owner_at t 0 whole) e ∙ part_owners h.owns z (omega arith) (omega arith) ∙ root_owner h.part h.first u

-- a state has no two owners
pub one_owner : {t : Tree} {u v : Owner} {s : ℕ} → StateOf t u s → StateOf t v s → u ≡ v
one_owner h k = sym (state_owner h) ∙ state_owner k

-- ---- and each has one
Owner-of : Tree → ℕ → Type 0
Owner-of t z = (u : Owner) × (v : Tree) × (y : ℕ) × Owns t u v y × (z ≡ y + below v)

-- z is a node of a side, or the root
two_sides : (m r z : ℕ) → z < suc r → (z < m) ⊎ (((suc z ≤ r) × (m ≤ z)) ⊎ (z ≡ r))
two_sides m r z h = go (dec_lt z m) (eq-or-lt_of_le h)
  where
    go : Dec (z < m) → (suc z ≡ suc r) ⊎ (suc z < suc r) → (z < m) ⊎ (((suc z ≤ r) × (m ≤ z)) ⊎ (z ≡ r))
    go (yes k) d = inl k
    go (no k) (inl e) = inr (inr (omega arith))
    go (no k) (inr e) = inr (inl (omega arith, omega arith))

node_owner : {t : Tree} {u : Owner} (v : Tree) (x : ℕ) → Owns t u v x → (z : ℕ) → x ≤ z → z < x + size v → Owner-of t z
unfolding Owner-of
node_owner {u = u} (empty o) x p z l h = (u, empty o, x, p, omega arith)
node_owner {u = u} (epsilon o) x p z l h = (u, epsilon o, x, p, omega arith)
node_owner {u = u} (letter o c) x p z l h = (u, letter o c, x, p, omega arith)
node_owner {u = u} (union o a b) x p z l h =
    ⊎_elim (λ k. node_owner a x (of_union_left p) z l k)
    (λ k. ⊎_elim (λ g. node_owner b (x + size a) (of_union_right p) z g.1 (omega (arith, g.0))) (λ e. (u, union o a b, x, p, e)) k)
    (two_sides (x + size a) (x + below (union o a b)) z (omega arith))
node_owner {u = u} (intersection o a b) x p z l h =
    ⊎_elim (λ k. node_owner {u = special (x + below (intersection o a b))} a x (of_intersection_left p) z l k)
    (λ k. ⊎_elim (λ g. node_owner {u = special (x + below (intersection o a b))} b (x + size a) (of_intersection_right p) z g.1 (omega (arith, g.0)))
    (λ e. (u, intersection o a b, x, p, e)) k)
    (two_sides (x + size a) (x + below (intersection o a b)) z (omega arith))
node_owner {u = u} (concatenation o a b) x p z l h =
    ⊎_elim (λ k. node_owner a x (of_concatenation_left p) z l k)
    (λ k. ⊎_elim (λ g. node_owner b (x + size a) (of_concatenation_right p) z g.1 (omega (arith, g.0)))
    (λ e. (u, concatenation o a b, x, p, e)) k)
    (two_sides (x + size a) (x + below (concatenation o a b)) z (omega arith))
node_owner {u = u} (complement o a) x p z l h =
    ⊎_elim (λ k. node_owner {u = special (x + below (complement o a))} a x (of_complement p) z l k)
    (λ k. ⊎_elim (λ g. absurd (omega (arith, g.0, g.1))) (λ e. (u, complement o a, x, p, e)) k)
    (two_sides (x + size a) (x + below (complement o a)) z (omega arith))
node_owner {u = u} (star o a) x p z l h =
    ⊎_elim (λ k. node_owner a x (of_star p) z l k)
    (λ k. ⊎_elim (λ g. absurd (omega (arith, g.0, g.1))) (λ e. (u, star o a, x, p, e)) k)
    (two_sides (x + size a) (x + below (star o a)) z (omega arith))

-- a number is even or odd
parity : (s : ℕ) → (s ≡ 2 * (s / 2)) ⊎ (s ≡ suc (2 * (s / 2)))
parity s = go (dec_lt (s % 2) 1)
  where
    go : Dec (s % 2 < 1) → (s ≡ 2 * (s / 2)) ⊎ (s ≡ suc (2 * (s / 2)))
    go (yes h) = inl (omega arith)
    go (no h) = inr (omega arith)

pub has_owner : (t : Tree) (s : ℕ) → s < 2 * size t → (u : Owner) × StateOf t u s
unfolding Owner-of
has_owner t s h =
    let (u, v, y, o, e) = node_owner t 0 of_rule (s / 2) (omega arith) (omega arith) in
    (u, record { part = v; first = y; owns = o; state = ⊎_elim (λ k. inl (omega (arith, e, k))) (λ k. inr (omega (arith, e, k))) (parity s) })
