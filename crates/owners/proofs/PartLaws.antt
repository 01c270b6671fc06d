-- Every record heads a part, whose root it tells of. Assumes nothing.
use mathlib.Core.Path.{◌≡◌, refl, sym, ap, ◌∙◌, subst}
use mathlib.Core.Logic.{⊎_elim}
use mathlib.Core.List.{List, [], ◌∷◌, ◌++◌, map, map-append}
use Prim.Native.Nat.{ℕ, ◌+◌, ◌-◌, ◌≤◌, ◌<◌}
use native.Mathlib.Omega.{arith}
use lib.ListN.{length, get_or, length-map, length-append, get_or-append, get_or-map}
use lib.Seq.{get_or-append-add, get_or_at}
use Rattle.bits.proofs.Digits.{below_or_not}
use Rattle.expression.specs.declared.Kind.{Kind}
use Rattle.expression.specs.declared.Kind.TheVariants.{Empty, Epsilon, Letter, Union, Intersection, Concatenation, Complement, Star}
use Rattle.expression.specs.declared.Node.{Node}
use Rattle.expression.specs.Tree.{Tree, empty, epsilon, letter, union, intersection, concatenation, complement, star, offset, below, size}
use Rattle.expression.specs.Tree.{is_special, records}
use Rattle.expression.proofs.RecordLaws.{records_length}
use Rattle.moves.specs.Moves.{no_node, kind_at, special_kind}
use Rattle.work.specs.Walk.{Part, itself, union_left, union_right, intersection_left, intersection_right, concatenation_left}
use Rattle.work.specs.Walk.{concatenation_right}
use Rattle.work.specs.Walk.{complement_inner, star_inner}
use Rattle.work.proofs.Moves.{part_range, part_part}
use Rattle.owners.specs.Filling.{Recorded}
use Rattle.owners.specs.Parts.{all_parts, part_at}
use Rattle.owners.specs.Blocks.{offset_at}

-- the kind in the record of a part's root
abbrev pub kind_of : Tree → Kind
kind_of (empty o) = Empty
kind_of (epsilon o) = Epsilon
kind_of (letter o c) = Letter c
kind_of (union o a b) = Union
kind_of (intersection o a b) = Intersection
kind_of (concatenation o a b) = Concatenation
kind_of (complement o a) = Complement
kind_of (star o a) = Star

-- the record of a part's root
abbrev node_of : Tree → Node
node_of u = record { offset = offset u; kind = kind_of u }

-- a part is special if its root's kind is
pub special_kind_lem : (u : Tree) → special_kind (kind_of u) ≡ is_special u
special_kind_lem (empty o) = refl
special_kind_lem (epsilon o) = refl
special_kind_lem (letter o c) = refl
special_kind_lem (union o a b) = refl
special_kind_lem (intersection o a b) = refl
special_kind_lem (concatenation o a b) = refl
special_kind_lem (complement o a) = refl
special_kind_lem (star o a) = refl

-- ---- the list of all parts
two_map : (f : Tree → Node) (l m : List Tree) (u : Tree) → map f (l ++ m ++ (u ∷ [])) ≡ map f l ++ map f m ++ (f u ∷ [])
two_map f l m u = map-append f (l ++ m) (u ∷ []) ∙ ap (◌++ (f u ∷ [])) (map-append f l m)

-- the records are those of the parts
parts_records : (t : Tree) → map node_of (all_parts t) ≡ records t
unfolding all_parts records
parts_records (empty o) = refl
parts_records (epsilon o) = refl
parts_records (letter o c) = refl
parts_records (union o a b) =
    two_map node_of (all_parts a) (all_parts b) (union o a b) ∙ rw (parts_records a, parts_records b) refl
parts_records (intersection o a b) =
    two_map node_of (all_parts a) (all_parts b) (intersection o a b) ∙ rw (parts_records a, parts_records b) refl
parts_records (concatenation o a b) =
    two_map node_of (all_parts a) (all_parts b) (concatenation o a b) ∙ rw (parts_records a, parts_records b) refl
parts_records (complement o a) = map-append node_of (all_parts a) (complement o a ∷ []) ∙ rw (parts_records a) refl
parts_records (star o a) = map-append node_of (all_parts a) (star o a ∷ []) ∙ rw (parts_records a) refl

-- as many parts as records
pub all_length : (t : Tree) → length (all_parts t) ≡ size t
all_length t = sym (length-map (all_parts t) node_of) ∙ ap length (parts_records t) ∙ records_length t

-- a part stands at its root's record
module _ (l m : List Tree) (u : Tree) where
  at_left : (k : ℕ) → k < length l → get_or (l ++ m ++ (u ∷ [])) k (empty 0) ≡ get_or l k (empty 0)
  at_left k h = get_or-append (l ++ m) (u ∷ []) (empty 0) k (omega (arith, length-append l m)) ∙ get_or-append l m (empty 0) k h

  at_right : (k n : ℕ) → k ≡ length l + n → n < length m → get_or (l ++ m ++ (u ∷ [])) k (empty 0) ≡ get_or m n (empty 0)
  at_right k n e h =
      get_or-append (l ++ m) (u ∷ []) (empty 0) k (omega (arith, length-append l m))
      ∙ ap (λ i. get_or (l ++ m) i (empty 0)) e ∙ get_or-append-add l m n (empty 0)

  at_end : (k : ℕ) → k ≡ length l + length m → get_or (l ++ m ++ (u ∷ [])) k (empty 0) ≡ u
  at_end k e = get_or_at (l ++ m) u [] (empty 0) k (length-append l m ∙ sym e)

at_root_lem : (t : Tree) (k : ℕ) → k ≡ below t → get_or (all_parts t) k (empty 0) ≡ t
unfolding all_parts
at_root_lem (empty o) k e = rw e refl
at_root_lem (epsilon o) k e = rw e refl
at_root_lem (letter o c) k e = rw e refl
at_root_lem (union o a b) k e = at_end (all_parts a) (all_parts b) _ k (omega (arith, all_length a, all_length b))
at_root_lem (intersection o a b) k e = at_end (all_parts a) (all_parts b) _ k (omega (arith, all_length a, all_length b))
at_root_lem (concatenation o a b) k e = at_end (all_parts a) (all_parts b) _ k (omega (arith, all_length a, all_length b))
at_root_lem (complement o a) k e = get_or_at (all_parts a) (complement o a) [] (empty 0) k (omega (arith, all_length a))
at_root_lem (star o a) k e = get_or_at (all_parts a) (star o a) [] (empty 0) k (omega (arith, all_length a))

at_inner : (a : Tree) (u : Tree) (k : ℕ) → k < size a → get_or (all_parts a ++ (u ∷ [])) k (empty 0) ≡ get_or (all_parts a) k (empty 0)
at_inner a u k h = get_or-append (all_parts a) (u ∷ []) (empty 0) k (omega (arith, all_length a))

part_in : {t u : Tree} {x y : ℕ} → Part t x u y → (k : ℕ) → x + k ≡ y + below u → get_or (all_parts t) k (empty 0) ≡ u
unfolding all_parts
part_in {t} itself k e = at_root_lem t k (omega arith)
part_in (union_left {a = a} {b = b} p) k e =
    at_left (all_parts a) (all_parts b) _ k (omega (arith, part_range p, all_length a)) ∙ part_in p k e
part_in (union_right {a = a} {b = b} p) k e =
    at_right (all_parts a) (all_parts b) _ k (k - size a) (omega (arith, part_range p, all_length a))
    (omega (arith, part_range p, all_length b)) ∙ part_in p (k - size a) (omega (arith, part_range p))
part_in (intersection_left {a = a} {b = b} p) k e =
    at_left (all_parts a) (all_parts b) _ k (omega (arith, part_range p, all_length a)) ∙ part_in p k e
part_in (intersection_right {a = a} {b = b} p) k e =
    at_right (all_parts a) (all_parts b) _ k (k - size a) (omega (arith, part_range p, all_length a))
    (omega (arith, part_range p, all_length b)) ∙ part_in p (k - size a) (omega (arith, part_range p))
part_in (concatenation_left {a = a} {b = b} p) k e =
    at_left (all_parts a) (all_parts b) _ k (omega (arith, part_range p, all_length a)) ∙ part_in p k e
part_in (concatenation_right {a = a} {b = b} p) k e =
    at_right (all_parts a) (all_parts b) _ k (k - size a) (omega (arith, part_range p, all_length a))
    (omega (arith, part_range p, all_length b)) ∙ part_in p (k - size a) (omega (arith, part_range p))
part_in (complement_inner {a = a} p) k e = at_inner a _ k (omega (arith, part_range p)) ∙ part_in p k e
part_in (star_inner {a = a} p) k e = at_inner a _ k (omega (arith, part_range p)) ∙ part_in p k e

pub part_at_lem : {t u : Tree} {x : ℕ} → Part t 0 u x → part_at t (x + below u) ≡ u
part_at_lem {t} {u} {x} p = part_in p (x + below u) (omega arith)

-- ---- every record heads a part
-- y is the root of a part of t, whose records stand from x on
record Sited (t : Tree) (x y : ℕ) : Type 0 where
  part : Tree
  first : ℕ
  within : Part t x part first
  root : y ≡ first + below part

-- a part of a side is a part
in_side : {t a : Tree} {x z y : ℕ} → Part t x a z → Sited a z y → Sited t x y
in_side p s = record { part = s.part; first = s.first; within = part_part p s.within; root = s.root }

-- found in a side, or the root
module _ (t : Tree) (x y : ℕ) (h : x ≤ y) (k : y < x + size t) where
  of_sides : (a b : Tree) → below t ≡ size a + size b → Part t x a x → Part t x b (x + size a) → (y < x + size a → Sited a x y)
      → (x + size a ≤ y → y < x + size a + size b → Sited b (x + size a) y) → Sited t x y
  of_sides a b e l r f g =
      ⊎_elim (λ (i : y < x + size a). in_side l (f i))
      (λ (i : x + size a ≤ y). ⊎_elim
      (λ (j : y < x + size a + size b). in_side r (g i j))
      (λ (j : x + size a + size b ≤ y). record { part = t; first = x; within = itself; root = omega arith })
      (below_or_not y (x + size a + size b))) (below_or_not y (x + size a))

  of_side : (a : Tree) → below t ≡ size a → Part t x a x → (y < x + size a → Sited a x y) → Sited t x y
  of_side a e l f =
      ⊎_elim (λ (i : y < x + size a). in_side l (f i))
      (λ (i : x + size a ≤ y). record { part = t; first = x; within = itself; root = omega arith }) (below_or_not y (x + size a))

sited : (t : Tree) (x y : ℕ) → x ≤ y → y < x + size t → Sited t x y
sited (empty o) x y h k = record { part = empty o; first = x; within = itself; root = omega arith }
sited (epsilon o) x y h k = record { part = epsilon o; first = x; within = itself; root = omega arith }
sited (letter o c) x y h k = record { part = letter o c; first = x; within = itself; root = omega arith }
sited (union o a b) x y h k =
    of_sides (union o a b) x y h k a b refl (union_left itself) (union_right itself) (λ i. sited a x y h i)
    (λ i j. sited b (x + size a) y i j)
sited (intersection o a b) x y h k =
    of_sides (intersection o a b) x y h k a b refl (intersection_left itself) (intersection_right itself) (λ i. sited a x y h i)
    (λ i j. sited b (x + size a) y i j)
sited (concatenation o a b) x y h k =
    of_sides (concatenation o a b) x y h k a b refl (concatenation_left itself) (concatenation_right itself) (λ i. sited a x y h i)
    (λ i j. sited b (x + size a) y i j)
sited (complement o a) x y h k = of_side (complement o a) x y h k a refl (complement_inner itself) (λ i. sited a x y h i)
sited (star o a) x y h k = of_side (star o a) x y h k a refl (star_inner itself) (λ i. sited a x y h i)

-- record y heads the part `part_at t y`, whose records stand from `first` on
pub record Headed (t : Tree) (y : ℕ) : Type 0 where
  pub first : ℕ
  pub within : Part t 0 (part_at t y) first
  pub root : y ≡ first + below (part_at t y)

pub headed : (t : Tree) (y : ℕ) → y < size t → Headed t y
headed t y h =
    let s = sited t 0 y (omega arith) (omega arith) in
    let e : s.part ≡ part_at t y = sym (ap (part_at t) s.root ∙ part_at_lem s.within) in
    record {
      first = s.first;
      within = subst (λ (u : Tree). Part t 0 u s.first) e s.within;
      root = s.root ∙ ap (λ (u : Tree). s.first + below u) e;
    }

-- ---- what the records say of the parts
module _ {t : Tree} {nodes : List Node} {m : ℕ} (r : Recorded t nodes m) where
  node_is : (y : ℕ) → y < m → get_or nodes y no_node ≡ node_of (part_at t y)
  node_is y h =
      ap (λ (l : List Node). get_or l y no_node) r.front
      ∙ get_or-append (records t) r.pad no_node y (omega (arith, records_length t, r.long))
      ∙ ap (λ (l : List Node). get_or l y no_node) (sym (parts_records t)) ∙ get_or-map node_of (all_parts t) y (empty 0)

  pub kind_is : (y : ℕ) → y < m → kind_at nodes y ≡ kind_of (part_at t y)
  kind_is y h = ap (λ (n : Node). n.kind) (node_is y h)

  pub offset_is : (y : ℕ) → y < m → offset_at nodes y ≡ offset (part_at t y)
  offset_is y h = ap (λ (n : Node). n.offset) (node_is y h)

  pub special_is : (y : ℕ) → y < m → special_kind (kind_at nodes y) ≡ is_special (part_at t y)
  special_is y h = ap special_kind (kind_is y h) ∙ special_kind_lem (part_at t y)

  pub part_within : {u : Tree} {x : ℕ} → Part t 0 u x → x + below u < m
  part_within p = omega (arith, part_range p, r.long)

  pub part_kind : {u : Tree} {x : ℕ} → Part t 0 u x → kind_at nodes (x + below u) ≡ kind_of u
  part_kind {u} {x} p = kind_is (x + below u) (part_within p) ∙ ap kind_of (part_at_lem p)
