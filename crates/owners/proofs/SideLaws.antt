-- The sides of the nodes, found one after the other. Assumes nothing.
use mathlib.Core.Path.{◌≡◌, refl, sym, ap, ◌∙◌, subst}
use mathlib.Core.Logic.{⊎_elim}
use mathlib.Core.List.{List}
use Prim.Native.Nat.{ℕ, ◌+◌, ◌-◌, ◌≤◌, ◌<◌}
use native.Mathlib.Omega.{arith}
use lib.ListN.{length, get_or, set, replicate, length-set}
use lib.Seq.{get_or-set_same, get_or-set_other}
use Rattle.bits.proofs.Digits.{same_or_not}
use Rattle.expression.specs.declared.Node.{Node}
use Rattle.expression.specs.Tree.{Tree, empty, epsilon, letter, union, intersection, concatenation, complement, star, below, size}
use Rattle.moves.specs.Moves.{kind_at, NotFirst, SidesBefore}
use Rattle.work.specs.Walk.{Part, itself, union_left, union_right, intersection_left, intersection_right, concatenation_left}
use Rattle.work.specs.Walk.{concatenation_right}
use Rattle.work.specs.Walk.{complement_inner, star_inner}
use Rattle.work.proofs.Moves.{part_part}
use Rattle.owners.specs.Filling.{Recorded}
use Rattle.owners.specs.Parts.{part_at}
use Rattle.owners.specs.Sides.{sides_of, SidesKnown, SidesFound, Left, Lefts}
use Rattle.owners.proofs.PartLaws.{kind_of, headed, kind_is, part_within, part_kind}

-- the first i nodes have their first records and their left sides
pub record Siding (t : Tree) (m : ℕ) (begins lefts : List ℕ) (i : ℕ) : Type 0 where
  pub few : i ≤ m
  pub long : (length begins ≡ 64) × (length lefts ≡ 64)
  pub sided : (u : Tree) (x : ℕ) → Part t 0 u x → x + below u < i
      → (get_or begins (x + below u) 0 ≡ x) × Left u x (get_or lefts (x + below u) 0)

pub siding_begins : {t : Tree} {m : ℕ} → Siding t m (replicate 64 0) (replicate 64 0) 0
siding_begins = record { few = omega arith; long = (refl, refl); sided = λ u x p h. absurd (omega arith) }

-- a node's part begins where its sides' do
module _ {t : Tree} (begins : List ℕ) (i : ℕ) (low : i < 64)
    (known-begin : (u : Tree) (x : ℕ) → Part t 0 u x → x + below u < i → get_or begins (x + below u) 0 ≡ x) where
  begin_of : (y x : ℕ) (u : Tree) → Part t 0 u x → x + below u < i → y ≡ x + below u → get_or begins y 0 ≡ x
  begin_of y x u p l e = ap (λ n. get_or begins n 0) e ∙ known-begin u x p l

  known_two : (x : ℕ) (a b : Tree) → Part t 0 b (x + size a) → x + (size a + size b) ≡ i → SidesKnown begins 2 i
  known_two x a b p e =
      let y = begin_of (i - 1) (x + size a) b p (omega arith) (omega arith) in
      record { within = low; one = λ d. absurd (omega arith); two = λ d. (omega arith, omega arith, omega arith) }

  known_one : (x : ℕ) (a : Tree) → x + size a ≡ i → SidesKnown begins 1 i
  known_one x a e = record { within = low; one = λ d. omega arith; two = λ d. absurd (omega arith) }

  known_none : SidesKnown begins 0 i
  known_none = record { within = low; one = λ d. absurd (omega arith); two = λ d. absurd (omega arith) }

  known : (u : Tree) (x : ℕ) → Part t 0 u x → x + below u ≡ i → SidesKnown begins (sides_of (kind_of u)) i
  known (empty o) x p e = known_none
  known (epsilon o) x p e = known_none
  known (letter o c) x p e = known_none
  known (union o a b) x p e = known_two x a b (part_part p (union_right itself)) e
  known (intersection o a b) x p e = known_two x a b (part_part p (intersection_right itself)) e
  known (concatenation o a b) x p e = known_two x a b (part_part p (concatenation_right itself)) e
  known (complement o a) x p e = known_one x a e
  known (star o a) x p e = known_one x a e

  found_two : (x f l : ℕ) (a b : Tree) → Part t 0 a x → Part t 0 b (x + size a) → x + (size a + size b) ≡ i → SidesFound begins 2 i f l
      → (f ≡ x) × (l ≡ x + below a)
  found_two x f l a b p q e g =
      let y = begin_of (i - 1) (x + size a) b q (omega arith) (omega arith) in
      let z = begin_of (get_or begins (i - 1) 0 - 1) x a p (omega arith) (omega arith) in
      let k = g.two refl in
      (k.0 ∙ z, omega (arith, k.1))

  found_one : (x f l : ℕ) (a : Tree) → Part t 0 a x → x + size a ≡ i → SidesFound begins 1 i f l → (f ≡ x) × (l ≡ x + below a)
  found_one x f l a p e g =
      let y = begin_of (i - 1) x a p (omega arith) (omega arith) in
      let k = g.one refl in
      (k.0 ∙ y, omega (arith, k.1))

  found : (u : Tree) (x f l : ℕ) → Part t 0 u x → x + below u ≡ i → SidesFound begins (sides_of (kind_of u)) i f l → (f ≡ x) × Left u x l
  found (empty o) x f l p e g = let k = g.none refl in (omega (arith, k.0), k.1)
  found (epsilon o) x f l p e g = let k = g.none refl in (omega (arith, k.0), k.1)
  found (letter o c) x f l p e g = let k = g.none refl in (omega (arith, k.0), k.1)
  found (union o a b) x f l p e g = found_two x f l a b (part_part p (union_left itself)) (part_part p (union_right itself)) e g
  found (intersection o a b) x f l p e g =
      found_two x f l a b (part_part p (intersection_left itself)) (part_part p (intersection_right itself)) e g
  found (concatenation o a b) x f l p e g =
      found_two x f l a b (part_part p (concatenation_left itself)) (part_part p (concatenation_right itself)) e g
  found (complement o a) x f l p e g = found_one x f l a (part_part p (complement_inner itself)) e g
  found (star o a) x f l p e g = found_one x f l a (part_part p (star_inner itself)) e g

module _ {t : Tree} {nodes : List Node} {m : ℕ} (r : Recorded t nodes m) {begins lefts : List ℕ} {i : ℕ}
    (s : Siding t m begins lefts i) where
  module _ (h : i < m) {sides : ℕ} (e : sides ≡ sides_of (kind_at nodes i)) where
    low : i < 64
    low = omega (arith, r.few)

    begins_at : (u : Tree) (x : ℕ) → Part t 0 u x → x + below u < i → get_or begins (x + below u) 0 ≡ x
    begins_at u x p l = (s.sided u x p l).0

    sides_are : (u : Tree) (x : ℕ) → Part t 0 u x → x + below u ≡ i → sides ≡ sides_of (kind_of u)
    sides_are u x p d = e ∙ ap sides_of (ap (kind_at nodes) (sym d) ∙ part_kind r p)

    pub siding_known : SidesKnown begins sides i
    siding_known =
        let z = headed t i (omega (arith, r.long)) in
        rw (sides_are (part_at t i) z.first z.within (sym z.root))
        (known begins i low begins_at (part_at t i) z.first z.within (sym z.root))

    pub siding_on : {f l : ℕ} → SidesFound begins sides i f l → Siding t m (set begins i f) (set lefts i l) (i + 1)
    siding_on {f} {l} g =
        record {
          few = omega arith;
          long = (length-set begins i f ∙ s.long.0, length-set lefts i l ∙ s.long.1);
          sided = λ u x p k. ⊎_elim (λ (d : x + below u ≡ i). here u x p d) (λ (d : x + below u ≡ i → ⊥). before u x p k d)
              (same_or_not (x + below u) i);
        }
      where
        here : (u : Tree) (x : ℕ) → Part t 0 u x → x + below u ≡ i
            → (get_or (set begins i f) (x + below u) 0 ≡ x) × Left u x (get_or (set lefts i l) (x + below u) 0)
        here u x p d =
            let z = found begins i low begins_at u x f l p d (subst (λ n. SidesFound begins n i f l) (sides_are u x p d) g) in (
              ap (λ n. get_or (set begins i f) n 0) d ∙ get_or-set_same begins i f 0 (omega (arith, low, s.long.0)) ∙ z.0,
              subst (Left u x)
                  (sym (ap (λ n. get_or (set lefts i l) n 0) d ∙ get_or-set_same lefts i l 0 (omega (arith, low, s.long.1)))) z.1,
            )

        before : (u : Tree) (x : ℕ) → Part t 0 u x → x + below u < i + 1 → (x + below u ≡ i → ⊥)
            → (get_or (set begins i f) (x + below u) 0 ≡ x) × Left u x (get_or (set lefts i l) (x + below u) 0)
        before u x p k d =
            let z = s.sided u x p (omega arith) in (
              get_or-set_other begins i (x + below u) f 0 d ∙ z.0,
              subst (Left u x) (sym (get_or-set_other lefts i (x + below u) l 0 d)) z.1,
            )

  pub siding_ends : m ≤ i → Lefts t lefts
  siding_ends h u x p = (s.sided u x p (omega (arith, part_within r p))).1

-- ---- a left side stands before its node, and a node with sides is not the first
left_low : (u : Tree) (x l : ℕ) → Left u x l → (l ≤ x + below u) × NotFirst (kind_of u) (x + below u)
left_low (empty o) x l e = (omega arith, tt)
left_low (epsilon o) x l e = (omega arith, tt)
left_low (letter o c) x l e = (omega arith, tt)
left_low (union o a b) x l e = (omega arith, omega arith)
left_low (intersection o a b) x l e = (omega arith, omega arith)
left_low (concatenation o a b) x l e = (omega arith, omega arith)
left_low (complement o a) x l e = (omega arith, omega arith)
left_low (star o a) x l e = (omega arith, omega arith)

pub lefts_low : {t : Tree} {nodes : List Node} {m : ℕ} (lefts : List ℕ) → Recorded t nodes m → Lefts t lefts → SidesBefore nodes lefts m
lefts_low {t} lefts r h i l =
    let s = headed t i (omega (arith, r.long)) in
    let z = left_low (part_at t i) s.first (get_or lefts (s.first + below (part_at t i)) 0) (h (part_at t i) s.first s.within) in
    rw (kind_is r i l) (subst (λ y. (get_or lefts y 0 ≤ y) × NotFirst (kind_of (part_at t i)) y) (sym s.root) z)
