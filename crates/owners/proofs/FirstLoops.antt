-- The first numbers of the blocks, found one after the other. Assumes nothing.
use mathlib.Core.Path.{◌≡◌, refl, sym, ap, ◌∙◌, subst}
use mathlib.Core.Bool.{true, false, ◌&&◌}
use mathlib.Core.Logic.{⊎_elim}
use mathlib.Core.List.{List}
use Prim.Native.Nat.{ℕ, ◌+◌, ◌*◌, ◌≤◌, ◌<◌}
use native.Mathlib.Omega.{arith}
use native.Mathlib.Numerals.{add-one}
use native.Mathlib.Nat.{mul-le-mul}
use lib.Dec.{ltb}
use lib.ListN.{length, get_or, set, replicate, length-set, get_or-replicate, get_or-eq_default}
use lib.Seq.{get_or-set_same, get_or-set_other}
use Rattle.bits.specs.Runs.{indicator}
use Rattle.bits.proofs.Digits.{below_or_not, same_or_not}
use Rattle.expression.specs.declared.Node.{Node}
use Rattle.moves.specs.Moves.{kind_at, special_kind}
use Rattle.walk.specs.Filled.{sum_below}
use Rattle.work.specs.Table.{block_length}
use Rattle.owners.specs.Blocks.{offset_at, specials_before, first_at, FirstNumbers}

-- ---- the special nodes before an offset, counted
pub record Counting (nodes : List Node) (o m count i : ℕ) : Type 0 where
  pub few : i ≤ m
  pub counted : count ≡ specials_before nodes o i
  pub bounded : count ≤ i

pub counting_begins : {nodes : List Node} {o m : ℕ} → Counting nodes o m 0 0
unfolding specials_before sum_below
counting_begins = record { few = omega arith; counted = refl; bounded = omega arith }

pub counting_on : {nodes : List Node} {o m count i d : ℕ} → Counting nodes o m count i → i < m
    → (d ≡ indicator (special_kind (kind_at nodes i) && ltb (offset_at nodes i) o)) × (d ≤ 1) → Counting nodes o m (count + d) (i + 1)
unfolding specials_before sum_below
counting_on {nodes} {o} {m} {count} {i} g h e =
    let k = g.counted in
    let b = g.bounded in
    record { few = omega arith; counted = rw add-one (omega (arith, k, e.0)); bounded = omega (arith, b, e.1) }

-- one that does not count is passed over
pub counting_past : {nodes : List Node} {o m count i : ℕ} → Counting nodes o m count i → i < m
    → (special_kind (kind_at nodes i) && ltb (offset_at nodes i) o) ≡ false → Counting nodes o m count (i + 1)
counting_past {nodes} {o} {m} {count} {i} g h e =
    subst (λ (n : ℕ). Counting nodes o m n (i + 1)) (omega arith) (counting_on {d = 0} g h (rw e refl, omega arith))

pub counting_ends : {nodes : List Node} {o m count i : ℕ} → Counting nodes o m count i → m ≤ 64 → m ≤ i
    → (count ≡ specials_before nodes o m) × (count ≤ 64)
counting_ends {nodes} {o} {m} {count} {i} g h l =
    let e : i ≡ m = omega (arith, g.few) in (g.counted ∙ ap (specials_before nodes o) e, omega (arith, g.bounded))

-- ---- one node's first number
pub special_first : (nodes : List Node) (m n special i k stride : ℕ) → special_kind (kind_at nodes i) ≡ true
    → k ≡ specials_before nodes (offset_at nodes i) m → stride ≡ block_length n → special + k * stride ≡ first_at nodes m n special i
unfolding first_at
special_first nodes m n special i k stride e d l = rw (e, d, l) refl

pub plain_first : (nodes : List Node) (m n special i : ℕ) → special_kind (kind_at nodes i) ≡ false → 0 ≡ first_at nodes m n special i
unfolding first_at
plain_first nodes m n special i e = rw e refl

-- the blocks before it are no more numbers than these
pub before_small : (a b : ℕ) → a ≤ 64 → b ≤ 1024 → a * b ≤ 65536
before_small a b h k = mul-le-mul h k

-- ---- all nodes' first numbers
pub record Placing (nodes : List Node) (m n special : ℕ) (firsts : List ℕ) (i : ℕ) : Type 0 where
  pub few : i ≤ m
  pub long : length firsts ≡ 64
  pub some : (y : ℕ) → y < i → get_or firsts y 0 ≡ first_at nodes m n special y
  pub none : (y : ℕ) → i ≤ y → get_or firsts y 0 ≡ 0

module _ {nodes : List Node} {m n special : ℕ} where
  pub placing_begins : {firsts : List ℕ} → firsts ≡ replicate 64 0 → Placing nodes m n special firsts 0
  placing_begins {firsts} e =
      subst (λ (l : List ℕ). Placing nodes m n special l 0) (sym e)
      (record {
        few = omega arith;
        long = refl;
        some = λ y h. absurd (omega arith);
        none = λ y h. ⊎_elim (λ (k : y < 64). get_or-replicate 64 y 0 0 k) (λ (k : 64 ≤ y). get_or-eq_default (replicate 64 0) 0 k)
            (below_or_not y 64);
      })

  module _ {i : ℕ} {firsts : List ℕ} (g : Placing nodes m n special firsts i) where
    pub placing_on : {v : ℕ} → m ≤ 64 → i < m → v ≡ first_at nodes m n special i → Placing nodes m n special (set firsts i v) (i + 1)
    placing_on {v} l h e =
        let k : i < length firsts = omega (arith, g.long) in
        record {
          few = omega arith;
          long = length-set firsts i v ∙ g.long;
          some = λ y z. ⊎_elim (λ (d : y ≡ i). rw (d, get_or-set_same firsts i v 0 k) e)
              (λ (d : y ≡ i → ⊥). get_or-set_other firsts i y v 0 d ∙ g.some y (omega arith)) (same_or_not y i);
          none = λ y z. get_or-set_other firsts i y v 0 (λ (d : y ≡ i). omega arith) ∙ g.none y (omega arith);
        }

    -- a node without a block is passed over
    pub placing_past : i < m → 0 ≡ first_at nodes m n special i → Placing nodes m n special firsts (i + 1)
    placing_past h e =
        record {
          few = omega arith;
          long = g.long;
          some = λ y z. ⊎_elim (λ (d : y ≡ i). rw d (g.none i (omega arith) ∙ e))
              (λ (d : y ≡ i → ⊥). g.some y (omega arith)) (same_or_not y i);
          none = λ y z. g.none y (omega arith);
        }

    -- the same by another name
    pub placing_same : {b : List ℕ} → b ≡ firsts → Placing nodes m n special b i
    placing_same e = subst (λ (l : List ℕ). Placing nodes m n special l i) (sym e) g

    pub placing_ends : m ≤ i → FirstNumbers nodes m n special firsts
    placing_ends h = let f = g.few in record { some = λ y z. g.some y (omega arith); none = λ y z. g.none y (omega arith) }
