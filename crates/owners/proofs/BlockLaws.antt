-- The blocks of the special nodes stand by rising offset, apart from each other and within their area. Assumes nothing.
use mathlib.Core.Path.{◌≡◌, refl, sym, ap, ◌∙◌, subst}
use mathlib.Core.Bool.{Bool, true, false, cond}
use mathlib.Core.Logic.{◌⊎◌, inl, inr, ⊎_elim}
use mathlib.Core.List.Memᴰ
use mathlib.Core.List.{List, [], ◌∷◌, Memᴰ}
use Prim.Native.Nat.{ℕ, zero, suc, ◌+◌, ◌*◌, ◌≤◌, ◌<◌}
use native.Mathlib.Omega.{arith}
use native.Mathlib.Nat.{mul-le-mul_right}
use lib.Dec.{T, ltb}
use lib.ListN.{length, get_or, get_or-eq_default}
use borrow.Author.Tests.{lt-ltb, le-ltb}
use Rattle.bits.specs.Runs.{indicator}
use Rattle.bits.proofs.Digits.{below_or_not, same_or_not}
use Rattle.event.specs.Event.{Word}
use Rattle.event.proofs.Tests.{T_of, of_T}
use Rattle.expression.specs.declared.Node.{Node}
use Rattle.expression.specs.Tree.{Tree, empty, offset, below, size, is_special, specials}
use Rattle.table.specs.Layout.{block_at, Lies}
use Rattle.table.proofs.LayoutLaws.{number_part}
use Rattle.work.specs.Table.{block_length, HoldsBlock, Rising}
use Rattle.work.specs.TableComputed.{special_parts}
use Rattle.work.proofs.Order.{listed_special, special_listed}
use Rattle.work.proofs.TableLaws.{parts_length}
use Rattle.owners.specs.Filling.{Recorded, OffSpecials}
use Rattle.owners.specs.Parts.{all_parts, part_at, SpecialAt}
use Rattle.owners.specs.Blocks.{FirstNumbers, BlocksApart, Spaced, WholeApart, BlocksBelow, OffBlocks}
use Rattle.owners.proofs.PartLaws.{all_length, part_at_lem, headed}
use Rattle.owners.proofs.SumLaws.{sum_over, if_special, before, parts_before, sum_two_up, records_before, first_is}

-- ---- a list's members and their numbers
index_of : (u : Tree) (l : List Tree) → Memᴰ u l → (b : ℕ) × (b < length l) × (get_or l b (empty 0) ≡ u)
index_of u [] m = absurd (Memᴰ.not-nil m)
index_of u (v ∷ l) m =
    ⊎_elim (λ (e : u ≡ v). (0, omega arith, sym e)) (λ k. let (b, h, e) = index_of u l k in (suc b, omega arith, e))
    (Memᴰ.cases_cons m)

member_at : (l : List Tree) (b : ℕ) → b < length l → Memᴰ (get_or l b (empty 0)) l
member_at [] b h = absurd (omega arith)
member_at (v ∷ l) zero h = Memᴰ.head refl
member_at (v ∷ l) (suc b) h = Memᴰ.tail (member_at l b (omega arith))

-- ---- in a list with rising offsets, as many stand before a member as its number says
rising_at : (lo : ℕ) (l : List Tree) (b : ℕ) → Rising lo l → b < length l → lo ≤ offset (get_or l b (empty 0))
rising_at lo [] b h k = absurd (omega arith)
rising_at lo (u ∷ l) zero h k = h.0
rising_at lo (u ∷ l) (suc b) h k = let e = rising_at (suc (offset u)) l b h.1 (omega arith) in omega (arith, e, h.0)

before_none : (o lo : ℕ) (l : List Tree) → Rising lo l → o ≤ lo → sum_over (before o) l ≡ 0
before_none o lo [] h k = refl
before_none o lo (u ∷ l) h k =
    let d = before_none o (suc (offset u)) l h.1 (omega (arith, h.0)) in
    rw (le-ltb (offset u) o (omega (arith, h.0))) (omega arith)

before_index : (lo : ℕ) (l : List Tree) (b : ℕ) → Rising lo l → b < length l → sum_over (before (offset (get_or l b (empty 0)))) l ≡ b
before_index lo [] b h k = absurd (omega arith)
before_index lo (u ∷ l) zero h k =
    let d = before_none (offset u) (suc (offset u)) l h.1 (omega arith) in
    rw (le-ltb (offset u) (offset u) (omega arith)) (omega arith)
before_index lo (u ∷ l) (suc b) h k =
    let g = rising_at (suc (offset u)) l b h.1 (omega arith) in
    let d = before_index (suc (offset u)) l b h.1 (omega arith) in
    rw (lt-ltb (offset u) (offset (get_or l b (empty 0))) (omega arith)) (omega arith)

-- at most one has an offset
before_next : (o lo : ℕ) (l : List Tree) → Rising lo l → sum_over (before (suc o)) l ≤ suc (sum_over (before o) l)
before_next o lo [] h = omega arith
before_next o lo (u ∷ l) h =
    ⊎_elim
    (λ (k : offset u < o).
    let d = before_next o (suc (offset u)) l h.1 in
    rw (lt-ltb (offset u) o k, lt-ltb (offset u) (suc o) (omega arith)) (omega arith))
    (λ (k : o ≤ offset u).
    let d = before_none (suc o) (suc (offset u)) l h.1 (omega arith) in
    ⊎_elim (λ (e : offset u < suc o). rw (lt-ltb (offset u) (suc o) e) (omega arith))
    (λ (e : suc o ≤ offset u). rw (le-ltb (offset u) (suc o) e) (omega arith)) (below_or_not (offset u) (suc o)))
    (below_or_not (offset u) o)

-- ---- the special nodes of a rule

-- a special node is one of the rule's
pub special_low : (t : Tree) (y : ℕ) → SpecialAt t y → y < size t
special_low t y s =
    ⊎_elim (λ (l : y < size t). l)
    (λ (l : size t ≤ y).
    absurd (subst (λ (u : Tree). T (is_special u)) (get_or-eq_default (all_parts t) (empty 0) (omega (arith, all_length t))) s))
    (below_or_not y (size t))

-- with a higher bound as many stand before it or more, and one more where the offset is the bound
before_up : (special : Bool) (x o : ℕ) → cond special (indicator (ltb x o)) 0 ≤ cond special (indicator (ltb x (suc o))) 0
before_up false x o = omega arith
before_up true x o =
    ⊎_elim (λ (h : x < o). rw (lt-ltb x o h, lt-ltb x (suc o) (omega arith)) (omega arith))
    (λ (h : o ≤ x). rw (le-ltb x o h) (omega arith)) (below_or_not x o)

before_one : (u : Tree) (o : ℕ) → T (is_special u) → offset u ≡ o → if_special (before o) u < if_special (before (suc o)) u
before_one u o s e =
    rw (of_T (is_special u) s, le-ltb (offset u) o (omega arith), lt-ltb (offset u) (suc o) (omega arith)) (omega arith)

-- two special nodes have two offsets
two_offsets : (t : Tree) (y z : ℕ) → Rising 0 (special_parts t) → y < z → SpecialAt t y → SpecialAt t z
    → offset (part_at t y) ≡ offset (part_at t z) → ⊥
unfolding parts_before
two_offsets t y z up h s r e =
    let o = offset (part_at t z) in
    omega (
      arith,
      sum_two_up (λ (i : ℕ). if_special (before o) (part_at t i)) (λ (i : ℕ). if_special (before (suc o)) (part_at t i))
          (λ i. before_up (is_special (part_at t i)) (offset (part_at t i)) o) (size t) y z h (special_low t z r) (before_one (part_at t y) o s e)
          (before_one (part_at t z) o r refl),
      records_before t o,
      records_before t (suc o),
      before_next o 0 (special_parts t) up,
    )

-- ---- their blocks
module _ {t : Tree} {nodes : List Node} {m n special : ℕ} {firsts : List ℕ} (up : Rising 0 (special_parts t)) (r : Recorded t nodes m)
    (f : FirstNumbers nodes m n special firsts) where
  first_special : (y : ℕ) → SpecialAt t y → get_or firsts y 0 ≡ special + parts_before t (offset (part_at t y)) * block_length n
  first_special y s =
      let l : y < m = omega (arith, special_low t y s, r.long) in
      f.some y l ∙ first_is r n special y l ∙ rw (of_T (is_special (part_at t y)) s) refl

  -- the block of special part number b is block number b
  first_number : (b : ℕ) → b < length (special_parts t)
      → special + parts_before t (offset (get_or (special_parts t) b (empty 0))) * block_length n ≡ special + b * block_length n
  unfolding parts_before
  first_number b h = ap (λ (k : ℕ). special + k * block_length n) (before_index 0 (special_parts t) b up h)

  record Numbered (y : ℕ) : Type 0 where
    number : ℕ
    within : number < specials t
    here : get_or (special_parts t) number (empty 0) ≡ part_at t y
    first : get_or firsts y 0 ≡ special + number * block_length n

  numbered : (y : ℕ) → SpecialAt t y → Numbered y
  numbered y s =
      let h = headed t y (special_low t y s) in
      let (b, k, e) = index_of (part_at t y) (special_parts t) (special_listed h.within s) in
      record {
        number = b;
        within = omega (arith, parts_length t);
        here = e;
        first = first_special y s ∙ ap (λ (u : Tree). special + parts_before t (offset u) * block_length n) (sym e) ∙ first_number b k;
      }

  later : (b c : ℕ) → b < c → special + b * block_length n + block_length n ≤ special + c * block_length n
  later b c h = let e = mul-le-mul_right {m = suc b} {n = c} (block_length n) h in omega arith

  -- a special node's block lies in their area
  first_within : (y : ℕ) → SpecialAt t y
      → (special ≤ get_or firsts y 0) × (get_or firsts y 0 + block_length n ≤ special + specials t * block_length n)
  first_within y s =
      let a = numbered y s in
      let e = a.first in
      let l = later a.number (specials t) a.within in
      (omega arith, omega arith)

  first_apart : (y z : ℕ) → y < z → SpecialAt t y → SpecialAt t z → BlocksApart n (get_or firsts y 0) (get_or firsts z 0)
  first_apart y z h s v =
      let a = numbered y s in
      let b = numbered z v in
      let d = a.first in
      let e = b.first in
      ⊎_elim (λ (l : a.number < b.number). let k = later a.number b.number l in inl (omega arith))
      (λ (l : b.number ≤ a.number).
      ⊎_elim
      (λ (i : b.number ≡ a.number).
      let p : part_at t y ≡ part_at t z =
      sym a.here ∙ ap (λ (c : ℕ). get_or (special_parts t) c (empty 0)) (sym i) ∙ b.here in
      absurd (two_offsets t y z up h s v (ap offset p)))
      (λ (i : b.number ≡ a.number → ⊥). let k = later b.number a.number (omega arith) in inr (omega arith))
      (same_or_not b.number a.number))
      (below_or_not a.number b.number)

  -- a node that has no block has 0
  first_lies : (y numbers : ℕ) → n ≤ 255 → block_length n ≤ numbers → special + specials t * block_length n ≤ numbers
      → Lies (block_at (get_or firsts y 0) n) numbers
  first_lies y numbers short h k = by_kind (is_special (part_at t y)) refl
    where
      none : get_or firsts y 0 ≡ 0 → Lies (block_at (get_or firsts y 0) n) numbers
      none e = record { short = short; within = omega arith }

      by_kind : (b : Bool) → is_special (part_at t y) ≡ b → Lies (block_at (get_or firsts y 0) n) numbers
      by_kind true e = let z = first_within y (T_of (is_special (part_at t y)) e) in record { short = short; within = omega (arith, z.1) }
      by_kind false e =
          ⊎_elim (λ (l : y < m). none (f.some y l ∙ first_is r n special y l ∙ rw e refl)) (λ (l : m ≤ y). none (f.none y l))
          (below_or_not y m)

  pub blocks_spaced : (numbers : ℕ) → n ≤ 255 → block_length n ≤ numbers → special + specials t * block_length n ≤ numbers
      → Spaced t n firsts numbers
  blocks_spaced numbers short h k = record { room = λ y. first_lies y numbers short h k; apart = first_apart }

  pub whole_spaced : (numbers whole : ℕ) → n ≤ 255 → whole + block_length n ≤ numbers
      → (whole + block_length n ≤ special) ⊎ (special + specials t * block_length n ≤ whole) → WholeApart t n firsts numbers whole
  whole_spaced numbers whole short h k = record {
    lies = record { short = short; within = h };
    apart = λ y s.
        let z = first_within y s in
        ⊎_elim (λ (l : whole + block_length n ≤ special). inl (omega (arith, z.0)))
        (λ (l : special + specials t * block_length n ≤ whole). inr (omega (arith, z.1))) k;
  }

  -- a number outside their area has no bit of a block
  pub off_blocks : {k s : ℕ} → OffSpecials (specials t) n special k → s < 64 → OffBlocks t n firsts (64 * k + s)
  off_blocks {k} o l y s x =
      let z = first_within y s in
      number_part
      (⊎_elim (λ (h : k < special). inl (omega (arith, z.0)))
      (λ (h : special + specials t * block_length n ≤ k). inr (omega (arith, z.1))) o) l x

  -- the blocks in the order of their numbers
  pub blocks_held : {w : Word} {run : List ℕ} → BlocksBelow w run t firsts (size t) → (b : ℕ) → b < length (special_parts t)
      → HoldsBlock w (get_or (special_parts t) b (empty 0)) run (special + b * block_length n)
  blocks_held {w} {run} g b h =
      let u = get_or (special_parts t) b (empty 0) in
      let (x, p, s) = listed_special t u 0 (member_at (special_parts t) b h) in
      let e : part_at t (x + below u) ≡ u = part_at_lem p in
      let v : SpecialAt t (x + below u) = subst (λ (c : Tree). T (is_special c)) (sym e) s in
      let d : get_or firsts (x + below u) 0 ≡ special + b * block_length n =
      first_special (x + below u) v ∙ ap (λ (c : Tree). special + parts_before t (offset c) * block_length n) e ∙ first_number b h in
      subst (HoldsBlock w u run) d
      (subst (λ (c : Tree). HoldsBlock w c run (get_or firsts (x + below u) 0)) e (g (x + below u) (special_low t (x + below u) v) v))
