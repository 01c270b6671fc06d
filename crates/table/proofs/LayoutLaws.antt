-- The bits of spans: where they lie, that they differ, and when they hold a block. Assumes nothing.
use mathlib.Core.Path.{◌≡◌, refl, sym, ap, ap₂, subst, ◌∙◌}
use mathlib.Core.Bool.{true}
use mathlib.Core.Logic.{◌⊎◌, inl, inr}
use mathlib.Core.List.{List, [], ◌∷◌, ◌++◌}
use Prim.Native.Nat.{ℕ, suc, ◌+◌, ◌*◌, ◌/◌, ◌%◌, ◌^◌, ◌≤◌, ◌<◌}
use native.Mathlib.Omega.{arith}
use lib.Dec.{T}
use lib.ListN.{length, get_or, take, drop, length-drop}
use lib.Seq.{length-take-le, get_or-take, get_or-drop, drop-drop, take-add, ext_get_or}
use Rattle.bits.specs.Bit.{has_bit, bit_at}
use Rattle.bits.specs.Runs.{Small}
use Rattle.bits.proofs.Packed.{packed_is, run_small}
use Rattle.event.specs.Event.{Word}
use Rattle.event.proofs.Tests.{T_of, of_T, same_test}
use Rattle.expression.specs.Tree.{Tree}
use Rattle.work.specs.Span.{Obeys}
use Rattle.work.specs.Table.{position, block_length, HoldsBlock}
use Rattle.work.specs.TableComputed.{obeys, start_of, end_of, block, blocks}
use Rattle.work.proofs.TableLaws.{obeys_eq, block_length_lem, block_bit, holds}
use Rattle.table.specs.declared.Block.{Block}
use Rattle.table.specs.Layout.{block_at, span_bit, row_bit, InBlock, SpanAt}

module _ (b : Block) (short : b.n ≤ 255) where
  -- a span's bit is one of its block's
  pub span_in : {i j : ℕ} → i ≤ j → j ≤ b.n → InBlock b (span_bit b i j)
  unfolding span_bit
  span_in h k = record { from = omega arith; to = omega arith }

  -- two spans have two bits
  pub span_one : {i j i' j' : ℕ} → i ≤ j → j ≤ b.n → i' ≤ j' → j' ≤ b.n → span_bit b i j ≡ span_bit b i' j' → (i ≡ i') × (j ≡ j')
  unfolding span_bit
  span_one h k h' k' e = (omega arith, omega arith)

-- what is read of a row is the spans' bits
pub row_span : (table : List ℕ) (b : Block) (i k : ℕ) → i ≤ k → k ≤ b.n → row_bit table b i k ≡ bit_at table (span_bit b i k)
unfolding span_bit row_bit
row_span table b i k h l = refl

-- ---- a block as the word's spans have it

-- the numbers that are computed
pub block_span : (w : Word) (t : Tree) → length w ≤ 255 → (i j : ℕ) → i ≤ j → j ≤ length w
    → bit_at (block w t) (span_bit (block_at 0 (length w)) i j) ≡ obeys w t i j
unfolding span_bit
block_span w t short i j h k =
    let p : 64 * 0 + position i j ≡ position i j = omega arith in
    let a : start_of (position i j) ≡ i = omega arith in
    let b : end_of (position i j) ≡ j = omega arith in
    ap (bit_at (block w t)) p ∙ block_bit w t (position i j) (omega arith) ∙ ap₂ (obeys w t) a b

module _ {w : Word} {u : Tree} {run : List ℕ} {first : ℕ} (short : length w ≤ 255) where
  pub held_span : HoldsBlock w u run first → (i j : ℕ) → i ≤ j → j ≤ length w → bit_at run (span_bit (block_at first (length w)) i j) ≡ obeys w u i j
  unfolding span_bit
  held_span h i j l k = same_test (bit_at run (64 * first + position i j)) (obeys w u i j) to from
    where
      to : T (bit_at run (64 * first + position i j)) → T (obeys w u i j)
      to t =
          here (h.others (position i j) (omega arith) (of_T (bit_at run (64 * first + position i j)) t))
        where
          here : (i' : ℕ) × (j' : ℕ) × (position i j ≡ position i' j') × Obeys w u i' j' → T (obeys w u i j)
          here z =
              let y = z.3.inside in
              let a : z.0 ≡ i = omega arith in
              let c : z.1 ≡ j = omega arith in
              (obeys_eq w u i j).1 (subst (λ (x : ℕ). Obeys w u x j) a (subst (λ (x : ℕ). Obeys w u z.0 x) c z.3))

      from : T (obeys w u i j) → T (bit_at run (64 * first + position i j))
      from t = T_of (bit_at run (64 * first + position i j)) (h.spans i j ((obeys_eq w u i j).0 t))

  pub holds_block : ((i j : ℕ) → i ≤ j → j ≤ length w → bit_at run (span_bit (block_at first (length w)) i j) ≡ obeys w u i j)
      → ((q : ℕ) → InBlock (block_at first (length w)) q → bit_at run q ≡ true → SpanAt (block_at first (length w)) q) → HoldsBlock w u run first
  unfolding span_bit
  holds_block spans others = record {
    spans = λ i j o. spans i j o.order o.inside ∙ of_T (obeys w u i j) ((obeys_eq w u i j).1 o);
    others = λ p l e.
        let z = others (64 * first + p) (record { from = omega arith; to = omega arith }) e in
        let a = z.bit in
        let d : p ≡ position z.start z.end = omega arith in (
          z.start,
          z.end,
          d,
          (obeys_eq w u z.start z.end).0
              (T_of (obeys w u z.start z.end) (sym (spans z.start z.end z.order z.inside) ∙ ap (bit_at run) (sym a) ∙ e)),
        );
  }

-- ---- a block that stays, and others

-- two blocks apart have no bit in common
pub blocks_part : {a b : Block} {q : ℕ} → (a.first + block_length a.n ≤ b.first) ⊎ (b.first + block_length b.n ≤ a.first)
    → InBlock a q → InBlock b q → ⊥
blocks_part (inl h) x y = omega (arith, x.to, y.from)
blocks_part (inr h) x y = omega (arith, x.from, y.to)

-- a number apart from a block has no bit of it
pub number_part : {b : Block} {k s : ℕ} → (k < b.first) ⊎ (b.first + block_length b.n ≤ k) → s < 64 → InBlock b (64 * k + s) → ⊥
number_part (inl h) l x = omega (arith, x.from)
number_part (inr h) l x = omega (arith, x.to)

-- a block is held as long as its bits stay
pub held_kept : {w : Word} {u : Tree} {a b : List ℕ} {first : ℕ} → length w ≤ 255 → HoldsBlock w u a first
    → ((q : ℕ) → InBlock (block_at first (length w)) q → bit_at b q ≡ bit_at a q) → HoldsBlock w u b first
held_kept {first = first} short h kept = record {
  spans = λ i j o.
      let l = o.order in
      let k = o.inside in
      kept (64 * first + position i j) (record { from = omega arith; to = omega arith }) ∙ h.spans i j o;
  others = λ p l e. h.others p l (sym (kept (64 * first + p) (record { from = omega arith; to = omega arith })) ∙ e);
}

-- ---- blocks as numbers

-- two 64-bit numbers with the same bits are one
pub number_same : (a b : List ℕ) (i j : ℕ) → get_or a i 0 < 2 ^ 64 → get_or b j 0 < 2 ^ 64
    → ((s : ℕ) → s < 64 → bit_at a (64 * i + s) ≡ bit_at b (64 * j + s)) → get_or a i 0 ≡ get_or b j 0
unfolding bit_at
number_same a b i j l k h =
    packed_is 64 (get_or a i 0) (λ s. has_bit s (get_or b j 0)) l
    (λ s z.
    let m : (64 * i + s) % 64 ≡ s = omega arith in
    let d : (64 * i + s) / 64 ≡ i = omega arith in
    let n : (64 * j + s) % 64 ≡ s = omega arith in
    let e : (64 * j + s) / 64 ≡ j = omega arith in
    rw (m, d, n, e) at (h s z))
    ∙ sym (packed_is 64 (get_or b j 0) (λ s. has_bit s (get_or b j 0)) k (λ s z. refl))

-- two runs that hold one block have the same bits there
held_to : {w : Word} {u : Tree} (a b : List ℕ) {f g : ℕ} → HoldsBlock w u a f → HoldsBlock w u b g → (p : ℕ) → p < 64 * block_length (length w)
    → T (bit_at a (64 * f + p)) → T (bit_at b (64 * g + p))
held_to a b {f} {g} h k p l t =
    let (i, j, e, o) = h.others p l (of_T (bit_at a (64 * f + p)) t) in
    T_of (bit_at b (64 * g + p)) (rw e (k.spans i j o))

module _ (w : Word) (run : List ℕ) (short : length w ≤ 255) (small : Small run) where
  -- a block that is held is the block
  pub held_numbers : (u : Tree) (first : ℕ) → first + block_length (length w) ≤ length run → HoldsBlock w u run first
      → take (block_length (length w)) (drop first run) ≡ block w u
  unfolding block
  held_numbers u first room h =
      let n : length (take (block_length (length w)) (drop first run)) ≡ block_length (length w) =
      length-take-le (block_length (length w)) (drop first run) (simp length-drop (omega arith)) in
      ext_get_or 0 (take (block_length (length w)) (drop first run)) (block w u) (n ∙ sym (block_length_lem w u))
      (λ q l. let k : q < block_length (length w) = omega arith in
      get_or-take (block_length (length w)) (drop first run) q 0 k ∙ get_or-drop first run q 0
      ∙ number_same run (block w u) (first + q) q (small (first + q))
      (run_small (block_length (length w)) (λ p. obeys w u (start_of p) (end_of p)) q) (λ s z. same q s k z))
    where
      own : HoldsBlock w u (block w u) 0
      own = holds w u (block w u) 0 short (λ p l. let e : 64 * 0 + p ≡ p = omega arith in ap (bit_at (block w u)) e ∙ block_bit w u p l)

      same : (q s : ℕ) → q < block_length (length w) → s < 64 → bit_at run (64 * (first + q) + s) ≡ bit_at (block w u) (64 * q + s)
      same q s k z =
          let a : 64 * (first + q) + s ≡ 64 * first + (64 * q + s) = omega arith in
          let b : 64 * q + s ≡ 64 * 0 + (64 * q + s) = omega arith in
          let l : 64 * q + s < 64 * block_length (length w) = omega arith in
          ap (bit_at run) a
          ∙ same_test (bit_at run (64 * first + (64 * q + s))) (bit_at (block w u) (64 * 0 + (64 * q + s)))
          (held_to run (block w u) h own (64 * q + s) l) (held_to (block w u) run own h (64 * q + s) l)
          ∙ ap (bit_at (block w u)) (sym b)

  -- blocks that are held one after another are the blocks
  pub held_blocks : (l : List Tree) (d : Tree) (first : ℕ) → first + length l * block_length (length w) ≤ length run
      → ((b : ℕ) → b < length l → HoldsBlock w (get_or l b d) run (first + b * block_length (length w)))
      → take (length l * block_length (length w)) (drop first run) ≡ blocks w l
  held_blocks [] d first room h = let e : 0 * block_length (length w) ≡ 0 = omega arith in rw e refl
  held_blocks (u ∷ l) d first room h =
      let e : suc (length l) * block_length (length w) ≡ block_length (length w) + length l * block_length (length w) = omega arith in
      let z : first + 0 * block_length (length w) ≡ first = omega arith in
      ap (λ (k : ℕ). take k (drop first run)) e
      ∙ take-add (block_length (length w)) (length l * block_length (length w)) (drop first run)
      ∙ ap₂ ◌++◌ (held_numbers u first (omega arith) (subst (HoldsBlock w u run) z (h 0 (omega arith))))
      (ap (take (length l * block_length (length w))) (drop-drop (block_length (length w)) first run)
      ∙ held_blocks l d (first + block_length (length w)) (omega arith) (λ b k.
      let n : first + suc b * block_length (length w) ≡ first + block_length (length w) + b * block_length (length w) = omega arith in
      subst (HoldsBlock w (get_or l b d) run) n (h (suc b) (omega arith))))
