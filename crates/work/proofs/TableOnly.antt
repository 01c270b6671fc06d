-- A run of 64-bit numbers that holds all blocks is the span table: its bits, and so its numbers, are determined. Assumes nothing.
use mathlib.Core.Path.{◌≡◌, sym, ap, subst, ◌∙◌}
use mathlib.Core.List.{List, [], ◌∷◌, ◌++◌}
use Prim.Native.Nat.{ℕ, zero, suc, ◌+◌, ◌*◌, ◌/◌, ◌%◌, ◌^◌, ◌≤◌, ◌<◌}
use native.Mathlib.Omega.{arith}
use native.Mathlib.Nat.{mod-lt, div-add-mod', div-lt_iff_lt-mul}
use lib.Dec.{T}
use lib.ListN.{length, get_or, get_or-append}
use lib.Seq.{ext_get_or, get_or-append-add}
use Rattle.bits.specs.Bit.{bit_at}
use Rattle.bits.specs.Runs.{Small}
use Rattle.bits.proofs.Packed.{packed_is, run_at}
use Rattle.event.specs.Event.{Word}
use Rattle.event.proofs.Tests.{T_of, of_T, same_test}
use Rattle.expression.specs.Tree.{Tree, specials}
use Rattle.work.specs.Table.{position, block_length, HoldsBlock, need_of}
use Rattle.work.specs.TableComputed.{obeys, start_of, end_of, block, special_parts, blocks, table}
use Rattle.work.proofs.TableLaws.{obeys_eq, block_length_lem, parts_length, table_length}

-- number q of block number b
blocks_at : (w : Word) (l : List Tree) (d : Tree) (b q : ℕ) → b < length l → q < block_length (length w)
    → get_or (blocks w l) (b * block_length (length w) + q) 0 ≡ get_or (block w (get_or l b d)) q 0
blocks_at w [] d b q h k = absurd (omega arith)
blocks_at w (u ∷ l) d zero q h k =
    let e : 0 * block_length (length w) + q ≡ q = omega arith in
    ap (λ i. get_or (block w u ++ blocks w l) i 0) e ∙ get_or-append (block w u) (blocks w l) 0 q (omega (arith, block_length_lem w u))
blocks_at w (u ∷ l) d (suc b) q h k =
    let e : suc b * block_length (length w) + q ≡ length (block w u) + (b * block_length (length w) + q) = omega (arith, block_length_lem w u) in
    ap (λ i. get_or (block w u ++ blocks w l) i 0) e
    ∙ get_or-append-add (block w u) (blocks w l) (b * block_length (length w) + q) 0 ∙ blocks_at w l d b q (omega arith) k

module _ (w : Word) (run : List ℕ) (short : length w ≤ 255) where
  held_bit : (u : Tree) (first p : ℕ) → HoldsBlock w u run first → p < 64 * block_length (length w)
      → bit_at run (64 * first + p) ≡ obeys w u (start_of p) (end_of p)
  held_bit u first p h l = same_test (bit_at run (64 * first + p)) (obeys w u (start_of p) (end_of p)) to from
    where
      to : T (bit_at run (64 * first + p)) → T (obeys w u (start_of p) (end_of p))
      to b =
          let (i, j, e, o) = h.others p l (of_T (bit_at run (64 * first + p)) b) in
          let f : start_of p ≡ i = omega (arith, e, o.inside) in
          let g : end_of p ≡ j = omega (arith, e, o.inside) in
          rw (f, g) ((obeys_eq w u i j).1 o)

      from : T (obeys w u (start_of p) (end_of p)) → T (bit_at run (64 * first + p))
      from b =
          let e : position (start_of p) (end_of p) ≡ p = omega arith in
          T_of (bit_at run (64 * first + p))
          (ap (λ n. bit_at run (64 * first + n)) (sym e) ∙ h.spans (start_of p) (end_of p) ((obeys_eq w u (start_of p) (end_of p)).0 b))

  held_number : (u : Tree) (first q : ℕ) → HoldsBlock w u run first → q < block_length (length w) → get_or run (first + q) 0 < 2 ^ 64
      → get_or run (first + q) 0 ≡ get_or (block w u) q 0
  unfolding bit_at block
  held_number u first q h k small =
      packed_is 64 (get_or run (first + q) 0) (λ s. obeys w u (start_of (64 * q + s)) (end_of (64 * q + s))) small
      (λ s z.
      let a : (64 * first + (64 * q + s)) % 64 ≡ s = omega arith in
      let b : (64 * first + (64 * q + s)) / 64 ≡ first + q = omega arith in
      rw (a, b) at (held_bit u first (64 * q + s) h (omega arith)))
      ∙ sym (run_at (block_length (length w)) (λ p. obeys w u (start_of p) (end_of p)) q k)

  held_blocks : (l : List Tree) (d : Tree) → ((b : ℕ) → b < length l → HoldsBlock w (get_or l b d) run (b * block_length (length w)))
      → (k : ℕ) → k < length l * block_length (length w) → get_or run k 0 < 2 ^ 64 → get_or run k 0 ≡ get_or (blocks w l) k 0
  held_blocks l d h k z small =
      let c = block_length (length w) in
      let b = k / block_length (length w) in
      let q = k % block_length (length w) in
      let s : k / block_length (length w) * block_length (length w) + k % block_length (length w) ≡ k = div-add-mod' k (block_length (length w)) in
      let g : k % block_length (length w) < block_length (length w) = mod-lt k (omega arith) in
      let y : 0 < block_length (length w) = omega arith in
      let f : k / block_length (length w) < length l = (div-lt_iff_lt-mul y).1 z in
      ap (λ i. get_or run i 0) (sym s)
      ∙ held_number (get_or l b d) (b * c) q (h b f) g (subst (λ i. get_or run i 0 < 2 ^ 64) (sym s) small)
      ∙ sym (blocks_at w l d b q f g) ∙ ap (λ i. get_or (blocks w l) i 0) s

  -- the needed numbers of a run that holds the blocks of t
  pub table_numbers : (t d : Tree)
      → ((b : ℕ) → b ≤ specials t → HoldsBlock w (get_or (t ∷ special_parts t) b d) run (b * block_length (length w)))
      → (k : ℕ) → k < need_of (specials t) (length w) → get_or run k 0 < 2 ^ 64 → get_or run k 0 ≡ get_or (table w t) k 0
  unfolding table
  table_numbers t d h k z small =
      let e = parts_length t in
      let n : length (t ∷ special_parts t) * block_length (length w) ≡ need_of (specials t) (length w) = omega
      (arith, ap (λ n. suc n * block_length (length w)) (parts_length t)) in
      held_blocks (t ∷ special_parts t) d (λ b l. h b (omega arith)) k (omega arith) small

  pub table_only : (t d : Tree) → Small run → length run ≡ need_of (specials t) (length w)
      → ((b : ℕ) → b ≤ specials t → HoldsBlock w (get_or (t ∷ special_parts t) b d) run (b * block_length (length w))) → run ≡ table w t
  table_only t d small e h = ext_get_or 0 run (table w t) (e ∙ sym (table_length w t)) (λ k z. table_numbers t d h k (omega arith) (small k))
