-- What the span table's numbers show. Assumes nothing.
use mathlib.Core.Path.{◌≡◌, refl, sym, ap, ◌∙◌}
use mathlib.Core.Logic.{◌↔◌}
use mathlib.Core.List.{List, [], ◌∷◌, ◌++◌}
use mathlib.Core.Bool.{◌&&◌}
use Prim.Native.Nat.{ℕ, zero, suc, ◌+◌, ◌*◌, ◌≤◌, ◌<◌}
use native.Mathlib.Omega.{arith}
use lib.Dec.{T, leb, leb→le, le→leb, lit<}
use lib.ListN.{length, get_or, length-append}
use lib.Seq.{slice}
use Rattle.bits.specs.Bit.{bit_at}
use Rattle.bits.specs.Runs.{Small}
use Rattle.bits.proofs.Packed.{run_length, run_bit, bit_front, bit_behind, run_small, append_small}
use Rattle.event.specs.Event.{Word}
use Rattle.event.proofs.Tests.{and_split, and_join, T_of, of_T}
use Rattle.expression.specs.Tree.{Tree, empty, epsilon, letter, union, intersection, concatenation, complement, star, specials}
use Rattle.expression.specs.Accept.{accepts}
use Rattle.expression.proofs.LangDecided.{decides}
use Rattle.work.specs.Span.{Obeys}
use Rattle.work.specs.Table.{position, block_length, HoldsBlock, need_of}
use Rattle.work.specs.TableComputed.{obeys, start_of, end_of, block, special_parts, blocks, table}

pub obeys_eq : (w : Word) (t : Tree) (i j : ℕ) → T (obeys w t i j) ↔ Obeys w t i j
unfolding obeys
obeys_eq w t i j = (
  λ h. let p = and_split (leb i j && leb j (length w)) (accepts t (slice i j w)) h in
      let q = and_split (leb i j) (leb j (length w)) p.0 in
      record { order = leb→le i j q.0; inside = leb→le j (length w) q.1; word = (decides t (slice i j w)).0 p.1 },
  λ o. and_join (leb i j && leb j (length w)) (accepts t (slice i j w))
      (and_join (leb i j) (leb j (length w)) (le→leb i j o.order) (le→leb j (length w) o.inside))
      ((decides t (slice i j w)).1 o.word),
)

-- ---- lengths
pub block_length_lem : (w : Word) (t : Tree) → length (block w t) ≡ block_length (length w)
unfolding block
block_length_lem w t = run_length (block_length (length w)) (λ p. obeys w t (start_of p) (end_of p))

pub blocks_length : (w : Word) (l : List Tree) → length (blocks w l) ≡ length l * block_length (length w)
blocks_length w [] = omega arith
blocks_length w (t ∷ l) = length-append (block w t) (blocks w l) ∙ omega (arith, block_length_lem w t, blocks_length w l)

-- k is the number of special parts
pub parts_length : (t : Tree) → length (special_parts t) ≡ specials t
parts_length (empty o) = refl
parts_length (epsilon o) = refl
parts_length (letter o c) = refl
parts_length (union o a b) = simp length-append (omega (arith, parts_length a, parts_length b))
parts_length (intersection o a b) = simp length-append (omega (arith, parts_length a, parts_length b))
parts_length (concatenation o a b) = simp length-append (omega (arith, parts_length a, parts_length b))
parts_length (complement o a) = ap suc (parts_length a)
parts_length (star o a) = parts_length a

pub table_length : (w : Word) (t : Tree) → length (table w t) ≡ need_of (specials t) (length w)
unfolding table
table_length w t = blocks_length w (t ∷ special_parts t) ∙ omega (arith, ap (λ n. suc n * block_length (length w)) (parts_length t))

-- ---- bits
pub block_bit : (w : Word) (t : Tree) (p : ℕ) → p < 64 * block_length (length w) → bit_at (block w t) p ≡ obeys w t (start_of p) (end_of p)
unfolding block
block_bit w t p h = run_bit (block_length (length w)) (λ q. obeys w t (start_of q) (end_of q)) p h

-- the block with the number b
pub blocks_bit : (w : Word) (l : List Tree) (d : Tree) (b p : ℕ) → b < length l → p < 64 * block_length (length w)
    → bit_at (blocks w l) (64 * (b * block_length (length w)) + p) ≡ bit_at (block w (get_or l b d)) p
blocks_bit w [] d b p h k = absurd (omega arith)
blocks_bit w (t ∷ l) d zero p h k =
    let e : 64 * (0 * block_length (length w)) + p ≡ p = omega arith in
    ap (bit_at (block w t ++ blocks w l)) e ∙ bit_front (block w t) (blocks w l) p (omega (arith, block_length_lem w t))
blocks_bit w (t ∷ l) d (suc b) p h k =
    let e : 64 * (suc b * block_length (length w)) + p ≡ 64 * length (block w t) + (64 * (b * block_length (length w)) + p) = omega
    (arith, block_length_lem w t) in
    ap (bit_at (block w t ++ blocks w l)) e ∙ bit_behind (block w t) (blocks w l) (64 * (b * block_length (length w)) + p)
    ∙ blocks_bit w l d b p (omega arith) k

-- a block's bits hold the block
pub holds : (w : Word) (t : Tree) (run : List ℕ) (first : ℕ) → length w ≤ 255
    → ((p : ℕ) → p < 64 * block_length (length w) → bit_at run (64 * first + p) ≡ obeys w t (start_of p) (end_of p)) → HoldsBlock w t run first
holds w t run first short h =
    record {
      spans = λ i j o.
          let a : position i j < 64 * block_length (length w) = omega (arith, o.order, o.inside) in
          let s : start_of (position i j) ≡ i = omega (arith, o.inside) in
          let e : end_of (position i j) ≡ j = omega (arith, o.inside) in
          h (position i j) a ∙ rw (s, e) (of_T (obeys w t i j) ((obeys_eq w t i j).1 o));
      others = λ p l e. (
        start_of p,
        end_of p,
        omega arith,
        (obeys_eq w t (start_of p) (end_of p)).0
            (T_of (obeys w t (start_of p) (end_of p)) (sym (h p l) ∙ e)),
      );
    }

-- the table's block number b is that of the whole rule, or of the special part that it is for
pub table_holds : (w : Word) (t : Tree) (b : ℕ) → length w ≤ 255 → b ≤ specials t
    → HoldsBlock w (get_or (t ∷ special_parts t) b t) (table w t) (b * block_length (length w))
unfolding table
table_holds w t b short h =
    holds w (get_or (t ∷ special_parts t) b t) (blocks w (t ∷ special_parts t)) (b * block_length (length w)) short
    (λ p l. blocks_bit w (t ∷ special_parts t) t b p (omega (arith, parts_length t)) l ∙ block_bit w (get_or (t ∷ special_parts t) b t) p l)

-- a block stays where it is when numbers are put behind the run
pub holds_in_front : {w : Word} {t : Tree} {run : List ℕ} {first : ℕ} (rest : List ℕ) → length w ≤ 255
    → first + block_length (length w) ≤ length run → HoldsBlock w t run first → HoldsBlock w t (run ++ rest) first
holds_in_front {w} {t} {run} {first} rest short room h = record {
  spans = λ i j o.
      let a : position i j < 64 * block_length (length w) = omega (arith, o.order, o.inside) in
      bit_front run rest (64 * first + position i j) (omega arith) ∙ h.spans i j o;
  others = λ p l e. h.others p l (sym (bit_front run rest (64 * first + p) (omega arith)) ∙ e);
}

-- each number of the table is a 64-bit number
blocks_small : (w : Word) (l : List Tree) → Small (blocks w l)
unfolding block
blocks_small w [] = λ i. lit< tt
blocks_small w (t ∷ l) = append_small (block w t) (blocks w l)
    (run_small (block_length (length w)) (λ p. obeys w t (start_of p) (end_of p))) (blocks_small w l)

pub table_small : (w : Word) (t : Tree) → Small (table w t)
unfolding table
table_small w t = blocks_small w (t ∷ special_parts t)
