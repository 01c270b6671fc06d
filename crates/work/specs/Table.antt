-- Where a span's bit stands in the span table, and what a block holds. Assumes nothing.
use Rattle.std.specs.Prelude.{◌≡◌, List, [], ◌∷◌, true, ℕ, ◌+◌, ◌*◌, suc, ◌≤◌, ◌<◌, T, length}
use Rattle.bits.specs.Bit.{bit_at}
use Rattle.event.specs.Event.{Word}
use Rattle.expression.specs.Tree.{Tree, offset, is_special}
use Rattle.work.specs.Span.{Obeys}
use Rattle.work.specs.Walk.{Part}

-- 01: "A block has n + 1 rows of four numbers. In row i, span (i, j) is the bit worth 2 to the power (j modulo 64)
-- of number (j divided by 64, rounded down)."
-- Counted from the block's first number, 64 bits to a number, that is bit 256 i + j.
abbrev pub position : ℕ → ℕ → ℕ
position i j = 256 * i + j

abbrev pub block_length : ℕ → ℕ
block_length n = (n + 1) * 4

-- 01: "The bit is 1 exactly if the span obeys; all other bits are 0."
-- So says `HoldsBlock` of a run, from its number `first` on, for the part t.
pub record HoldsBlock (w : Word) (t : Tree) (run : List ℕ) (first : ℕ) : Type 0 where
  pub spans : (i j : ℕ) → Obeys w t i j → bit_at run (64 * first + position i j) ≡ true
  pub others : (p : ℕ) → p < 64 * block_length (length w) → bit_at run (64 * first + p) ≡ true
      → (i : ℕ) × (j : ℕ) × (p ≡ position i j) × Obeys w t i j

-- 01: "the part of the rule that the node heads, itself included": u is such a part of t, whose records stand from x on
abbrev pub SpecialPart : Tree → ℕ → Tree → Type 0
SpecialPart t x u = (y : ℕ) × Part t x u y × T (is_special u)

-- 01: "in rising byte offset": the offsets of the parts rise, from lo on
abbrev pub Rising : ℕ → List Tree → Type 0
Rising lo [] = Unit {0}
Rising lo (t ∷ l) = (lo ≤ offset t) × Rising (suc (offset t)) l

-- 01: "The judge needs (k + 1) × (n + 1) × 4 numbers"
abbrev pub need_of : ℕ → ℕ → ℕ
need_of k n = (k + 1) * block_length n
