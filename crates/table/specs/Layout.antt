-- Where the bits of spans stand in a table that holds several blocks. Above `work`, no definition but these and no code but this crate's
-- knows the layout: others speak of `span_bit`, and of `row_bit` where a row was read, by the laws of proofs/LayoutLaws. Assumes nothing.
use Rattle.std.specs.Prelude.{ℕ, ◌+◌, ◌*◌, ◌≤◌, ◌<◌, ◌≡◌, List, Bool, true, false, length}
use Rattle.bits.specs.Bit.{bit_at}
use Rattle.work.specs.Table.{position, block_length}
use Rattle.table.specs.declared.Block.{Block}

-- the block whose first number is given, for a word of n events
abbrev pub block_at : ℕ → ℕ → Block
block_at first n = record { first = first; n = n }

-- the bit of span (i, j) of a block
unfoldable pub span_bit : Block → ℕ → ℕ → ℕ
span_bit b i j = 64 * b.first + position i j

-- the block lies within a table of so many numbers
pub record Lies (b : Block) (size : ℕ) : Type 0 where
  pub short : b.n ≤ 255
  pub within : b.first + block_length b.n ≤ size

-- bit q of the table is one of the block's
pub record InBlock (b : Block) (q : ℕ) : Type 0 where
  pub from : 64 * b.first ≤ q
  pub to : q < 64 * (b.first + block_length b.n)

-- bit q of the table is that of a span of the block
pub record SpanAt (b : Block) (q : ℕ) : Type 0 where
  pub start : ℕ
  pub end : ℕ
  pub order : start ≤ end
  pub inside : end ≤ b.n
  pub bit : q ≡ span_bit b start end

-- ---- what the functions do

-- bit k of row i as it is read: where i ≤ k ≤ n, that of span (i, k)
unfoldable pub row_bit : List ℕ → Block → ℕ → ℕ → Bool
row_bit table b i k = bit_at table (span_bit b i k)

-- bit q of the table is that of a span of the row, from start i
pub record RowSpan (b : Block) (i : ℕ) (row : List ℕ) (q : ℕ) : Type 0 where
  pub end : ℕ
  pub order : i ≤ end
  pub inside : end ≤ b.n
  pub bit : q ≡ span_bit b i end
  pub there : bit_at row end ≡ true

-- c is the table a with the block cleared
pub record Cleared (a : List ℕ) (b : Block) (c : List ℕ) : Type 0 where
  pub inside : (q : ℕ) → InBlock b q → bit_at c q ≡ false
  pub outside : (q : ℕ) → (InBlock b q → ⊥) → bit_at c q ≡ bit_at a q
  pub long : length c ≡ length a
