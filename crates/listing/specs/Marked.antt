-- The spans that a block is_marked, and the text that lists them. Assumes nothing.
use Rattle.std.specs.Prelude.{ℕ, zero, suc, ◌-◌, ◌≤◌, ◌<◌, ◌≡◌, Bool, true, false, List, [], ◌++◌, Option, Some, None}
use Rattle.bits.specs.Bit.{bit_at}
use Rattle.work.specs.Spans.{Spans}
use Rattle.work.specs.SpansComputed.{list_if}
use Rattle.table.specs.Layout.{block_at, span_bit}
use Rattle.listing.specs.declared.Heading.{Heading}
use Rattle.listing.specs.Lines.{head_line, span_lines}

-- the spans (i, j) to (i, j + d - 1) whose ends pass a test
unfoldable pub ends : (ℕ → Bool) → ℕ → ℕ → ℕ → Spans
ends f i zero j = []
ends f i (suc d) j = let r = ends f i d (suc j) in list_if (f j) i j r

-- those of the starts i to i + d - 1, each with the ends from it to i + d - 1
unfoldable pub starts : (ℕ → ℕ → Bool) → ℕ → ℕ → Spans
starts f zero i = []
starts f (suc d) i = ends (f i) i (suc d) i ++ starts f d (suc i)

-- the bit of span (i, j) is 1 in a block for n events
abbrev pub is_marked : ℕ → List ℕ → ℕ → ℕ → Bool
is_marked n a i j = bit_at a (span_bit (block_at 0 n) i j)

-- 01, The program: "each span whose bit is 1 in the first block .. by rising i and then rising j". That it has exactly these, in this
-- order, are `marked_has` and `marked_order` in proofs/ListingLaws.
abbrev pub marked : ℕ → List ℕ → Spans
marked n a = starts (is_marked n a) (suc n) 0

-- 01, The program: the `H` line, "then for each span whose bit is 1 in the first block `S`, i, j, by rising i and then rising j"
unfoldable pub listing : Heading → List ℕ → List ℕ
listing h a = head_line h ++ span_lines (marked h.n a)

-- ---- what the functions measure and write

-- the lines of the spans from i whose ends, from j to n, pass a test
abbrev pub row_lines : (ℕ → Bool) → ℕ → ℕ → ℕ → List ℕ
row_lines f i n j = span_lines (ends f i (suc n - j) j)

-- the lines of the spans whose starts are i to n
abbrev pub block_lines : (ℕ → ℕ → Bool) → ℕ → ℕ → List ℕ
block_lines f n i = span_lines (starts f (suc n - i) i)

-- r is the first number from j to n that passes a test
pub record Next (f : ℕ → Bool) (j n r : ℕ) : Type 0 where
  pub from : j ≤ r
  pub within : r ≤ n
  pub there : f r ≡ true
  pub none : (k : ℕ) → j ≤ k → k < r → f k ≡ false

-- the first number from j to n that passes a test, if there is one
abbrev pub NextEnd : (ℕ → Bool) → ℕ → ℕ → Option ℕ → Type 0
NextEnd f j n None = (k : ℕ) → j ≤ k → k ≤ n → f k ≡ false
NextEnd f j n (Some r) = Next f j n r
