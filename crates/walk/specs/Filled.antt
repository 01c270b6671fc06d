-- The block of an owner: the rows of the span table that its walks from all starts fill. Assumes nothing.
use Rattle.std.specs.Prelude.{ℕ, zero, suc, ◌+◌, ◌*◌, ◌/◌, ◌%◌, ◌≤◌, ◌<◌, ◌≡◌, ◌⊎◌, List, Bool, true, false, length, get_or}
use Rattle.bits.specs.Bit.{bit_at}
use Rattle.bits.specs.Runs.{tally_below}
use Rattle.moves.specs.Reached.{Reached}
use Rattle.marks.specs.declared.target.Target.{Target}
use Rattle.marks.specs.Marks.{StartsAt}
use Rattle.marks.specs.Rows.{judged}
use Rattle.table.specs.declared.Block.{Block}
use Rattle.table.specs.Layout.{block_at, span_bit, InBlock, SpanAt}
use Rattle.work.specs.Table.{block_length}
use Rattle.walk.specs.Course.{Course, Step}

-- the target's block in the automaton's table
abbrev pub block_of : Course → Target → Block
block_of t o = block_at o.first (length t.word)

-- the target's block is none of those that its walks go by
abbrev pub Apart : (t : Course) (o : Target) → Type 0
Apart t o =
    (i q : ℕ) → i ≤ length t.word → Reached (StartsAt o i) (Step t) q → bit_at t.specials (q % 128) ≡ true
    → (get_or t.firsts (q % 128 / 2) 0 + block_length (length t.word) ≤ o.first)
    ⊎ (o.first + block_length (length t.word) ≤ get_or t.firsts (q % 128 / 2) 0)

-- the sum of f over the numbers below k
unfoldable pub sum_below : (ℕ → ℕ) → ℕ → ℕ
sum_below f zero = 0
sum_below f (suc k) = f k + sum_below f k

-- how many places the walks of the starts below k have marked, over a word of n events
abbrev pub visits : (marks : ℕ → List ℕ) (n k : ℕ) → ℕ
visits marks n k = sum_below (λ (i : ℕ). tally_below (128 * (n + 1)) (bit_at (marks i))) k

-- b is the table with the target's block filled, from the starts below stop, which are all or as many as the limit allows: the marks of
-- each walk are the places reached, its row says which spans obey, and no other bit of the block is set; c is count and as many more as there
-- are places, or the limit where it is spent. The lent numbers are 64-bit ones, so their bits determine them.
pub record Filled (t : Course) (o : Target) (count limit : ℕ) (b : List ℕ) (c : ℕ) (spent : Bool) : Type 0 where
  pub stop : ℕ
  pub marks : ℕ → List ℕ
  pub few : stop ≤ length t.word + 1
  pub finished : spent ≡ false → stop ≡ length t.word + 1
  pub only : (i q : ℕ) → bit_at (marks i) q ≡ true → Reached (StartsAt o i) (Step t) q
  pub all : (i q : ℕ) → i < stop → Reached (StartsAt o i) (Step t) q → bit_at (marks i) q ≡ true
  pub fits : count + visits marks (length t.word) stop ≤ limit
  pub counted : spent ≡ false → c ≡ count + visits marks (length t.word) (length t.word + 1)
  pub over : spent ≡ true → (stop ≤ length t.word) × (limit < count + visits marks (length t.word) (stop + 1))
  pub spends : spent ≡ true → c ≡ limit
  pub bounded : c ≤ limit
  pub rows : (i j : ℕ) → i < stop → i ≤ j → j ≤ length t.word → bit_at b (span_bit (block_of t o) i j) ≡ judged (marks i) o j
  pub others : (q : ℕ) → InBlock (block_of t o) q → bit_at b q ≡ true → (z : SpanAt (block_of t o) q) × (z.start < stop)
  pub outside : (q : ℕ) → (InBlock (block_of t o) q → ⊥) → bit_at b q ≡ bit_at t.table q
  pub long : length b ≡ length t.table
