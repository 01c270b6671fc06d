-- The walk of one start, and its row. Assumes nothing.
use Rattle.std.specs.Prelude.{ℕ, ◌+◌, ◌*◌, ◌≤◌, ◌<◌, ◌≡◌, List, Bool, true, false, length}
use Rattle.bits.specs.Bit.{bit_at}
use Rattle.bits.specs.Runs.{tally_below, Adds}
use Rattle.moves.specs.Reached.{Reached}
use Rattle.table.specs.Layout.{RowSpan}
use Rattle.marks.specs.declared.target.Target.{Target}
use Rattle.marks.specs.Marks.{StartsAt}
use Rattle.marks.specs.Rows.{row_of}
use Rattle.walk.specs.Course.{Course, Step}
use Rattle.walk.specs.Filled.{block_of}

-- the walk of one start: its marks are the places reached, each of which was counted, and its row's spans were added to the table
pub record Started (t : Course) (o : Target) (i count limit : ℕ) (b : List ℕ) (c : ℕ) (spent : Bool) : Type 0 where
  pub marks : List ℕ
  pub only : (q : ℕ) → bit_at marks q ≡ true → Reached (StartsAt o i) (Step t) q
  pub all : spent ≡ false → (q : ℕ) → Reached (StartsAt o i) (Step t) q → bit_at marks q ≡ true
  pub counted : spent ≡ false → c ≡ count + tally_below (128 * (length t.word + 1)) (bit_at marks)
  pub over : spent ≡ true → limit < count + tally_below (128 * (length t.word + 1)) (bit_at marks)
  pub spends : spent ≡ true → c ≡ limit
  pub bounded : c ≤ limit
  pub row : spent ≡ false → (r : List ℕ) × ((k : ℕ) → k < 256 → bit_at r k ≡ row_of marks o i (length t.word) k)
      × Adds t.table (RowSpan (block_of t o) i r) b
  pub kept : spent ≡ true → b ≡ t.table
