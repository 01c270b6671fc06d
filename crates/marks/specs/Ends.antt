-- A start whose walk goes no further than its initial states. Assumes nothing.
use Rattle.std.specs.Prelude.{ℕ, ◌+◌, ◌-◌, ◌*◌, ◌≤◌, ◌<◌, ◌≡◌, List, Bool, true, false, ◌⊎◌, ◌↔◌, length, get_or, replicate}
use Rattle.bits.specs.Bit.{bit_at}
use Rattle.bits.specs.Runs.{tally_below, Adds}
use Rattle.table.specs.Layout.{block_at, RowSpan}
use Rattle.levels.specs.Sets.{Disjoint, LetterExit}
use Rattle.marks.specs.declared.target.Target.{Target}
use Rattle.marks.specs.Marks.{StoredAt}
use Rattle.marks.specs.Rows.{row_of}

-- a has the states that free moves lead to from where the target's walks begin
abbrev pub Initial : (closed : List ℕ) (o : Target) (a : List ℕ) → Type 0
Initial c o a =
    (s : ℕ) → s < 128 → (bit_at a s ≡ true) ↔ ((bit_at c (128 * (o.left - 1) + s) ≡ true) ⊎ (bit_at c (128 * (o.right - 1) + s) ≡ true))

-- a walk that is at the states of a at number i goes no further: none is the entry of a special node, or of one that fits event i
pub record EndsThere (letters specials word : List ℕ) (i : ℕ) (a : List ℕ) : Type 0 where
  pub plain : Disjoint a specials
  pub silent : i < length word → (t : ℕ) → LetterExit letters a (get_or word i 0) t → ⊥

-- the places of a at number i are marked and counted, and the row's spans added, or the limit is passed
pub record EndedRow (table a : List ℕ) (o : Target) (i n count limit : ℕ) (b : List ℕ) (c : ℕ) (spent : Bool) : Type 0 where
  pub marks : List ℕ
  pub marked : StoredAt (replicate 512 0) a i marks
  pub counted : spent ≡ false → c ≡ count + tally_below 128 (λ (s : ℕ). bit_at marks (128 * i + s))
  pub over : spent ≡ true → limit < count + tally_below 128 (λ (s : ℕ). bit_at marks (128 * i + s))
  pub spends : spent ≡ true → c ≡ limit
  pub bounded : c ≤ limit
  pub row : spent ≡ false
      → (r : List ℕ) × ((k : ℕ) → k < 256 → bit_at r k ≡ row_of marks o i n k) × Adds table (RowSpan (block_at o.first n) i r) b
  pub kept : spent ≡ true → b ≡ table
