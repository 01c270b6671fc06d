-- What the private functions that close the moves do: rows of pairs, where bit 128 * s + t is the pair of s and t. Assumes nothing.
use Rattle.std.specs.Prelude.{ℕ, ◌+◌, ◌*◌, ◌/◌, ◌%◌, ◌<◌, ◌≡◌, ◌⊎◌, List, true}
use Rattle.bits.specs.Bit.{bit_at}
use Rattle.moves.specs.Moves.{FreeMove, Leads}

-- the pairs of s with what k is paired with
pub record Through (a : List ℕ) (s k q : ℕ) : Type 0 where
  pub row : q / 128 ≡ s
  pub second : bit_at a (128 * k + q % 128) ≡ true

-- the states that are followed, for row s, where k is: q is k, or, if k is before s, in row k
abbrev pub Followed : (c : List ℕ) (s k q : ℕ) → Type 0
Followed c s k q = (q ≡ k) ⊎ ((k < s) × Through c 0 k q)

-- c has the moves m, each state's pair with itself, and nothing to which moves do not lead; the rows before s are complete: moves lead from
-- their states to their states
pub record Completed (m : List ℕ) (s : ℕ) (c : List ℕ) : Type 0 where
  pub has : (q : ℕ) → bit_at m q ≡ true → bit_at c q ≡ true
  pub self : (k : ℕ) → k < 128 → bit_at c (128 * k + k) ≡ true
  pub only : (k t : ℕ) → k < 128 → t < 128 → bit_at c (128 * k + t) ≡ true → Leads m k t
  pub complete : (r k t : ℕ) → r < s → FreeMove m k t → bit_at c (128 * r + k) ≡ true → bit_at c (128 * r + t) ≡ true

-- the pairs of a state below s with itself
pub record OnDiagonal (s q : ℕ) : Type 0 where
  pub row : q / 128 < s
  pub same : q / 128 ≡ q % 128

-- the moves leave only states below n
abbrev pub LeaveBelow : ℕ → List ℕ → Type 0
LeaveBelow n moves = (s t : ℕ) → t < 128 → bit_at moves (128 * s + t) ≡ true → s < n
