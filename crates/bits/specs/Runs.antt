-- Runs of 64-bit numbers by their bits: computed, and as the functions of this crate leave them. Assumes nothing.
use Rattle.std.specs.Prelude.{◌≡◌, ◌⊎◌, ℕ, zero, suc, ◌+◌, ◌*◌, ◌/◌, ◌%◌, ◌^◌, ◌≤◌, ◌<◌, List, [], ◌∷◌, Bool, true, false, cond, ◌||◌, Option, MatchOption, length, get_or, set}
use Rattle.std.specs.Int.Bits.{bit_or}
use Rattle.bits.specs.Bit.{has_bit, bit_at}

-- 1 for a test that passes, 0 for one that fails
abbrev pub indicator : Bool → ℕ
indicator b = cond b 1 0

-- how many of f 0 to f (k - 1) pass
unfoldable pub tally_below : ℕ → (ℕ → Bool) → ℕ
tally_below zero f = 0
tally_below (suc k) f = indicator (f 0) + tally_below k (λ r. f (suc r))

-- the number whose k lowest bits are f 0, f 1, …
unfoldable pub packed : ℕ → (ℕ → Bool) → ℕ
packed zero f = 0
packed (suc k) f = indicator (f 0) + 2 * packed k (λ r. f (suc r))

-- the run of c numbers whose bits are f 0, f 1, …
unfoldable pub packed_run : ℕ → (ℕ → Bool) → List ℕ
packed_run zero f = []
packed_run (suc c) f = packed 64 f ∷ packed_run c (λ p. f (64 + p))

-- all numbers of the run are 64-bit ones
abbrev pub Small : List ℕ → Type 0
Small a = (i : ℕ) → get_or a i 0 < 2 ^ 64

-- ---- what the functions of this crate do to a run

-- the run with the bits of x joined to those of its number i
abbrev pub joined : List ℕ → ℕ → ℕ → List ℕ
joined a i x = set a i (bit_or (get_or a i 0) x)

-- the same, bit by bit
pub record Merged (a : List ℕ) (i x : ℕ) (b : List ℕ) : Type 0 where
  pub inside : (q : ℕ) → q / 64 ≡ i → bit_at b q ≡ (bit_at a q || has_bit (q % 64) x)
  pub outside : (q : ℕ) → (q / 64 ≡ i → ⊥) → bit_at b q ≡ bit_at a q
  pub long : length b ≡ length a

-- b is a with bit p set, and no other bit changed
pub record Put (a : List ℕ) (p : ℕ) (b : List ℕ) : Type 0 where
  pub same : bit_at b p ≡ true
  pub other : (q : ℕ) → (q ≡ p → ⊥) → bit_at b q ≡ bit_at a q
  pub long : length b ≡ length a

-- b is a with the bits of P set, and no other bit changed
pub record Adds (a : List ℕ) (P : ℕ → Type 0) (b : List ℕ) : Type 0 where
  pub old : (q : ℕ) → bit_at a q ≡ true → bit_at b q ≡ true
  pub new : (q : ℕ) → P q → bit_at b q ≡ true
  pub only : (q : ℕ) → bit_at b q ≡ true → (bit_at a q ≡ true) ⊎ P q
  pub long : length b ≡ length a

-- ---- rows of 128 bits, which are two numbers each

-- r has the bits of row k
abbrev pub RowOf : (a : List ℕ) (k : ℕ) (r : List ℕ) → Type 0
RowOf a k r = (t : ℕ) → t < 128 → bit_at r t ≡ bit_at a (128 * k + t)

-- q is a bit of row k that the row has
pub record InRow (k : ℕ) (row : List ℕ) (q : ℕ) : Type 0 where
  pub place : q / 128 ≡ k
  pub there : bit_at row (q % 128) ≡ true

-- ---- what is found

-- r is the lowest bit that x has and y lacks
pub record Lowest (x y r : ℕ) : Type 0 where
  pub within : r < 64
  pub there : has_bit r x ≡ true
  pub fresh : has_bit r y ≡ false
  pub below : (b : ℕ) → b < r → has_bit b x ≡ true → has_bit b y ≡ true

-- y lacks no bit that x has
abbrev pub NoneLacks : ℕ → ℕ → Type 0
NoneLacks x y = (b : ℕ) → b < 64 → has_bit b x ≡ true → has_bit b y ≡ true

-- the lowest bit that x has and y lacks, if there is one
abbrev pub First : ℕ → ℕ → Option ℕ → Type 0
First x y found = MatchOption found (NoneLacks x y) (Lowest x y)

-- p is the lowest bit that the run of two numbers a has and b lacks
pub record Fresh (a b : List ℕ) (p : ℕ) : Type 0 where
  pub within : p < 128
  pub there : bit_at a p ≡ true
  pub fresh : bit_at b p ≡ false
  pub below : (q : ℕ) → q < p → bit_at a q ≡ true → bit_at b q ≡ true

-- b lacks no bit that a has
abbrev pub NoneFresh : (a b : List ℕ) → Type 0
NoneFresh a b = (q : ℕ) → q < 128 → bit_at a q ≡ true → bit_at b q ≡ true

-- the lowest bit that a has and b lacks, if there is one
abbrev pub FirstMissing : (a b : List ℕ) → Option ℕ → Type 0
FirstMissing a b found = MatchOption found (NoneFresh a b) (Fresh a b)
