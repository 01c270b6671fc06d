-- One walk, number by number of used events. Assumes nothing.
use Rattle.std.specs.Prelude.{ℕ, ◌+◌, ◌-◌, ◌*◌, ◌/◌, ◌%◌, ◌≤◌, ◌<◌, ◌≡◌, ◌⊎◌, List, Bool, true, false, length, Option, Some, None}
use Rattle.bits.specs.Bit.{bit_at}
use Rattle.bits.specs.Runs.{tally_below}
use Rattle.moves.specs.Reached.{Reached}
use Rattle.moves.specs.Moves.{FreeMove}
use Rattle.levels.specs.Sets.{Among}
use Rattle.levels.specs.Exits.{has_span, SpanHere}
use Rattle.marks.specs.declared.counting.Work.{Work}
use Rattle.walk.specs.declared.walks.WalkEnd.{WalkEnd}
use Rattle.walk.specs.Course.{Course, Step}

-- ---- the states of one number

-- the place q is an exit to come; X are the bits of exits to come
pub record Pending (X : ℕ → Bool) (q : ℕ) : Type 0 where
  pub odd : q % 2 ≡ 1
  pub bit : X (128 * (q % 128 - 1) + q / 128) ≡ true

-- p is marked, or is an exit to come at number j
abbrev pub MarkedOrDue : (marks : List ℕ) (X : ℕ → Bool) (j p : ℕ) → Type 0
MarkedOrDue a X j p = (bit_at a p ≡ true) ⊎ ((p / 128 ≡ j) × Pending X p)

-- q is an exit to come of a special node whose entry is in the set, at number j
pub record SpanExit (t : Course) (j : ℕ) (set : List ℕ) (q : ℕ) : Type 0 where
  pub small : q < 16384
  pub entry : bit_at set (2 * (q / 256)) ≡ true
  pub special : bit_at t.specials (2 * (q / 256)) ≡ true
  pub span : has_span t.firsts t.table (length t.word) (q / 256) j (q % 256) ≡ true

-- Y is X with bits of P, all those that stand at numbers from j to n
pub record Joins (j n : ℕ) (X : ℕ → Bool) (P : ℕ → Type 0) (Y : ℕ → Bool) : Type 0 where
  pub old : (q : ℕ) → X q ≡ true → Y q ≡ true
  pub new : (q : ℕ) → P q → j ≤ q % 256 → q % 256 ≤ n → Y q ≡ true
  pub only : (q : ℕ) → q < 16384 → Y q ≡ true → (X q ≡ true) ⊎ P q

-- e has the states that are reached at number j from the marks a and the exits to come X, which are Y then; u are the open nodes' entries
pub record LevelSet (t : Course) (j : ℕ) (a : List ℕ) (X : ℕ → Bool) (e : List ℕ) (Y : ℕ → Bool) (u : List ℕ) : Type 0 where
  pub marked : (s : ℕ) → s < 128 → bit_at a (128 * j + s) ≡ true → bit_at e s ≡ true
  pub waiting : (p : ℕ) → p / 128 ≡ j → Pending X p → bit_at e (p % 128) ≡ true
  pub only : (s : ℕ) → s < 128 → bit_at e s ≡ true → Reached (MarkedOrDue a X j) (Step t) (128 * j + s)
  pub free : (s r : ℕ) → FreeMove t.closed s r → bit_at e s ≡ true → bit_at e r ≡ true
  pub here : (s r : ℕ) → SpanHere t.specials t.firsts t.table (length t.word) j s r → bit_at e s ≡ true → bit_at e r ≡ true
  pub exits : Joins j (length t.word) X (SpanExit t j e) Y
  pub inside : Among u t.specials

-- ---- what a walk leaves

-- the work after a walk, if the limit is not spent
abbrev pub work_of : Option WalkEnd → Option Work
work_of None = None
work_of (Some e) = Some e.work

-- b has marks of places that are reached from the marks of a, and c is count and as many more. That is all of them, or, where they would be
-- more than the limit, so many that the limit is passed, and c is the limit.
pub record Walked (t : Course) (count limit : ℕ) (a b : List ℕ) (c : ℕ) (spent : Bool) : Type 0 where
  pub only : (q : ℕ) → bit_at b q ≡ true → Reached (λ (p : ℕ). bit_at a p ≡ true) (Step t) q
  pub all : spent ≡ false → (q : ℕ) → Reached (λ (p : ℕ). bit_at a p ≡ true) (Step t) q → bit_at b q ≡ true
  pub counted : spent ≡ false → c ≡ count + tally_below (128 * (length t.word + 1)) (bit_at b)
  pub over : spent ≡ true → limit < count + tally_below (128 * (length t.word + 1)) (bit_at b)
  pub spends : spent ≡ true → c ≡ limit
  pub bounded : c ≤ limit
  pub long : length b ≡ length a
