-- What the private functions do to the sets of states and exits that they are lent. Assumes nothing.
use Rattle.std.specs.Prelude.{ℕ, ◌+◌, ◌*◌, ◌/◌, ◌%◌, ◌≤◌, ◌<◌, ◌≡◌, ◌⊎◌, ◌↔◌, List, Bool, true, false, cond, ◌&&◌, ◌||◌, Option, MatchOption, length}
use Rattle.bits.specs.Bit.{has_bit, bit_at}
use Rattle.bits.specs.Runs.{Put}
use Rattle.levels.specs.Exits.{to_come, LeftAt, has_span}

-- ---- sets of states

-- r has the states that a and b have
pub record Common (a b r : List ℕ) : Type 0 where
  pub both : (s : ℕ) → s < 128 → bit_at a s ≡ true → bit_at b s ≡ true → bit_at r s ≡ true
  pub left : (s : ℕ) → s < 128 → bit_at r s ≡ true → bit_at a s ≡ true
  pub right : (s : ℕ) → s < 128 → bit_at r s ≡ true → bit_at b s ≡ true

-- t is q, if the run has bit p
abbrev pub PutIf : (a : List ℕ) (p q t : ℕ) → Type 0
PutIf a p q t = (t ≡ q) × (bit_at a p ≡ true)

-- ---- free moves

-- q is a state that s leads to
pub record LedTo (closed : List ℕ) (s q : ℕ) : Type 0 where
  pub small : q < 128
  pub leads : bit_at closed (128 * s + q) ≡ true

-- q is such a state, if the test passes
abbrev pub LedIf : (test : Bool) (closed : List ℕ) (s q : ℕ) → Type 0
LedIf test c s q = LedTo c s q × (test ≡ true)

-- a state of a leads to t, and all that it leads to is in e
pub record LedFrom (closed a e : List ℕ) (t : ℕ) : Type 0 where
  pub by : ℕ
  pub small : by < 128
  pub there : bit_at a by ≡ true
  pub leads : bit_at closed (128 * by + t) ≡ true
  pub rest : (u : ℕ) → u < 128 → bit_at closed (128 * by + u) ≡ true → bit_at e u ≡ true

-- e is d with all that the states of number w of a lead to, where those that d has are passed over
pub record FollowedWord (closed a : List ℕ) (w : ℕ) (d e : List ℕ) : Type 0 where
  pub all : (b : ℕ) → b < 64 → bit_at a (64 * w + b) ≡ true → bit_at e (64 * w + b) ≡ true
  pub old : (s : ℕ) → bit_at d s ≡ true → bit_at e s ≡ true
  pub only : (t : ℕ) → t < 128 → bit_at e t ≡ true → (bit_at d t ≡ true) ⊎ LedFrom closed a e t
  pub long : length e ≡ length d

-- ---- exits

-- r is x moved up by one bit
pub record MovedUp (x r : ℕ) : Type 0 where
  pub on : (b : ℕ) → b < 63 → has_bit (b + 1) r ≡ has_bit b x
  pub zero : has_bit 0 r ≡ false

-- t is the exit of an entry of the set
pub record ExitOf (set : List ℕ) (t : ℕ) : Type 0 where
  pub entry : ℕ
  pub exit : t ≡ entry + 1
  pub small : entry < 128
  pub there : bit_at set entry ≡ true

-- node i is left at every number from k on that is below r, and not at r
pub record GapAt (exits : List ℕ) (i k r : ℕ) : Type 0 where
  pub within : r < 256
  pub left : (m : ℕ) → k ≤ m → m < r → bit_at exits (256 * i + m) ≡ true
  pub from : k ≤ r
  pub stops : bit_at exits (256 * i + r) ≡ false

-- the first such number, if there is one: node i is left at every number from k on otherwise
abbrev pub Gap : (exits : List ℕ) (i k : ℕ) → Option ℕ → Type 0
Gap x i k found = MatchOption found ((m : ℕ) → k ≤ m → m < 256 → bit_at x (256 * i + m) ≡ true) (GapAt x i k)

-- g is f with s, if its node is left at every number from k to n
pub record PutFull (exits : List ℕ) (s k n : ℕ) (f g : List ℕ) : Type 0 where
  pub here : (bit_at g s ≡ true) ↔ ((bit_at f s ≡ true) ⊎ LeftAt exits s k n)
  pub other : (t : ℕ) → (t ≡ s → ⊥) → bit_at g t ≡ bit_at f t
  pub long : length g ≡ length f

-- x, or 0
abbrev pub kept_if : Bool → ℕ → ℕ
kept_if b x = cond b x 0

-- y is x with a row for node i: beside what it had, if it was open, or alone
pub record RowJoined (keep : Bool) (row : List ℕ) (i : ℕ) (x y : List ℕ) : Type 0 where
  pub inside : (q : ℕ) → q / 256 ≡ i → bit_at y q ≡ (keep && bit_at x q || bit_at row (q % 256))
  pub outside : (q : ℕ) → (q / 256 ≡ i → ⊥) → bit_at y q ≡ bit_at x q
  pub long : length y ≡ length x

-- the special node of the entry s is entered at number j: its row is joined to x, it is open, and full if it is
pub record NodeEntered (firsts table : List ℕ) (n j s : ℕ) (x v f y u g : List ℕ) : Type 0 where
  pub inside : (q : ℕ) → q / 256 ≡ s / 2 → bit_at y q ≡ (to_come x v q || has_span firsts table n (s / 2) j (q % 256))
  pub outside : (q : ℕ) → (q / 256 ≡ s / 2 → ⊥) → bit_at y q ≡ bit_at x q
  pub long : length y ≡ length x
  pub opened : Put v s u
  pub full : PutFull y s (j + 1) n f g
