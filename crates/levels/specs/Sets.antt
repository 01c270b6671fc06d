-- Sets of states, and the moves between them that use no event or one. A set is a run of two numbers: its state s is bit s. Assumes nothing.
use Rattle.std.specs.Prelude.{ℕ, ◌+◌, ◌*◌, ◌%◌, ◌<◌, ◌≡◌, List, true, replicate}
use Rattle.bits.specs.Bit.{bit_at}
use Rattle.bits.specs.Runs.{Adds}

-- q is a state of the set
pub record InSet (set : List ℕ) (q : ℕ) : Type 0 where
  pub small : q < 128
  pub there : bit_at set q ≡ true

-- r is the set of exactly the states of P
abbrev pub Exactly : (ℕ → Type 0) → List ℕ → Type 0
Exactly P r = Adds (replicate 2 0) P r

-- the states of a are among those of b
abbrev pub Among : (a b : List ℕ) → Type 0
Among a b = (s : ℕ) → s < 128 → bit_at a s ≡ true → bit_at b s ≡ true

-- a and b have no state in common
abbrev pub Disjoint : (a b : List ℕ) → Type 0
Disjoint a b = (s : ℕ) → s < 128 → bit_at a s ≡ true → bit_at b s ≡ true → ⊥

-- a has no state
abbrev pub NoState : (a : List ℕ) → Type 0
NoState a = (s : ℕ) → bit_at a s ≡ true → ⊥

-- the states of the set are entries, which are even
abbrev pub Entries : (set : List ℕ) → Type 0
Entries a = (s : ℕ) → s < 128 → bit_at a s ≡ true → s % 2 ≡ 0

-- so are those of each letter's nodes
abbrev pub LetterEntries : (letters : List ℕ) → Type 0
LetterEntries a = (e s : ℕ) → s < 128 → bit_at a (128 * e + s) ≡ true → s % 2 ≡ 0

-- ---- free moves

-- each state leads to itself
abbrev pub Reflexive : (closed : List ℕ) → Type 0
Reflexive c = (s : ℕ) → s < 128 → bit_at c (128 * s + s) ≡ true

-- what leads to x leads to where x leads
abbrev pub Transitive : (closed : List ℕ) → Type 0
Transitive c =
    (x s t : ℕ) → x < 128 → s < 128 → t < 128 → bit_at c (128 * s + x) ≡ true → bit_at c (128 * x + t) ≡ true → bit_at c (128 * s + t) ≡ true

-- a state of a leads to t
pub record Led (closed a : List ℕ) (t : ℕ) : Type 0 where
  pub by : ℕ
  pub small : by < 128
  pub there : bit_at a by ≡ true
  pub leads : bit_at closed (128 * by + t) ≡ true

-- e has exactly the states that those of a lead to
pub record AllLed (closed a e : List ℕ) : Type 0 where
  pub all : (s t : ℕ) → s < 128 → t < 128 → bit_at a s ≡ true → bit_at closed (128 * s + t) ≡ true → bit_at e t ≡ true
  pub only : (t : ℕ) → t < 128 → bit_at e t ≡ true → Led closed a t

-- ---- events

-- t is the exit of a node that fits the event, and whose entry is in the set
pub record LetterExit (letters set : List ℕ) (event t : ℕ) : Type 0 where
  pub state : ℕ
  pub small : state < 128
  pub exit : t ≡ state + 1
  pub there : bit_at set state ≡ true
  pub letter : bit_at letters (128 * event + state) ≡ true
