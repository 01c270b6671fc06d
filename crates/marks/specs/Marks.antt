-- Marked places of a walk. A place is a number p: state p % 128 where p / 128 events are used. Assumes nothing.
use Rattle.std.specs.Prelude.{ℕ, ◌+◌, ◌-◌, ◌*◌, ◌/◌, ◌%◌, ◌<◌, ◌≡◌, List, ◌⊎◌, true, length}
use Rattle.bits.specs.Bit.{bit_at}
use Rattle.marks.specs.declared.target.Target.{Target}

-- q is the place of a state of the set, at number j
pub record PlaceOf (set : List ℕ) (j q : ℕ) : Type 0 where
  pub number : q / 128 ≡ j
  pub there : bit_at set (q % 128) ≡ true

-- b is a with the set at number j
pub record StoredAt (a set : List ℕ) (j : ℕ) (b : List ℕ) : Type 0 where
  pub here : (q : ℕ) → q / 128 ≡ j → bit_at b q ≡ bit_at set (q % 128)
  pub other : (q : ℕ) → (q / 128 ≡ j → ⊥) → bit_at b q ≡ bit_at a q
  pub long : length b ≡ length a

-- q is a state that is marked at number j
pub record MarkedAt (marks : List ℕ) (j q : ℕ) : Type 0 where
  pub small : q < 128
  pub there : bit_at marks (128 * j + q) ≡ true

-- what is marked at number j is in the set
abbrev pub MarkedIn : (marks set : List ℕ) (j : ℕ) → Type 0
MarkedIn marks set j = (s : ℕ) → s < 128 → bit_at marks (128 * j + s) ≡ true → bit_at set s ≡ true

-- nothing is marked at number j
abbrev pub NoneAt : (marks : List ℕ) (j : ℕ) → Type 0
NoneAt marks j = (s : ℕ) → s < 128 → bit_at marks (128 * j + s) ≡ true → ⊥

-- nothing is marked at number j, and no special node is open
pub record Finished (marks opened : List ℕ) (j : ℕ) : Type 0 where
  pub marked : NoneAt marks j
  pub coming : (s : ℕ) → s < 128 → bit_at opened s ≡ true → ⊥

-- nothing is marked from number k on
abbrev pub EndsBefore : (marks : List ℕ) (k : ℕ) → Type 0
EndsBefore b k = (q : ℕ) → bit_at b q ≡ true → q / 128 < k

-- p is where a walk of the target from start i begins: at the entries before its exits
abbrev pub StartsAt : (o : Target) (i p : ℕ) → Type 0
StartsAt o i p = (p ≡ 128 * i + (o.left - 1)) ⊎ (p ≡ 128 * i + (o.right - 1))
