-- Special nodes at one number j of used events. A node is open once it was entered; what it is to be left at stands in `exits`: node i is left
-- at number k if it is open and bit 256 * i + k is set. What `exits` has for other nodes says nothing, so that it need not be cleared.
-- A node is full if it is left at every number that is left. Assumes nothing.
use Rattle.std.specs.Prelude.{ℕ, ◌+◌, ◌*◌, ◌/◌, ◌%◌, ◌≤◌, ◌<◌, ◌≡◌, ◌⊎◌, ◌↔◌, List, Bool, true, false, ◌&&◌, ◌||◌, length, get_or}
use Rattle.bits.specs.Bit.{bit_at}
use Rattle.bits.specs.Runs.{Adds}
use Rattle.moves.specs.Reached.{Reached}
use Rattle.moves.specs.Moves.{FreeMove}
use Rattle.table.specs.Layout.{block_at, Lies, row_bit}
use Rattle.levels.specs.Sets.{InSet, Among}

-- bit q is an exit to come: its node is open, and is left there
abbrev pub to_come : (exits opened : List ℕ) → ℕ → Bool
to_come x v q = bit_at v (2 * (q / 256)) && bit_at x q

-- ---- exits that are due

-- t is the exit of an open node that is left at number j
pub record DueExit (exits opened : List ℕ) (j t : ℕ) : Type 0 where
  pub entry : ℕ
  pub exit : t ≡ entry + 1
  pub small : entry < 128
  pub is_open : bit_at opened entry ≡ true
  pub bit : bit_at exits (128 * entry + j) ≡ true

-- the node of the entry s is left at every number from k to n
abbrev pub LeftAt : (exits : List ℕ) (s k n : ℕ) → Type 0
LeftAt x s k n = (m : ℕ) → k ≤ m → m ≤ n → bit_at x (128 * s + m) ≡ true

-- the full nodes are open, and left at number j
abbrev pub FullAt : (exits opened full : List ℕ) (j : ℕ) → Type 0
FullAt x v f j = (s : ℕ) → s < 128 → bit_at f s ≡ true → (bit_at v s ≡ true) × (bit_at x (128 * s + j) ≡ true)

-- the full nodes' entries before number j: open nodes that are left at every number from there on
pub record Full (exits opened full : List ℕ) (j n : ℕ) : Type 0 where
  pub two : length full ≡ 2
  pub are_open : Among full opened
  pub left : (s : ℕ) → s < 128 → bit_at full s ≡ true → LeftAt exits s j n

-- ---- special nodes entered

-- each special node's block lies in the table of that size
abbrev pub Room : (firsts : List ℕ) (n size : ℕ) → Type 0
Room f n size = (i : ℕ) → Lies (block_at (get_or f i 0) n) size

-- the special node i has the span from j to k, as its row is read
abbrev pub has_span : (firsts table : List ℕ) (n i j k : ℕ) → Bool
has_span firsts table n i j k = row_bit table (block_at (get_or firsts i 0) n) j k

-- from a special node's entry to its exit, at one number j
pub record SpanHere (specials firsts table : List ℕ) (n j s t : ℕ) : Type 0 where
  pub small : s < 128
  pub special : bit_at specials s ≡ true
  pub exit : t ≡ s + 1
  pub span : has_span firsts table n (s / 2) j j ≡ true

-- the steps that stay at one number j
abbrev pub StepHere : (c specials firsts table : List ℕ) (n j s t : ℕ) → Type 0
StepHere c specials firsts table n j s t = FreeMove c s t ⊎ SpanHere specials firsts table n j s t

-- s is the entry of a special node that is in e; of those that were full before, which are in f, nothing more is to be known
pub record Entered (specials f e : List ℕ) (s : ℕ) : Type 0 where
  pub small : s < 128
  pub there : bit_at e s ≡ true
  pub special : bit_at specials s ≡ true
  pub fresh : bit_at f s ≡ false

-- the set a is closed under free moves, and has the exits of the full nodes f
pub record Begun (c a f : List ℕ) : Type 0 where
  pub closed : (s t : ℕ) → FreeMove c s t → bit_at a s ≡ true → bit_at a t ≡ true
  pub exits : (s : ℕ) → s < 128 → bit_at f s ≡ true → bit_at a (s + 1) ≡ true

-- e has the states that are reached at number j from those of a by the closed moves c and the blocks of special nodes; with the nodes entered,
-- the exits to come x are y, the open nodes v are u and the full ones f are g
pub record Saturated (c specials firsts table : List ℕ) (n j : ℕ) (a x v f e y u g : List ℕ) : Type 0 where
  pub all : Among a e
  pub only : (s : ℕ) → s < 128 → bit_at e s ≡ true → Reached (InSet a) (StepHere c specials firsts table n j) s
  pub free : (s t : ℕ) → FreeMove c s t → bit_at e s ≡ true → bit_at e t ≡ true
  pub here : (s t : ℕ) → SpanHere specials firsts table n j s t → bit_at e s ≡ true → bit_at e t ≡ true
  pub joined : (q : ℕ) → Entered specials f e (2 * (q / 256)) → bit_at y q ≡ (to_come x v q || has_span firsts table n (q / 256) j (q % 256))
  pub kept : (q : ℕ) → (Entered specials f e (2 * (q / 256)) → ⊥) → bit_at y q ≡ bit_at x q
  pub opened : Adds v (Entered specials f e) u
  pub full : (s : ℕ) → s < 128 → (bit_at g s ≡ true) ↔ ((bit_at f s ≡ true) ⊎ (Entered specials f e s × LeftAt y s (j + 1) n))
  pub lengths : (length y ≡ length x) × (length g ≡ length f)
