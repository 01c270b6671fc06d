-- The free moves of a rule's states, and the entries of its letters and of its special nodes, all as bits. Node i has the entry 2 * i
-- and the exit 2 * i + 1; its last side is node i - 1, and l is its first side where it has two. Assumes nothing.
use Rattle.std.specs.Prelude.{ℕ, ◌+◌, ◌-◌, ◌*◌, ◌/◌, ◌%◌, ◌<◌, ◌≤◌, ◌≡◌, ◌⊎◌, List, Bool, true, false, length, get_or, replicate}
use Rattle.bits.specs.Bit.{bit_at}
use Rattle.bits.specs.Runs.{Adds}
use Rattle.event.specs.LetterSets.{holds}
use Rattle.expression.specs.declared.Kind.{Kind}
use Rattle.expression.specs.declared.Kind.TheVariants.{Empty, Epsilon, Letter, Union, Intersection, Concatenation, Complement, Star}
use Rattle.expression.specs.declared.Node.{Node}
use Rattle.moves.specs.Reached.{Reached}

-- the record that stands for those past the end of a list
abbrev pub no_node : Node
no_node = record { offset = 0; kind = Empty }

-- the kind of node i
abbrev pub kind_at : List Node → ℕ → Kind
kind_at nodes i = (get_or nodes i no_node).kind

-- an intersection or a complement, which a walk passes by the span table alone
abbrev pub special_kind : Kind → Bool
special_kind Empty = false
special_kind Epsilon = false
special_kind (Letter c) = false
special_kind Union = false
special_kind Intersection = true
special_kind Concatenation = false
special_kind Complement = true
special_kind Star = false

-- a node with sides is not the first record
abbrev pub NotFirst : Kind → ℕ → Type 0
NotFirst Empty i = Unit
NotFirst Epsilon i = Unit
NotFirst (Letter c) i = Unit
NotFirst Union i = 0 < i
NotFirst Intersection i = 0 < i
NotFirst Concatenation i = 0 < i
NotFirst Complement i = 0 < i
NotFirst Star i = 0 < i

-- none of the first m nodes stands before its first side, and none with sides is the first record
abbrev pub SidesBefore : (nodes : List Node) (lefts : List ℕ) (m : ℕ) → Type 0
SidesBefore nodes lefts m = (i : ℕ) → i < m → (get_or lefts i 0 ≤ i) × NotFirst (kind_at nodes i) i

-- ---- single moves

-- p is the bit of the move from state s to state t
abbrev pub Move : (s t p : ℕ) → Type 0
Move s t p = p ≡ 128 * s + t

-- p is the bit of a move of a node with sides, whose entry is e: from it to x or y, from the exit f of a side to z, or from the exit of its
-- last side to its own
abbrev pub SidedMove : (e x y f z p : ℕ) → Type 0
SidedMove e x y f z p = Move e x p ⊎ (Move e y p ⊎ (Move f z p ⊎ Move (e - 1) (e + 1) p))

-- p is the bit of a free move that node i brings by its kind
abbrev pub KindMove : Kind → (i l p : ℕ) → Type 0
KindMove Empty i l p = ⊥
KindMove Epsilon i l p = Move (2 * i) (2 * i + 1) p
KindMove (Letter c) i l p = ⊥
KindMove Union i l p = SidedMove (2 * i) (2 * l) (2 * i - 2) (2 * l + 1) (2 * i + 1) p
KindMove Intersection i l p = ⊥
KindMove Concatenation i l p = Move (2 * i) (2 * l) p ⊎ (Move (2 * l + 1) (2 * i - 2) p ⊎ Move (2 * i - 1) (2 * i + 1) p)
KindMove Complement i l p = ⊥
KindMove Star i l p = SidedMove (2 * i) (2 * i - 2) (2 * i + 1) (2 * i - 1) (2 * i - 2) p

-- p is the bit of a free move that one of the first m nodes brings
pub record RecordMove (nodes : List Node) (lefts : List ℕ) (m p : ℕ) : Type 0 where
  pub node : ℕ
  pub within : node < m
  pub move : KindMove (kind_at nodes node) node (get_or lefts node 0) p

-- ---- moves one after another

-- a free move from state s to state t
pub record FreeMove (moves : List ℕ) (s t : ℕ) : Type 0 where
  pub from : s < 128
  pub to : t < 128
  pub move : bit_at moves (128 * s + t) ≡ true

-- free moves lead from s to t
abbrev pub Leads : (moves : List ℕ) (s t : ℕ) → Type 0
Leads moves s t = Reached (λ (p : ℕ). p ≡ s) (FreeMove moves) t

-- c has the pair of s and t exactly if free moves lead from s to t
pub record Closed (moves c : List ℕ) : Type 0 where
  pub only : (s t : ℕ) → s < 128 → t < 128 → bit_at c (128 * s + t) ≡ true → Leads moves s t
  pub all : (s t : ℕ) → s < 128 → Leads moves s t → bit_at c (128 * s + t) ≡ true

-- c has the pairs of states between which free moves of the records lead
pub record ClosedMoves (nodes : List Node) (lefts : List ℕ) (m : ℕ) (c : List ℕ) : Type 0 where
  pub single : List ℕ
  pub moves : Adds (replicate 256 0) (RecordMove nodes lefts m) single
  pub closed : Closed single c
  pub long : length c ≡ 256

-- ---- entries

-- a node of this kind fits the letter x: its kind is a letter, whose set has x
abbrev pub fits_letter : Kind → ℕ → Bool
fits_letter Empty x = false
fits_letter Epsilon x = false
fits_letter (Letter c) x = holds c x
fits_letter Union x = false
fits_letter Intersection x = false
fits_letter Concatenation x = false
fits_letter Complement x = false
fits_letter Star x = false

-- q is the bit of a letter that node i fits by its kind: bit 128 * x + 2 * i for the letter x
pub record KindLetter (k : Kind) (i q : ℕ) : Type 0 where
  pub entry : q % 128 ≡ 2 * i
  pub letter : fits_letter k (q / 128) ≡ true

-- q is the bit of a letter that one of the first m nodes fits
pub record LetterEntry (nodes : List Node) (m q : ℕ) : Type 0 where
  pub small : q % 128 / 2 < m
  pub even : q % 2 ≡ 0
  pub letter : fits_letter (kind_at nodes (q % 128 / 2)) (q / 128) ≡ true

-- q is the entry of node i, if its kind is special
pub record KindSpecial (k : Kind) (i q : ℕ) : Type 0 where
  pub entry : q ≡ 2 * i
  pub special : special_kind k ≡ true

-- q is the entry of a special one of the first m nodes
pub record SpecialEntry (nodes : List Node) (m q : ℕ) : Type 0 where
  pub small : q / 2 < m
  pub even : q % 2 ≡ 0
  pub special : special_kind (kind_at nodes (q / 2)) ≡ true
