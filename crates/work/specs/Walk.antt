-- The walk that is counted, as document 01 words it. Assumes nothing.
use Rattle.std.specs.Prelude.{ℕ, suc, ◌+◌, ◌*◌, ◌≤◌, ◌<◌, T, length, get_or}
use Rattle.event.specs.Event.{Word}
use Rattle.event.specs.LetterSets.{holds}
use Rattle.event.specs.declared.sets.LetterSet.{LetterSet}
use Rattle.expression.specs.Tree.{Tree, epsilon, letter, union, intersection, concatenation, complement, star, below, size}
use Rattle.work.specs.Span.{Obeys}

-- "two states for every node, an entry and an exit": 2y and 2y + 1 for the node with the y-th record.
-- The root of a part whose records stand from x on has the record x + below t.
abbrev pub entry : Tree → ℕ → ℕ
entry t x = 2 * (x + below t)

abbrev pub exit : Tree → ℕ → ℕ
exit t x = suc (2 * (x + below t))

-- `Part t x u y`: u is a part of t; the records of t stand from x on, and those of u from y on.
-- 01: "Records stand left side, right side, then the node itself."
pub data Part : Tree → ℕ → Tree → ℕ → Type 0 where
  itself : {t : Tree} {x : ℕ} → Part t x t x
  union_left : {o x y : ℕ} {a b u : Tree} → Part a x u y → Part (union o a b) x u y
  union_right : {o x y : ℕ} {a b u : Tree} → Part b (x + size a) u y → Part (union o a b) x u y
  intersection_left : {o x y : ℕ} {a b u : Tree} → Part a x u y → Part (intersection o a b) x u y
  intersection_right : {o x y : ℕ} {a b u : Tree} → Part b (x + size a) u y → Part (intersection o a b) x u y
  concatenation_left : {o x y : ℕ} {a b u : Tree} → Part a x u y → Part (concatenation o a b) x u y
  concatenation_right : {o x y : ℕ} {a b u : Tree} → Part b (x + size a) u y → Part (concatenation o a b) x u y
  complement_inner : {o x y : ℕ} {a u : Tree} → Part a x u y → Part (complement o a) x u y
  star_inner : {o x y : ℕ} {a u : Tree} → Part a x u y → Part (star o a) x u y

-- 02 e), for 01's "if that is the letter": "The walk moves if the next event is in the set": the event x is in the set c
abbrev pub Fits : LetterSet → ℕ → Type 0
Fits c x = T (holds c x)

-- the moves that the root of a part brings: from a state and a number of used events to a state and a number
pub data NodeMove (w : Word) : Tree → ℕ → ℕ → ℕ → ℕ → ℕ → Type 0 where
  -- "`1`: entry to exit. `0`: none."
  epsilon_through : {o x j : ℕ} → NodeMove w (epsilon o) x (entry (epsilon o) x) j (exit (epsilon o) x) j
  -- "Union: entry to both sides' entries; each side's exit to its exit."
  union_to_left : {o x j : ℕ} {a b : Tree} → NodeMove w (union o a b) x (entry (union o a b) x) j (entry a x) j
  union_to_right : {o x j : ℕ} {a b : Tree} → NodeMove w (union o a b) x (entry (union o a b) x) j (entry b (x + size a)) j
  union_left_out : {o x j : ℕ} {a b : Tree} → NodeMove w (union o a b) x (exit a x) j (exit (union o a b) x) j
  union_right_out : {o x j : ℕ} {a b : Tree} → NodeMove w (union o a b) x (exit b (x + size a)) j (exit (union o a b) x) j
  -- "Concatenation: entry to the left entry, left exit to right entry, right exit to its exit."
  concatenation_in : {o x j : ℕ} {a b : Tree} → NodeMove w (concatenation o a b) x (entry (concatenation o a b) x) j (entry a x) j
  concatenation_over : {o x j : ℕ} {a b : Tree} → NodeMove w (concatenation o a b) x (exit a x) j (entry b (x + size a)) j
  concatenation_out : {o x j : ℕ} {a b : Tree} → NodeMove w (concatenation o a b) x (exit b (x + size a)) j (exit (concatenation o a b) x) j
  -- "Star: entry to the inner entry and to its own exit; inner exit to the inner entry and to its own exit."
  star_in : {o x j : ℕ} {a : Tree} → NodeMove w (star o a) x (entry (star o a) x) j (entry a x) j
  star_skip : {o x j : ℕ} {a : Tree} → NodeMove w (star o a) x (entry (star o a) x) j (exit (star o a) x) j
  star_again : {o x j : ℕ} {a : Tree} → NodeMove w (star o a) x (exit a x) j (entry a x) j
  star_out : {o x j : ℕ} {a : Tree} → NodeMove w (star o a) x (exit a x) j (exit (star o a) x) j
  -- "A letter moves entry to exit by using the next event", if that is in its set
  letter_use : {o x j : ℕ} {c : LetterSet} → j < length w → Fits c (get_or w j 0)
      → NodeMove w (letter o c) x (entry (letter o c) x) j (exit (letter o c) x) (suc j)
  -- "At the entry of a special node at number j it goes to that node's exit at each j' for which the span (j, j') obeys that node's rule."
  intersection_span : {o x j k : ℕ} {a b : Tree} → Obeys w (intersection o a b) j k
      → NodeMove w (intersection o a b) x (entry (intersection o a b) x) j (exit (intersection o a b) x) k
  complement_span : {o x j k : ℕ} {a : Tree} → Obeys w (complement o a) j k
      → NodeMove w (complement o a) x (entry (complement o a) x) j (exit (complement o a) x) k

-- a move of the rule t, whose records stand from x on: one that some part of it brings
pub record RuleMove (w : Word) (t : Tree) (x s j s' j' : ℕ) : Type 0 where
  pub part : Tree
  pub first : ℕ
  pub within : Part t x part first
  pub move : NodeMove w part first s j s' j'

-- an owner: the whole rule, or the special node with the y-th record
pub data Owner : Type 0 where
  whole : Owner
  special : (y : ℕ) → Owner

-- "For each owner and each start i from 0 to n, the walk begins at number i: at the entry of each side for `&`, at the inner entry for `!`,
-- at the rule's entry for the whole."
pub data Begins (t : Tree) : Owner → ℕ → Type 0 where
  begin_rule : Begins t whole (entry t 0)
  begin_left : {o x : ℕ} {a b : Tree} → Part t 0 (intersection o a b) x → Begins t (special (x + below (intersection o a b))) (entry a x)
  begin_right : {o x : ℕ} {a b : Tree} → Part t 0 (intersection o a b) x
      → Begins t (special (x + below (intersection o a b))) (entry b (x + size a))
  begin_inner : {o x : ℕ} {a : Tree} → Part t 0 (complement o a) x → Begins t (special (x + below (complement o a))) (entry a x)

-- "A place is reached, for its owner and a start, if that walk begins there or comes there by finitely many of these steps."
pub data Reaches (w : Word) (t : Tree) (u : Owner) (i : ℕ) : ℕ → ℕ → Type 0 where
  begin : {s : ℕ} → Begins t u s → Reaches w t u i s i
  onward : {s j s' j' : ℕ} → Reaches w t u i s j → RuleMove w t 0 s j s' j' → Reaches w t u i s' j'

-- a place ("a state with a number j from 0 to n, the events used so far") with its owner and start
pub record Visit : Type 0 where
  pub owner : Owner
  pub start : ℕ
  pub state : ℕ
  pub used : ℕ

-- "All places reached, for all owners and all starts, form one collection, each taken once for its owner and start"
abbrev pub Collection : Word → Tree → Visit → Type 0
Collection w t v = (v.start ≤ length w) × Reaches w t v.owner v.start v.state v.used
