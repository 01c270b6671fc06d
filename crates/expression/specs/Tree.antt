-- The reading of a rule: its tree, its numbers of nodes, its records. Assumes nothing.
use Rattle.std.specs.Prelude.{ℕ, suc, ◌+◌, Bool, true, false, List, [], ◌∷◌, ◌++◌}
use Rattle.event.specs.declared.sets.LetterSet.{LetterSet}
use Rattle.expression.specs.declared.Kind.{Kind}
use Rattle.expression.specs.declared.Kind.TheVariants.{Empty, Epsilon, Letter, Union, Intersection, Concatenation, Complement, Star}
use Rattle.expression.specs.declared.Node.{Node}

-- 01: "The reading is a tree. Each letter, `0`, `1` and operator (concatenation too) is a node".
-- The first number of a node is its byte offset.
pub data Tree : Type 0 where
  empty : ℕ → Tree  -- `0`, no word
  epsilon : ℕ → Tree  -- `1`, the empty word
  letter : ℕ → LetterSet → Tree  -- a letter or a set of letters: the set follows the offset
  union : ℕ → Tree → Tree → Tree  -- `|`
  intersection : ℕ → Tree → Tree → Tree  -- `&`
  concatenation : ℕ → Tree → Tree → Tree
  complement : ℕ → Tree → Tree  -- `!`
  star : ℕ → Tree → Tree  -- `*`

-- the byte offset of the root
abbrev pub offset : Tree → ℕ
offset (empty o) = o
offset (epsilon o) = o
offset (letter o c) = o
offset (union o a b) = o
offset (intersection o a b) = o
offset (concatenation o a b) = o
offset (complement o a) = o
offset (star o a) = o

-- the nodes below the root
abbrev pub below : Tree → ℕ
below (empty o) = 0
below (epsilon o) = 0
below (letter o c) = 0
below (union o a b) = suc (below a) + suc (below b)
below (intersection o a b) = suc (below a) + suc (below b)
below (concatenation o a b) = suc (below a) + suc (below b)
below (complement o a) = suc (below a)
below (star o a) = suc (below a)

-- 01: "m is the number of nodes"
abbrev pub size : Tree → ℕ
size t = suc (below t)

-- 01: "`&` and `!` nodes are the special ones"
abbrev pub is_special : Tree → Bool
is_special (empty o) = false
is_special (epsilon o) = false
is_special (letter o c) = false
is_special (union o a b) = false
is_special (intersection o a b) = true
is_special (concatenation o a b) = false
is_special (complement o a) = true
is_special (star o a) = false

-- 01: "k is their number"
abbrev pub specials : Tree → ℕ
specials (empty o) = 0
specials (epsilon o) = 0
specials (letter o c) = 0
specials (union o a b) = specials a + specials b
specials (intersection o a b) = suc (specials a + specials b)
specials (concatenation o a b) = specials a + specials b
specials (complement o a) = suc (specials a)
specials (star o a) = specials a

-- 01: "Each node record holds its byte offset and its kind"; 02 e): "The letter's kind in a node record holds a set of letters from now on,
-- with a single letter as a set of one."
abbrev pub node_record : ℕ → Kind → List Node
node_record o k = record { offset = o; kind = k } ∷ []

-- 01: "Records stand left side, right side, then the node itself."
unfoldable pub records : Tree → List Node
records (empty o) = node_record o Empty
records (epsilon o) = node_record o Epsilon
records (letter o c) = node_record o (Letter c)
records (union o a b) = records a ++ records b ++ node_record o Union
records (intersection o a b) = records a ++ records b ++ node_record o Intersection
records (concatenation o a b) = records a ++ records b ++ node_record o Concatenation
records (complement o a) = records a ++ node_record o Complement
records (star o a) = records a ++ node_record o Star
