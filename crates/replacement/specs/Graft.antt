-- Grafting: a tree with moved offsets and other trees at its `1`s. Assumes nothing.
use Rattle.std.specs.Prelude.{ℕ, zero, suc, ◌+◌, List, [], ◌∷◌, ◌++◌, length, take}
use Rattle.expression.specs.Tree.{Tree, empty, epsilon, letter, union, intersection, concatenation, complement, star, below, specials}
use Rattle.expression.specs.declared.Kind.{Kind}
use Rattle.expression.specs.declared.Kind.TheVariants.{Empty, Epsilon, Letter, Union, Intersection, Concatenation, Complement, Star}
use Rattle.expression.specs.declared.Node.{Node}
use Rattle.replacement.specs.Pieces.{Piece, own, named}

-- the tree with each offset o moved to f o, and each `1` at o made the tree g o
unfoldable pub graft : (ℕ → ℕ) → (ℕ → Tree) → Tree → Tree
graft f g (empty o) = empty (f o)
graft f g (epsilon o) = g o
graft f g (letter o c) = letter (f o) c
graft f g (union o a b) = union (f o) (graft f g a) (graft f g b)
graft f g (intersection o a b) = intersection (f o) (graft f g a) (graft f g b)
graft f g (concatenation o a b) = concatenation (f o) (graft f g a) (graft f g b)
graft f g (complement o a) = complement (f o) (graft f g a)
graft f g (star o a) = star (f o) (graft f g a)

-- the tree with d added to each offset
abbrev pub shift : ℕ → Tree → Tree
shift d t = graft (λ (o : ℕ). o + d) (λ (o : ℕ). epsilon (o + d)) t

-- the same of records: those of a node, and of a list of nodes
abbrev pub graft_kind : (ℕ → ℕ) → (ℕ → List Node) → ℕ → Kind → List Node
graft_kind f g o Empty = record { offset = f o; kind = Empty } ∷ []
graft_kind f g o Epsilon = g o
graft_kind f g o (Letter c) = record { offset = f o; kind = Letter c } ∷ []
graft_kind f g o Union = record { offset = f o; kind = Union } ∷ []
graft_kind f g o Intersection = record { offset = f o; kind = Intersection } ∷ []
graft_kind f g o Concatenation = record { offset = f o; kind = Concatenation } ∷ []
graft_kind f g o Complement = record { offset = f o; kind = Complement } ∷ []
graft_kind f g o Star = record { offset = f o; kind = Star } ∷ []

unfoldable pub graft_nodes : (ℕ → ℕ) → (ℕ → List Node) → List Node → List Node
graft_nodes f g [] = []
graft_nodes f g (n ∷ ns) = graft_kind f g n.offset n.kind ++ graft_nodes f g ns

-- each record with d added to its offset
unfoldable pub shift_nodes : ℕ → List Node → List Node
shift_nodes d [] = []
shift_nodes d (n ∷ ns) = record { offset = n.offset + d; kind = n.kind } ∷ shift_nodes d ns

-- ---- the pieces of a text, of whose names v gives the text and t the tree
module _ (v : List ℕ → List ℕ) (t : List ℕ → Tree) where
  -- the bytes that a piece takes up after replacement
  abbrev pub width : Piece → ℕ
  width (own b) = 1
  width (named n) = length (v n) + 2

  unfoldable pub total : List Piece → ℕ
  total [] = 0
  total (p ∷ ps) = width p + total ps

  -- the offset after replacement of the piece number o
  abbrev pub place : List Piece → ℕ → ℕ
  place ps o = total (take o ps)

  -- what stands at a `1` of the shape: for a name its tree, inside the parenthesis
  abbrev pub operand : ℕ → Piece → Tree
  operand p (own b) = epsilon p
  operand p (named n) = shift (p + 1) (t n)

  unfoldable pub operand_at : ℕ → List Piece → ℕ → Tree
  operand_at p [] o = epsilon p
  operand_at p (q ∷ ps) zero = operand p q
  operand_at p (q ∷ ps) (suc o) = operand_at p ps o

  -- the reading of the replaced text, from the reading of the shape
  abbrev pub grafted : List Piece → Tree → Tree
  grafted ps s = graft (place ps) (λ (o : ℕ). operand_at (place ps o) ps o) s

-- what the names add to the shape's nodes and special nodes, where t gives each name's tree
unfoldable pub more_nodes : (List ℕ → Tree) → List Piece → ℕ
more_nodes t [] = 0
more_nodes t (own b ∷ ps) = more_nodes t ps
more_nodes t (named n ∷ ps) = below (t n) + more_nodes t ps

unfoldable pub more_specials : (List ℕ → Tree) → List Piece → ℕ
more_specials t [] = 0
more_specials t (own b ∷ ps) = more_specials t ps
more_specials t (named n ∷ ps) = specials (t n) + more_specials t ps
