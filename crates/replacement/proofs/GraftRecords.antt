-- The records of a grafted tree, record by record. Assumes nothing.
use Prim.Native.Nat.{ℕ, ◌+◌}
use mathlib.Core.Path.{◌≡◌, refl, sym, ap, ap₂, ◌∙◌}
use mathlib.Core.List.{List, [], ◌∷◌, ◌++◌, append_assoc, append-nil}
use Rattle.expression.specs.Tree.{Tree, empty, epsilon, letter, union, intersection, concatenation, complement, star, records, node_record}
use Rattle.expression.specs.declared.Kind.{Kind}
use Rattle.expression.specs.declared.Kind.TheVariants.{Empty, Epsilon, Letter, Union, Intersection, Concatenation, Complement, Star}
use Rattle.expression.specs.declared.Node.{Node}
use Rattle.replacement.specs.Graft.{graft, shift, graft_kind, graft_nodes, shift_nodes}

module _ (f : ℕ → ℕ) (g : ℕ → List Node) where
  graft_append : (x y : List Node) → graft_nodes f g (x ++ y) ≡ graft_nodes f g x ++ graft_nodes f g y
  unfolding graft_nodes
  graft_append [] y = refl
  graft_append (n ∷ x) y =
      ap (λ (z : List Node). graft_kind f g n.offset n.kind ++ z) (graft_append x y)
      ∙ sym (append_assoc (graft_kind f g n.offset n.kind) (graft_nodes f g x) (graft_nodes f g y))

  two : (x y z : List Node) → graft_nodes f g x ++ graft_nodes f g y ++ graft_nodes f g z ≡ graft_nodes f g (x ++ y ++ z)
  two x y z = sym (graft_append (x ++ y) z ∙ ap (λ (w : List Node). w ++ graft_nodes f g z) (graft_append x y))

module _ (f : ℕ → ℕ) (g : ℕ → Tree) where
  abbrev h : ℕ → List Node
  h o = records (g o)

  -- the records of a grafted tree: each record of the shape's, moved, or the records of the tree that stands there
  pub graft_records : (t : Tree) → records (graft f g t) ≡ graft_nodes f h (records t)
  unfolding records graft graft_nodes
  graft_records (empty o) = refl
  graft_records (epsilon o) = sym (append-nil (records (g o)))
  graft_records (letter o c) = refl
  graft_records (union o a b) =
      ap₂ (λ (x y : List Node). x ++ y ++ node_record (f o) Union) (graft_records a) (graft_records b)
      ∙ two f h (records a) (records b) (node_record o Union)
  graft_records (intersection o a b) =
      ap₂ (λ (x y : List Node). x ++ y ++ node_record (f o) Intersection) (graft_records a) (graft_records b)
      ∙ two f h (records a) (records b) (node_record o Intersection)
  graft_records (concatenation o a b) =
      ap₂ (λ (x y : List Node). x ++ y ++ node_record (f o) Concatenation) (graft_records a) (graft_records b)
      ∙ two f h (records a) (records b) (node_record o Concatenation)
  graft_records (complement o a) =
      ap (λ (x : List Node). x ++ node_record (f o) Complement) (graft_records a)
      ∙ sym (graft_append f h (records a) (node_record o Complement))
  graft_records (star o a) =
      ap (λ (x : List Node). x ++ node_record (f o) Star) (graft_records a)
      ∙ sym (graft_append f h (records a) (node_record o Star))

-- the records of a shifted tree
moves : (d o : ℕ) (k : Kind) → graft_kind (λ (n : ℕ). n + d) (λ (n : ℕ). records (epsilon (n + d))) o k ≡ node_record (o + d) k
unfolding records
moves d o Empty = refl
moves d o Epsilon = refl
moves d o (Letter c) = refl
moves d o Union = refl
moves d o Intersection = refl
moves d o Concatenation = refl
moves d o Complement = refl
moves d o Star = refl

shifts : (d : ℕ) (ns : List Node) → graft_nodes (λ (n : ℕ). n + d) (λ (n : ℕ). records (epsilon (n + d))) ns ≡ shift_nodes d ns
unfolding graft_nodes shift_nodes
shifts d [] = refl
shifts d (n ∷ ns) = ap₂ (λ (x y : List Node). x ++ y) (moves d n.offset n.kind) (shifts d ns)

pub shift_records : (d : ℕ) (t : Tree) → records (shift d t) ≡ shift_nodes d (records t)
shift_records d t = graft_records (λ (n : ℕ). n + d) (λ (n : ℕ). epsilon (n + d)) t ∙ shifts d (records t)
