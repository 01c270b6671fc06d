-- The sides of the nodes, found from the records. Assumes nothing.
use Rattle.std.specs.Prelude.{ℕ, ◌+◌, ◌-◌, ◌<◌, ◌≤◌, ◌≡◌, List, get_or}
use Rattle.expression.specs.declared.Kind.{Kind}
use Rattle.expression.specs.declared.Kind.TheVariants.{Empty, Epsilon, Letter, Union, Intersection, Concatenation, Complement, Star}
use Rattle.expression.specs.Tree.{Tree, empty, epsilon, letter, union, intersection, concatenation, complement, star, below}
use Rattle.work.specs.Walk.{Part}

-- how many sides a node of this kind has
abbrev pub sides_of : Kind → ℕ
sides_of Empty = 0
sides_of Epsilon = 0
sides_of (Letter c) = 0
sides_of Union = 2
sides_of Intersection = 2
sides_of Concatenation = 2
sides_of Complement = 1
sides_of Star = 1

-- what `extent_of` reads of the list lies in it; a node with sides is not the first
pub record SidesKnown (begins : List ℕ) (sides i : ℕ) : Type 0 where
  pub within : i < 64
  pub one : sides ≡ 1 → 0 < i
  pub two : sides ≡ 2 → (0 < i) × (0 < get_or begins (i - 1) 0) × (get_or begins (i - 1) 0 ≤ 64)

-- f is the first record of node i's part, and l its left or only side, 0 where it has none
pub record SidesFound (begins : List ℕ) (sides i f l : ℕ) : Type 0 where
  pub none : sides ≡ 0 → (f ≡ i) × (l ≡ 0)
  pub one : sides ≡ 1 → (f ≡ get_or begins (i - 1) 0) × (l ≡ i - 1)
  pub two : sides ≡ 2 → (f ≡ get_or begins (get_or begins (i - 1) 0 - 1) 0) × (l ≡ get_or begins (i - 1) 0 - 1)

-- l is the left or only side of the part u, whose records stand from x on; 0 where it has none
abbrev pub Left : Tree → ℕ → ℕ → Type 0
Left (empty o) x l = l ≡ 0
Left (epsilon o) x l = l ≡ 0
Left (letter o c) x l = l ≡ 0
Left (union o a b) x l = l ≡ x + below a
Left (intersection o a b) x l = l ≡ x + below a
Left (concatenation o a b) x l = l ≡ x + below a
Left (complement o a) x l = l ≡ x + below a
Left (star o a) x l = l ≡ x + below a

-- the list has the left or only side of every node of t
abbrev pub Lefts : Tree → List ℕ → Type 0
Lefts t lefts = (u : Tree) (x : ℕ) → Part t 0 u x → Left u x (get_or lefts (x + below u) 0)
