-- The one reading of a sentence, computed: `parse` with a stack of trees.
-- That it is the grammar's is `tree_is` in proofs/OneReading. Assumes nothing.
use Rattle.std.specs.Prelude.{ℕ, List, [], ◌∷◌}
use Rattle.expression.specs.Tree.{Tree, empty, epsilon, letter, union, intersection, concatenation, complement, star}
use Rattle.expression.specs.Parse.{alt, parse, measure}
use Rattle.expression.specs.declared.Kind.{Kind}
use Rattle.expression.specs.declared.Kind.TheVariants.{Empty, Epsilon, Letter, Union, Intersection, Concatenation, Complement, Star}

-- a node takes its sides from the stack, the right one on top
abbrev pub two : (Tree → Tree → Tree) → List Tree → List Tree
two f [] = []
two f (r ∷ []) = []
two f (r ∷ t ∷ st) = f t r ∷ st

abbrev pub over : (Tree → Tree) → List Tree → List Tree
over f [] = []
over f (t ∷ st) = f t ∷ st

abbrev pub stacked : List Tree → ℕ → Kind → List Tree
stacked st o Empty = empty o ∷ st
stacked st o Epsilon = epsilon o ∷ st
stacked st o (Letter b) = letter o b ∷ st
stacked st o Union = two (union o) st
stacked st o Intersection = two (intersection o) st
stacked st o Concatenation = two (concatenation o) st
stacked st o Complement = over (complement o) st
stacked st o Star = over (star o) st

-- the tree on top; the rule `0` where there is none, which no sentence has
abbrev pub top : List Tree → Tree
top [] = empty 0
top (t ∷ st) = t

unfoldable pub tree_of : List ℕ → Tree
unfolding parse
tree_of s = top (parse stacked (measure alt s) alt s ([], 0)).0
