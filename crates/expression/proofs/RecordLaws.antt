-- Laws of the records of a tree. Assumes nothing.
use Prim.Native.Nat.{ℕ, suc, ◌+◌}
use native.Mathlib.Omega.{arith}
use mathlib.Core.Path.{◌≡◌, refl}
use mathlib.Core.List.{List, [], ◌∷◌, ◌++◌}
use lib.ListN.{length, length-append}
use Rattle.expression.specs.Tree.{Tree, empty, epsilon, letter, union, intersection, concatenation, complement, star, size, records}
use Rattle.expression.specs.declared.Node.{Node}

two_sides : (x y : List Node) (n : Node) {a b : ℕ} → length x ≡ suc a → length y ≡ suc b → length (x ++ y ++ n ∷ []) ≡ suc (suc a + suc b)
two_sides x y n e f = omega (arith, length-append (x ++ y) (n ∷ []), length-append x y)

one_side : (x : List Node) (n : Node) {a : ℕ} → length x ≡ suc a → length (x ++ n ∷ []) ≡ suc (suc a)
one_side x n e = omega (arith, length-append x (n ∷ []))

-- m is the number of records
pub records_length : (t : Tree) → length (records t) ≡ size t
unfolding records
records_length (empty o) = refl
records_length (epsilon o) = refl
records_length (letter o c) = refl
records_length (union o a b) = two_sides (records a) (records b) _ (records_length a) (records_length b)
records_length (intersection o a b) = two_sides (records a) (records b) _ (records_length a) (records_length b)
records_length (concatenation o a b) = two_sides (records a) (records b) _ (records_length a) (records_length b)
records_length (complement o a) = one_side (records a) _ (records_length a)
records_length (star o a) = one_side (records a) _ (records_length a)
