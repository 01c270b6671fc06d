-- The span table's numbers, computed. Assumes nothing.
-- That they hold the blocks, and no others do, are `table_holds` in proofs/TableLaws and `table_only` in proofs/TableOnly.
use mathlib.Core.List.{List, [], ◌∷◌, ◌++◌, Memᴰ}
use Rattle.std.specs.Prelude.{Bool, ◌&&◌, ℕ, ◌/◌, ◌%◌, leb, length}
use Rattle.std.proofs.Math.Seq.{slice}
use Rattle.bits.specs.Bit.{ones_of}
use Rattle.bits.specs.Runs.{packed_run}
use Rattle.event.specs.Event.{Word}
use Rattle.expression.specs.Tree.{Tree, empty, epsilon, letter, union, intersection, concatenation, complement, star}
use Rattle.expression.specs.Accept.{accepts}
use Rattle.work.specs.Table.{block_length}

-- span (i, j) is one of the word's and obeys
unfoldable pub obeys : Word → Tree → ℕ → ℕ → Bool
obeys w t i j = leb i j && leb j (length w) && accepts t (slice i j w)

-- start and end of the span whose `position` is p
abbrev pub start_of : ℕ → ℕ
start_of p = p / 256

abbrev pub end_of : ℕ → ℕ
end_of p = p % 256

-- the block of the part t, as numbers
unfoldable pub block : Word → Tree → List ℕ
block w t = packed_run (block_length (length w)) (λ p. obeys w t (start_of p) (end_of p))

-- 01: "one block for each special node, in rising byte offset: the part of the rule that the node heads, itself included".
-- That these are all of them, in this order, are `listed_special`, `special_listed` and `parts_rising` in proofs/Order.
abbrev pub special_parts : Tree → List Tree
special_parts (empty o) = []
special_parts (epsilon o) = []
special_parts (letter o c) = []
special_parts (union o a b) = special_parts a ++ special_parts b
special_parts (intersection o a b) = special_parts a ++ (intersection o a b ∷ special_parts b)
special_parts (concatenation o a b) = special_parts a ++ special_parts b
special_parts (complement o a) = complement o a ∷ special_parts a
special_parts (star o a) = special_parts a

-- every tree of l is one of m
abbrev pub Members : List Tree → List Tree → Type 0
Members l m = (u : Tree) → Memᴰ u l → Memᴰ u m

abbrev pub blocks : Word → List Tree → List ℕ
blocks w [] = []
blocks w (t ∷ l) = block w t ++ blocks w l

-- 01: "The first block is for the whole rule. Then follows one block for each special node"
unfoldable pub table : Word → Tree → List ℕ
table w t = blocks w (t ∷ special_parts t)

-- 01: "The reported found is the number of ones in the first block."
unfoldable pub found : Word → Tree → ℕ
found w t = ones_of (block w t)
