-- The turns of the owners: what holds before and after each. Assumes nothing.
use Rattle.std.specs.Prelude.{◌≡◌, List, Bool, true, false, ℕ, ◌+◌, ◌≤◌, ◌<◌, length, get_or}
use Rattle.bits.specs.Bit.{bit_at}
use Rattle.event.specs.Event.{Word, Events}
use Rattle.expression.specs.declared.Kind.{Kind}
use Rattle.expression.specs.declared.Kind.TheVariants.{Empty, Epsilon, Letter, Union, Intersection, Concatenation, Complement, Star}
use Rattle.expression.specs.declared.Node.{Node}
use Rattle.expression.specs.Tree.{Tree, empty, epsilon, letter, union, intersection, concatenation, complement, star, size}
use Rattle.table.specs.Layout.{block_at, InBlock}
use Rattle.work.specs.Count.{walks, special_walks, full_count}
use Rattle.work.specs.Table.{HoldsBlock}
use Rattle.levels.specs.declared.automaton.Automaton.{Automaton}
use Rattle.owners.specs.declared.turns.Owners.{Owners}
use Rattle.owners.specs.Filling.{rule_of, Recorded}
use Rattle.owners.specs.Parts.{part_at, SpecialAt}
use Rattle.owners.specs.Sides.{Lefts}
use Rattle.owners.specs.Blocks.{Spaced, BlocksBelow, OffBlocks}
use Rattle.owners.specs.Building.{Built}

-- the owner's block has the spans at which its walks do not end
abbrev pub is_complement : Kind → Bool
is_complement Empty = false
is_complement Epsilon = false
is_complement (Letter c) = false
is_complement Union = false
is_complement Intersection = false
is_complement Concatenation = false
is_complement Complement = true
is_complement Star = false

-- the places of the walks that the root of a part owns
unfoldable pub own_walks : Word → Tree → ℕ
own_walks w (empty o) = 0
own_walks w (epsilon o) = 0
own_walks w (letter o c) = 0
own_walks w (union o a b) = 0
own_walks w (intersection o a b) = walks w a + walks w b
own_walks w (concatenation o a b) = 0
own_walks w (complement o a) = walks w a
own_walks w (star o a) = 0

-- what the owners' turns go by: the records of a rule, its automaton, the word and a table of so many numbers
pub record Setting (t : Tree) (nodes : List Node) (m : ℕ) (lefts : List ℕ) (automaton : Automaton) (w : Word) (numbers : ℕ) : Type 0 where
  pub recorded : Recorded t nodes m
  pub events : Events w
  pub short : length w ≤ 255
  pub left : Lefts t lefts
  pub sides : length lefts ≡ 64
  pub built : Built nodes m lefts automaton
  pub spaced : Spaced t (length w) automaton.firsts numbers

-- the same of the owners of a rule
abbrev pub OwnersSet : Owners → ℕ → Type 0
OwnersSet o numbers =
    let r = o.records.now in Setting (rule_of r) r.nodes r.m o.lefts.now o.automaton.now o.word.now numbers

-- b is the table a after node i had its turn
pub record Turned (t : Tree) (w : Word) (firsts : List ℕ) (i count limit : ℕ) (a b : List ℕ) (c : ℕ) (spent : Bool) : Type 0 where
  pub done : spent ≡ false → BlocksBelow w b t firsts (i + 1)
  pub outside : (q : ℕ) → (SpecialAt t i → InBlock (block_at (get_or firsts i 0) (length w)) q → ⊥) → bit_at b q ≡ bit_at a q
  pub counted : spent ≡ false → c ≡ count + own_walks w (part_at t i)
  pub over : spent ≡ true → limit < count + own_walks w (part_at t i)
  pub spends : spent ≡ true → c ≡ limit
  pub bounded : c ≤ limit

-- b is the table a after all special nodes had their turns
pub record SpecialsTurned (t : Tree) (w : Word) (firsts : List ℕ) (limit : ℕ) (a b : List ℕ) (c : ℕ) (spent : Bool) : Type 0 where
  pub done : spent ≡ false → BlocksBelow w b t firsts (size t)
  pub outside : spent ≡ false → (q : ℕ) → OffBlocks t (length w) firsts q → bit_at b q ≡ bit_at a q
  pub counted : spent ≡ false → c ≡ special_walks w t
  pub over : spent ≡ true → limit < special_walks w t
  pub spends : spent ≡ true → c ≡ limit
  pub bounded : c ≤ limit

-- b is the table a after the whole rule's turn
pub record AllTurned (t : Tree) (w : Word) (firsts : List ℕ) (whole limit : ℕ) (a b : List ℕ) (c : ℕ) (spent : Bool) : Type 0 where
  pub rule : spent ≡ false → HoldsBlock w t b whole
  pub done : spent ≡ false → BlocksBelow w b t firsts (size t)
  pub outside : spent ≡ false → (q : ℕ) → (InBlock (block_at whole (length w)) q → ⊥) → OffBlocks t (length w) firsts q
      → bit_at b q ≡ bit_at a q
  pub counted : spent ≡ false → (c ≡ full_count w t) × (c ≤ limit)
  pub over : spent ≡ true → limit < full_count w t
  pub spends : spent ≡ true → c ≡ limit
