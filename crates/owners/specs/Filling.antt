-- What `fill` is given, and what it makes of it. Assumes nothing.
use Rattle.std.specs.Prelude.{◌≡◌, ◌⊎◌, List, [], ◌∷◌, ◌++◌, Bool, true, false, ℕ, ◌+◌, ◌*◌, ◌≤◌, ◌<◌, length, get_or, take, drop, replicate}
use Rattle.event.specs.Event.{Word, Events}
use Rattle.expression.specs.declared.Node.{Node}
use Rattle.expression.specs.declared.records.Records.{Records}
use Rattle.expression.specs.Tree.{Tree, size, specials, records}
use Rattle.expression.specs.TreeOf.{stacked, top}
use Rattle.work.specs.Count.{full_count}
use Rattle.work.specs.Table.{block_length, Rising}
use Rattle.work.specs.TableComputed.{block, special_parts, blocks}

-- the trees that a run of records leaves on a stack
abbrev pub rebuilt : List Tree → List Node → List Tree
rebuilt st [] = st
rebuilt st (n ∷ l) = rebuilt (stacked st n.offset n.kind) l

-- the tree that the first m records are those of; that it is, is `tree_from_lem` in proofs/Rebuilt
unfoldable pub tree_from : List Node → ℕ → Tree
tree_from nodes m = top (rebuilt [] (take m nodes))

-- the rule that a reader's records are those of
abbrev pub rule_of : Records → Tree
rule_of r = tree_from r.nodes r.m

-- the first m of nodes are the records of t
pub record Recorded (t : Tree) (nodes : List Node) (m : ℕ) : Type 0 where
  pub pad : List Node
  pub front : nodes ≡ records t ++ pad
  pub long : size t ≡ m
  pub few : m ≤ 64

-- number q is none of the whole rule's block, which begins at number `whole`
abbrev pub OffRule : (n whole q : ℕ) → Type 0
OffRule n whole q = (q < whole) ⊎ (whole + block_length n ≤ q)

-- number q is none of the special nodes' k blocks, the first of which begins at number `special`
abbrev pub OffSpecials : (k n special q : ℕ) → Type 0
OffSpecials k n special q = (q < special) ⊎ (special + k * block_length n ≤ q)

-- what `fill` takes: the records of a rule t, a word, and a table of so many numbers with room for both areas, which are apart
pub record Fillable (t : Tree) (nodes : List Node) (m : ℕ) (w : Word) (numbers whole special : ℕ) : Type 0 where
  pub recorded : Recorded t nodes m
  pub few : specials t ≤ 7
  pub rising : Rising 0 (special_parts t)
  pub events : Events w
  pub short : length w ≤ 255
  pub rule_fits : whole + block_length (length w) ≤ numbers
  pub parts_fit : special + specials t * block_length (length w) ≤ numbers
  pub apart : (whole + block_length (length w) ≤ special) ⊎ (special + specials t * block_length (length w) ≤ whole)

-- b has the blocks of t in both areas, and is as it was lent elsewhere
pub record Placed (w : Word) (t : Tree) (whole special : ℕ) (lent b : List ℕ) : Type 0 where
  pub rule : take (block_length (length w)) (drop whole b) ≡ block w t
  pub parts : take (specials t * block_length (length w)) (drop special b) ≡ blocks w (special_parts t)
  pub elsewhere : (q : ℕ) → OffRule (length w) whole q → OffSpecials (specials t) (length w) special q → get_or b q 0 ≡ get_or lent q 0
  pub long : length b ≡ length lent

-- b is the table after `fill`: cleared where the full work count passes the limit, else with the blocks of t
pub record FilledTable (t : Tree) (w : Word) (limit whole special : ℕ) (lent b : List ℕ) (count : ℕ) (spent : Bool) : Type 0 where
  pub over : limit < full_count w t → (spent ≡ true) × (count ≡ limit) × (b ≡ replicate (length lent) 0)
  pub within : full_count w t ≤ limit → (spent ≡ false) × (count ≡ full_count w t) × Placed w t whole special lent b
