-- Where the blocks of the special nodes begin, and what the table holds of them. Assumes nothing.
use Rattle.std.specs.Prelude.{ℕ, ◌+◌, ◌*◌, ◌<◌, ◌≤◌, ◌≡◌, ◌⊎◌, List, ◌&&◌, cond, ltb, get_or}
use Rattle.bits.specs.Runs.{indicator}
use Rattle.event.specs.Event.{Word}
use Rattle.expression.specs.declared.Node.{Node}
use Rattle.expression.specs.Tree.{Tree}
use Rattle.moves.specs.Moves.{no_node, kind_at, special_kind}
use Rattle.table.specs.Layout.{block_at, Lies, InBlock}
use Rattle.levels.specs.Exits.{Room}
use Rattle.walk.specs.Filled.{sum_below}
use Rattle.work.specs.Table.{block_length, HoldsBlock}
use Rattle.owners.specs.Parts.{part_at, SpecialAt}

-- the byte offset of record i
abbrev pub offset_at : List Node → ℕ → ℕ
offset_at nodes i = (get_or nodes i no_node).offset

-- how many of the first m records are special nodes with an offset below o
unfoldable pub specials_before : List Node → ℕ → ℕ → ℕ
specials_before nodes o m = sum_below (λ (y : ℕ). indicator (special_kind (kind_at nodes y) && ltb (offset_at nodes y) o)) m

-- the first number of record y's block, for a word of n events, where the first of the blocks begins at number `special`; 0 for a node that
-- has no block
unfoldable pub first_at : (nodes : List Node) (m n special y : ℕ) → ℕ
first_at nodes m n special y = cond (special_kind (kind_at nodes y)) (special + specials_before nodes (offset_at nodes y) m * block_length n) 0

-- the list has the first numbers of the first m records, and 0 from there on
pub record FirstNumbers (nodes : List Node) (m n special : ℕ) (firsts : List ℕ) : Type 0 where
  pub some : (y : ℕ) → y < m → get_or firsts y 0 ≡ first_at nodes m n special y
  pub none : (y : ℕ) → m ≤ y → get_or firsts y 0 ≡ 0

-- ---- blocks by their first numbers

-- two blocks, for a word of n events, are apart
abbrev pub BlocksApart : (n first second : ℕ) → Type 0
BlocksApart n a b = (a + block_length n ≤ b) ⊎ (b + block_length n ≤ a)

-- the special nodes' blocks lie in a table of so many numbers, apart from each other
pub record Spaced (t : Tree) (n : ℕ) (firsts : List ℕ) (numbers : ℕ) : Type 0 where
  pub room : Room firsts n numbers
  pub apart : (y z : ℕ) → y < z → SpecialAt t y → SpecialAt t z → BlocksApart n (get_or firsts y 0) (get_or firsts z 0)

-- and the whole rule's, which begins at number `whole`, apart from each of them
pub record WholeApart (t : Tree) (n : ℕ) (firsts : List ℕ) (numbers whole : ℕ) : Type 0 where
  pub lies : Lies (block_at whole n) numbers
  pub apart : (y : ℕ) → SpecialAt t y → BlocksApart n whole (get_or firsts y 0)

-- the table holds the blocks of the special nodes whose records stand below k
abbrev pub BlocksBelow : (w : Word) (run : List ℕ) (t : Tree) (firsts : List ℕ) (k : ℕ) → Type 0
BlocksBelow w run t firsts k = (y : ℕ) → y < k → SpecialAt t y → HoldsBlock w (part_at t y) run (get_or firsts y 0)

-- q is a bit of no special node's block
abbrev pub OffBlocks : (t : Tree) (n : ℕ) (firsts : List ℕ) (q : ℕ) → Type 0
OffBlocks t n firsts q = (y : ℕ) → SpecialAt t y → InBlock (block_at (get_or firsts y 0) n) q → ⊥
