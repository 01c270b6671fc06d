-- What a caller gives: the records of a rule, and a word and a table that fit it. Assumes nothing.
use Rattle.std.specs.Prelude.{ℕ, ◌≤◌, ◌≡◌, List, length}
use Rattle.event.specs.Event.{Word}
use Rattle.expression.specs.Tree.{Tree, specials}
use Rattle.expression.specs.declared.Node.{Node}
use Rattle.work.specs.Table.{need_of, Rising}
use Rattle.work.specs.TableComputed.{special_parts}
use Rattle.owners.specs.Filling.{Recorded}
use Rattle.matcher.specs.MatchMeaning.{LegalWord}

-- the first m nodes are the records of t, which has k special nodes, at rising byte offsets
pub record RuleRecords (t : Tree) (nodes : List Node) (m k : ℕ) : Type 0 where
  pub recorded : Recorded t nodes m
  pub special : specials t ≡ k
  pub few : k ≤ 7
  pub rising : Rising 0 (special_parts t)

-- nothing refuses the word or the table, for a rule with k special nodes
pub record Fitting (k : ℕ) (w : Word) (old : List ℕ) : Type 0 where
  pub word : LegalWord w
  pub room : need_of k (length w) ≤ length old
