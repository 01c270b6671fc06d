-- What the reader keeps of the lines that have passed, and what the functions that read a line's rule say of it, which a buyer needn't read.
-- Assumes nothing.
use Rattle.std.specs.Prelude.{ℕ, suc, ◌+◌, ◌*◌, ◌≤◌, ◌≡◌, false, cond, Option, None, Some, Result, Ok, Err, MatchResult, List, [], ◌∷◌, length, take, ltb}
use Rattle.std.specs.List.{AllZip}
use Rattle.std.proofs.lemmas.List.Edits.{sets}
use Rattle.expression.specs.Tree.{Tree, size, specials, records}
use Rattle.expression.specs.Grammar.{Alt, Reads}
use Rattle.expression.specs.Scan.{scanned, counted}
use Rattle.expression.specs.TreeOf.{tree_of}
use Rattle.expression.specs.declared.Node.{Node}
use Rattle.rule.specs.RuleAnswer.{unused}
use Rattle.rule_line.specs.Lines.{Line, line_nodes, told_line, refusal_number}
use Rattle.rule_line.specs.LineComputed.{has, bad, good, judged}
use Rattle.rule_line.specs.Offsets.{OffsetsWithin}
use Rattle.rule_line.specs.Coding.{grafted_nodes}
use Rattle.rule_line.specs.Summing.{summed, no_sums, Summed}
use Rattle.rule_line.specs.Passed.{PassedLine}
use Rattle.rule_line.specs.declared.PassedRule.{PassedRule}
use Rattle.rule_line.specs.declared.shape.Origin.{Origin}
use Rattle.rule_line.specs.declared.shape.Shape.{Shape}
use Rattle.rule_line.specs.declared.sums.Sums.{Sums}
use Rattle.rule_line.specs.declared.Refusal.{Refusal}
use Rattle.rule_line.specs.declared.Refusal.TheVariants as why

-- ---- the lines that have passed
-- what is kept of a line
pub record Keeps (x : PassedLine) (l : Line) : Type 0 where
  pub name : x.name.now ≡ l.name
  pub long : x.rule.text_length ≡ length l.text
  pub stored : told_line x.rule.records ≡ line_nodes l.tree

-- Q holds of each line
abbrev pub Each : (Line → Type 0) → List Line → Type 0
Each Q [] = Unit {0}
Each Q (l ∷ ls) = Q l × Each Q ls

-- a line below fewer than r others has at most 64 nodes, and at most 255 × r bytes for each
abbrev pub Bounded : ℕ → Line → Type 0
Bounded r l = (size l.tree ≤ 64) × (length l.text ≤ 255 * r * size l.tree)

-- their texts are read as their trees
abbrev pub AllRead : List Line → Type 0
AllRead [] = Unit {0}
AllRead (l ∷ ls) = Reads Alt 0 l.text l.tree × AllRead ls

-- no two have one name
abbrev pub Distinct : List Line → Type 0
Distinct [] = Unit {0}
Distinct (l ∷ ls) = (has ls l.name ≡ false) × Distinct ls

pub record Sound (ls : List Line) : Type 0 where
  pub read : AllRead ls
  pub distinct : Distinct ls

-- what the reader keeps of the lines ls
pub record Kept (lines : List PassedLine) (ls : List Line) : Type 0 where
  pub each : AllZip Keeps lines ls
  pub few : length ls ≤ 16
  pub bounded : Each (Bounded (length ls)) ls
  pub sound : Sound ls

-- ---- the rule of a line
-- the sums of the pieces of a shape
abbrev pub sums_of : List PassedLine → List Origin → Sums
sums_of lines origins = summed lines no_sums origins

abbrev pub origins_in : Shape → List Origin
origins_in shape = take shape.n shape.origins

-- the records that a shape stands for, where its pieces stand at some places
abbrev pub nodes_in : List PassedLine → Shape → List ℕ → List Node
nodes_in lines shape places = grafted_nodes (origins_in shape) places lines (records (tree_of (take shape.n shape.bytes)))

-- they fit, near the front of a replaced text of no great length
pub record Fitting (lines : List PassedLine) (shape : Shape) (places : List ℕ) : Type 0 where
  pub fits : length (nodes_in lines shape places) ≤ 64
  pub near : OffsetsWithin 1000000 (nodes_in lines shape places)
  pub short : (sums_of lines (origins_in shape)).length ≤ 1000000

-- a shape that is a sentence of m nodes, k of them special, and all of whose names are those of lines
pub record Sentence (lines : List PassedLine) (shape : Shape) (m k : ℕ) : Type 0 where
  pub few : shape.n ≤ 255
  pub bytes_long : length shape.bytes ≡ 255
  pub origins_long : length shape.origins ≡ 255
  pub scan : scanned (take shape.n shape.bytes) ≡ counted m k
  pub fitting : (places : List ℕ) → Summed lines (origins_in shape) places (sums_of lines (origins_in shape))
      → m + (sums_of lines (origins_in shape)).nodes ≤ 64 → Fitting lines shape places

-- 5 and 6 of m nodes, k of them special
abbrev pub size_refusal : ℕ → ℕ → Option Refusal
size_refusal m k = cond (ltb 64 m) (Some why.ManyNodes) (cond (ltb 7 k) (Some why.ManySpecials) None)

-- m and k, the length, and the records, where the pieces stand at their places
pub record Grafts (lines : List PassedLine) (shape : Shape) (m k : ℕ) (places : List ℕ) (q : PassedRule) : Type 0 where
  pub m_is : q.records.m ≡ m
  pub k_is : q.records.k ≡ k
  pub few_special : k ≤ 7
  pub long : q.text_length ≡ (sums_of lines (origins_in shape)).length
  pub nodes : q.records.nodes ≡ sets (unused 64) 0 (nodes_in lines shape places)

-- the nodes of the names are added
pub record SentenceSays (lines : List PassedLine) (shape : Shape) (m k : ℕ) (r : Result PassedRule Refusal) : Type 0 where
  pub places : List ℕ
  pub summed : Summed lines (origins_in shape) places (sums_of lines (origins_in shape))
  pub says : MatchResult r
      (λ q. Grafts lines shape (m + (sums_of lines (origins_in shape)).nodes) (k + (sums_of lines (origins_in shape)).specials) places q)
      (λ x. size_refusal (m + (sums_of lines (origins_in shape)).nodes) (k + (sums_of lines (origins_in shape)).specials) ≡ Some x)

-- the rule s of a line below the lines ls has passed
pub record PassedAs (ls : List Line) (s : List ℕ) (q : PassedRule) : Type 0 where
  pub text : List ℕ
  pub tree : Tree
  pub same : judged ls s ≡ good text tree
  pub stored : told_line q.records ≡ line_nodes tree
  pub long : q.text_length ≡ length text
  pub reads : Reads Alt 0 text tree
  pub few : size tree ≤ 64
  pub few_special : specials tree ≤ 7
  pub bound : length text ≤ 255 * suc (length ls) * size tree

-- a rule is as `judged` says
abbrev pub RuleSays : List Line → List ℕ → Result PassedRule Refusal → Type 0
RuleSays ls s (Err x) = judged ls s ≡ bad (refusal_number x)
RuleSays ls s (Ok q) = PassedAs ls s q
