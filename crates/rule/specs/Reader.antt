-- What the private functions of the recursive reader do, which a buyer needn't read. Assumes nothing.
use Rattle.std.specs.Prelude.{ℕ, ◌+◌, ◌≤◌, min, ◌≡◌, List, cond, length, set, ltb}
use Rattle.expression.specs.Tree.{size}
use Rattle.expression.specs.TreeOf.{tree_of}
use Rattle.expression.specs.Grammar.{Alt, Reads}
use Rattle.expression.specs.Parse.{Call, alt, alt_rest, conj, conj_rest, seq, seq_rest, pre, post, post_rest, atom, measure, parse}
use Rattle.expression.specs.declared.Kind.{Kind}
use Rattle.expression.specs.declared.Node.{Node}
use Rattle.rule.specs.RuleAnswer.{nodes_for}
use Rattle.expression.specs.declared.ScanState.{ScanState}
use Rattle.rule.specs.declared.levels.Reader.{Reader}

-- the numbers of a scan of at most 255 bytes
abbrev pub Few : ScanState → Type 0
Few q = (q.depth ≤ 255) × (q.nodes ≤ 510) × (q.specials ≤ 255)

-- the records, and how many are written
abbrev pub Written : Type 0
Written = List Node × ℕ

-- one record more, where there is room
abbrev pub add : Written → ℕ → Kind → Written
add r o k = cond (ltb r.1 64) (set r.0 r.1 (record { offset = o; kind = k }), r.1 + 1) r

-- where the reader stands: the records and how many are written, and the offset of the unread text
abbrev pub State : Type 0
State = Written × ℕ

abbrev pub at : Reader → State
at r = ((r.nodes, r.written), r.offset)

abbrev pub pushed : State → ℕ → Kind → State
pushed r o k = (add r.0 o k, r.1)

-- some bytes more are read
abbrev pub moved : State → ℕ → State
moved r n = (r.0, r.1 + n)

-- the bytes that a level reads at least: one, where there is one and the level begins with an operand
abbrev pub least : Call → List ℕ → ℕ
least alt s = min 1 (length s)
least alt_rest s = 0
least conj s = min 1 (length s)
least conj_rest s = 0
least seq s = min 1 (length s)
least seq_rest s = 0
least pre s = min 1 (length s)
least post s = min 1 (length s)
least post_rest s = 0
least atom s = min 1 (length s)

-- a level has read of the text s from r to q: q stands within the text, and is what `parse` gives
pub record Done (l : Call) (s : List ℕ) (r q : State) : Type 0 where
  pub low : r.1 + least l s ≤ q.1
  pub high : q.1 ≤ r.1 + length s
  pub same : (f : ℕ) → measure l s ≤ f → q ≡ parse add f l s r

-- a sentence of at most 64 nodes
pub record Readable (s : List ℕ) : Type 0 where
  pub sentence : Reads Alt 0 s (tree_of s)
  pub few : size (tree_of s) ≤ 64

-- the 64 records that are written of it
abbrev pub nodes_read : List ℕ → List Node
nodes_read s = nodes_for (tree_of s)
