-- What the private functions of the reader do, which a buyer needn't read. Assumes nothing.
use Rattle.std.specs.Prelude.{ℕ, suc, ◌+◌, ◌≤◌, ◌<◌, ◌≡◌, Bool, true, false, cond, Option, None, Some, position, List, [], ◌∷◌, ◌++◌, map, length, get_or, take, drop, set, slice_get}
use Rattle.std.proofs.lemmas.List.Edits.{sets}
use Rattle.expression.specs.declared.Kind.{Kind}
use Rattle.expression.specs.declared.Kind.TheVariants.{Empty, Epsilon, Letter, Union, Intersection, Concatenation, Complement, Star}
use Rattle.expression.specs.Tree.{node_record}
use Rattle.expression.specs.declared.Node.{Node}
use Rattle.rule.specs.RuleAnswer.{unused}
use Rattle.replacement.specs.Graft.{shift_nodes}
use Rattle.replacement.specs.Pieces.{Piece, own, named, pieces, shape_of}
use Rattle.rule_line.specs.Passed.{PassedLine}
use Rattle.rule_line.specs.declared.NamedLine.{NamedLine}
use Rattle.rule_line.specs.declared.PassedRule.{PassedRule}
use Rattle.rule_line.specs.declared.graft.Grafting.{Grafting}
use Rattle.rule_line.specs.LineComputed.{same_text, name_of, body_of, rule_of, is_line}
use Rattle.rule_line.specs.declared.line.LineFields.{LineFields}
use Rattle.rule_line.specs.declared.shape.Origin.{Origin}
use Rattle.rule_line.specs.declared.shape.Origin.TheVariants as origin
use Rattle.rule_line.specs.declared.shape.PieceRead.{PieceRead}
use Rattle.rule_line.specs.declared.shape.Shape.{Shape}

-- the fields of the line that an unread file begins with, and what follows it
pub record FieldsOf (s : List ℕ) (f : LineFields) : Type 0 where
  pub line : is_line s ≡ true
  pub name : f.name.now ≡ take (name_of s) (drop 2 s)
  pub rule : f.rule.now ≡ take (rule_of s) (body_of s)
  pub rest : f.rest.now ≡ drop (suc (rule_of s)) (body_of s)
  pub shorter : length f.rest.now < length s

-- the first of the lines whose name is n
abbrev pub find_line : {R : Type 0} → List (NamedLine R) → List ℕ → Option ℕ
find_line {R} lines n = position (λ (l : NamedLine R). same_text l.name.now n) lines

-- ---- the pieces
-- a piece's byte in the shape, and its origin
abbrev pub code_of : Piece → ℕ
code_of (own b) = b
code_of (named n) = 49

abbrev pub origin_found : Option ℕ → Origin
origin_found None = origin.Unknown
origin_found (Some i) = origin.Line i

abbrev pub origin_of : List PassedLine → Piece → Origin
origin_of lines (own b) = origin.Own
origin_of lines (named n) = origin_found (find_line lines n)

abbrev pub is_known : Origin → Bool
is_known origin.Own = true
is_known (origin.Line i) = true
is_known origin.Unknown = false

-- the rule that an origin names
abbrev pub rule_at : Option PassedLine → Option PassedRule
rule_at None = None
rule_at (Some l) = Some l.rule

abbrev pub rule_named : List PassedLine → Origin → Option PassedRule
rule_named lines origin.Own = None
rule_named lines (origin.Line i) = rule_at (slice_get lines i)
rule_named lines origin.Unknown = None

-- the piece at the front of s
pub record Taken (lines : List PassedLine) (s : List ℕ) (q : PieceRead) : Type 0 where
  pub piece : Piece
  pub first : pieces s ≡ piece ∷ pieces (drop q.length s)
  pub code : q.byte ≡ code_of piece
  pub origin : q.origin ≡ origin_of lines piece
  pub some : 1 ≤ q.length
  pub within : q.length ≤ length s

-- with one piece more
abbrev pub pushed : Shape → PieceRead → Shape
pushed shape q =
    record { bytes = set shape.bytes shape.n q.byte; origins = set shape.origins shape.n q.origin; n = shape.n + 1 }

-- the shape and its origins are those of the text's pieces
pub record Cut (lines : List PassedLine) (s : List ℕ) (shape : Shape) : Type 0 where
  pub few : shape.n ≤ length s
  pub bytes_long : length shape.bytes ≡ 255
  pub origins_long : length shape.origins ≡ 255
  pub bytes : take shape.n shape.bytes ≡ shape_of (pieces s)
  pub originated : take shape.n shape.origins ≡ map (origin_of lines) (pieces s)

-- ---- records
abbrev pub is_epsilon : Kind → Bool
is_epsilon Empty = false
is_epsilon Epsilon = true
is_epsilon (Letter c) = false
is_epsilon Union = false
is_epsilon Intersection = false
is_epsilon Concatenation = false
is_epsilon Complement = false
is_epsilon Star = false

-- the records that a node of the shape becomes: those of the rule that it names, inside the parenthesis, or its own at its place
abbrev pub nodes_for : Kind → Option PassedRule → ℕ → List Node
nodes_for k None p = node_record p k
nodes_for k (Some q) p = cond (is_epsilon k) (shift_nodes (p + 1) (take q.records.m q.records.nodes)) (node_record p k)

abbrev pub grown : Grafting → List Node → Grafting
grown g vs = record { nodes = sets g.nodes g.written vs; written = g.written + length vs }

-- there is room for them
pub record Room (g : Grafting) (k : Kind) (q : Option PassedRule) (place : ℕ) : Type 0 where
  pub fits : g.written + length (nodes_for k q place) ≤ 64
  pub near : place < 1000000000

-- the records that the shape's nodes become, of the origin and the place of each byte of the shape
unfoldable pub grafted_nodes : List Origin → List ℕ → List PassedLine → List Node → List Node
grafted_nodes origins places lines [] = []
grafted_nodes origins places lines (n ∷ ns) =
    nodes_for n.kind (rule_named lines (get_or origins n.offset origin.Own)) (get_or places n.offset 0)
    ++ grafted_nodes origins places lines ns

abbrev pub no_nodes : Grafting
no_nodes = record { nodes = unused 64; written = 0 }

-- what grafting needs of the shape's records
abbrev pub InShape : List Node → List Origin → List ℕ → Type 0
InShape [] origins places = Unit {0}
InShape (n ∷ ns) origins places = ((n.offset < length origins) × (n.offset < length places)) × InShape ns origins places

pub record Graftable (ns : List Node) (origins : List Origin) (places : List ℕ) (lines : List PassedLine) : Type 0 where
  pub fits : length (grafted_nodes origins places lines ns) ≤ 64
  pub inside : InShape ns origins places
  pub near : (o : ℕ) → get_or places o 0 < 1000000000
