-- What a line's turn says of the file, which a buyer needn't read. Assumes nothing.
use Rattle.std.specs.Prelude.{ℕ, suc, ◌+◌, ◌*◌, ◌≤◌, ◌<◌, ◌≡◌, false, Result, Ok, Err, List, [], ◌∷◌, ◌++◌, length}
use Rattle.expression.specs.Tree.{size, specials}
use Rattle.expression.specs.Grammar.{Alt, Reads}
use Rattle.rule_line.specs.Lines.{Line, refusal_number}
use Rattle.rule_line.specs.LineComputed.{has}
use Rattle.rule_line.specs.Keeping.{Keeps}
use Rattle.rule_line.specs.declared.Refusal.{Refusal}
use Rattle.rule_file.specs.FileMeaning.{at}
use Rattle.rule_file.specs.FileComputed.{refused, file_from}
use Rattle.rule_file.specs.declared.turn.Turn.{Turn}

-- the line at the front of a text, below the lines ls, has passed, and is kept
pub record Passes (text : List ℕ) (ls : List Line) (t : Turn) : Type 0 where
  pub line : Line
  pub few : length ls < 16
  pub step : (k : ℕ) → file_from (suc k) ls text ≡ file_from k (ls ++ line ∷ []) t.rest.now
  pub shorter : length t.rest.now < length text
  pub keeps : Keeps t.line line
  pub free : has ls line.name ≡ false
  pub reads : Reads Alt 0 line.text line.tree
  pub most : size line.tree ≤ 64
  pub most_special : specials line.tree ≤ 7
  pub bound : length line.text ≤ 255 * suc (length ls) * size line.tree

-- the text is refused at this line, or this line has passed
abbrev pub TurnSays : List ℕ → List Line → Result Turn Refusal → Type 0
TurnSays text ls (Err x) = (k : ℕ) → k + length ls ≡ 16 → file_from k ls text ≡ refused (refusal_number x) (at ls)
TurnSays text ls (Ok t) = Passes text ls t
