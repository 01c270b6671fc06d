-- What a line of a rule file is, and its rule, below lines that have passed: document 02, request b). Assumes nothing.
use Rattle.std.specs.Prelude.{ℕ, ◌<◌, ◌≡◌, Bool, true, false, ◌||◌, eqb, length, get_or}
use mathlib.Core.List.{List, [], ◌∷◌, ◌++◌, Memᴰ}
use Rattle.expression.specs.Tree.{Tree}
use Rattle.expression.specs.Grammar.{Alt, Reads}
use Rattle.rule.specs.RuleAnswer.{is_rule_byte}
use Rattle.rule.specs.RuleMeaning.{FitsLength}
use Rattle.replacement.specs.Replaced.{Name, is_angle, angled, Replaced}
use Rattle.rule_line.specs.Lines.{Line}

-- ---- one line
-- every byte is another than the newline
abbrev pub OneLine : List ℕ → Type 0
OneLine [] = Unit {0}
OneLine (b ∷ s) = (eqb b 10 ≡ false) × OneLine s

-- 02 b): "`R`, tab, name, tab, rule, newline", and what follows the line
abbrev pub line_of : List ℕ → List ℕ → List ℕ → List ℕ
line_of n s more = 82 ∷ 9 ∷ (n ++ 9 ∷ (s ++ 10 ∷ more))

-- the text begins with a line of this form, whose name is n and whose rule is s
pub record Begins (text n s more : List ℕ) : Type 0 where
  pub name : Name n
  pub rule : OneLine s
  pub whole : text ≡ line_of n s more

-- "an earlier line": one of the lines ls has the name n, and its rule, replaced, is the text v
pub record StandsFor (ls : List Line) (n v : List ℕ) : Type 0 where
  pub line : Line
  pub earlier : Memᴰ line ls
  pub name : line.name ≡ n
  pub text : line.text ≡ v

-- one of the lines ls has the name n
pub record HasName (ls : List Line) (n : List ℕ) : Type 0 where
  pub line : Line
  pub earlier : Memᴰ line ls
  pub name : line.name ≡ n

-- a line that is no 17th, has the form, and has a name that no line above it has: its rule is judged
pub record AtRule (ls : List Line) (text n s more : List ℕ) : Type 0 where
  pub few : length ls < 16
  pub begins : Begins text n s more
  pub free : HasName ls n → ⊥

-- ---- the rule of a line
-- 02 b): "Bytes `<` and `>` count as listed here"
abbrev pub is_written : ℕ → Bool
is_written b = is_rule_byte b || is_angle b

-- a written text that the numbers 1 to 3 do not refuse
pub record LegalText (s : List ℕ) : Type 0 where
  pub fits : FitsLength s
  pub listed : (i : ℕ) → i < length s → is_written (get_or s i 0) ≡ true

-- `<name>` stands somewhere in the text
pub record Uses (s n : List ℕ) : Type 0 where
  pub before : List ℕ
  pub after : List ℕ
  pub name : Name n
  pub whole : s ≡ before ++ angled n after

-- 02 b): "Nodes and offsets are those of the text after replacement": the written text s stands for u, which the grammar reads as t
pub record ReadsAs (ls : List Line) (s u : List ℕ) (t : Tree) : Type 0 where
  pub legal : LegalText s
  pub replaced : Replaced (StandsFor ls) s u
  pub reads : Reads Alt 0 u t
