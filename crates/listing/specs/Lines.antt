-- The lines that the program writes. Assumes nothing.
use Rattle.std.specs.Prelude.{ℕ, List, [], ◌∷◌, ◌++◌}
use Rattle.decimal.specs.Decimal.{decimal}
use Rattle.work.specs.Spans.{Spans}
use Rattle.listing.specs.declared.Heading.{Heading}

-- 01, The program: "Fields are decimal without leading zeros, .. tab between": a tab and a field
abbrev pub field : ℕ → List ℕ
field x = 9 ∷ decimal x

-- 01: "newline after each line": fields up to the end of the line
abbrev pub fields : List ℕ → List ℕ
fields [] = 10 ∷ []
fields (x ∷ l) = field x ++ fields l

-- a line: its letter, and its fields
abbrev pub line : ℕ → List ℕ → List ℕ
line c l = c ∷ fields l

-- 01: "a line `H`, n, m, k, found, count"
abbrev pub head_line : Heading → List ℕ
head_line h = line 72 (h.n ∷ h.m ∷ h.k ∷ h.found ∷ h.count ∷ [])

-- 01: "`S`, i, j"
abbrev pub span_line : ℕ → ℕ → List ℕ
span_line i j = line 83 (i ∷ j ∷ [])

-- 01: "Refused: one line `X`, number, place."
abbrev pub refusal_line : ℕ → ℕ → List ℕ
refusal_line number place = line 88 (number ∷ place ∷ [])

-- a line for each span, in the list's order
unfoldable pub span_lines : Spans → List ℕ
span_lines [] = []
span_lines (p ∷ l) = span_line p.0 p.1 ++ span_lines l
