-- A line of a rule file that has passed, what is answered of it, and the numbers of the refusals of a line, by documents 01 and 02.
-- Assumes nothing.
use Rattle.std.specs.Prelude.{ℕ, ◌-◌, List, [], ◌++◌, get_or, replicate}
use Rattle.expression.specs.declared.Node.{Node}
use Rattle.expression.specs.declared.records.Records.{Records}
use Rattle.expression.specs.Tree.{Tree, size, specials, records}
use Rattle.rule.specs.RuleAnswer.{unused}
use Rattle.rule_line.specs.declared.Refusal.{Refusal}
use Rattle.rule_line.specs.declared.Refusal.TheVariants as why

-- a line that has passed: its name, the replaced text of its rule, and the reading of that
pub record Line : Type 0 where
  pub name : List ℕ
  pub text : List ℕ
  pub tree : Tree

-- what is answered of a line: m and k of its replaced text, and its records, of which the first m are the nodes'
pub record LineNodes : Type 0 where
  pub m : ℕ
  pub k : ℕ
  pub nodes : List Node

-- the same of the records that the code answers
abbrev pub told_line : Records → LineNodes
told_line r = record { m = r.m; k = r.k; nodes = r.nodes }

-- a line's m, k and records; what stands after those is free, and as in the answer on a rule text
abbrev pub line_nodes : Tree → LineNodes
line_nodes t = record { m = size t; k = specials t; nodes = records t ++ unused (64 - size t) }

-- what stands in lines that the file does not have, which 01 and 02 leave free
abbrev pub unused_line : LineNodes
unused_line = record { m = 0; k = 0; nodes = unused 64 }

abbrev pub unused_lines : ℕ → List LineNodes
unused_lines n = replicate n unused_line

-- the line at a number
abbrev pub line_at : List LineNodes → ℕ → LineNodes
line_at lines i = get_or lines i (record { m = 0; k = 0; nodes = [] })

-- 01, 02 b), 02 e) and 02 f): the number of each refusal
abbrev pub refusal_number : Refusal → ℕ
refusal_number why.ManyLines = 19
refusal_number why.OtherForm = 16
refusal_number why.TakenName = 18
refusal_number why.EmptyText = 1
refusal_number why.LongText = 2
refusal_number why.ForeignByte = 3
refusal_number why.NoSentence = 4
refusal_number why.UnknownName = 17
refusal_number why.UnorderedSet = 20
refusal_number why.DoubleStar = 21
refusal_number why.ManyNodes = 5
refusal_number why.ManySpecials = 6
