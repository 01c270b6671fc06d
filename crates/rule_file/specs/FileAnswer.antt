-- The values of the answers of the reader of rule files, by documents 01 and 02. Assumes nothing.
use Rattle.std.specs.Prelude.{ℕ, ◌-◌, Result, Ok, Err, List, ◌++◌, map, length}
use Rattle.verdict.specs.Verdicts as verdict
use Rattle.verdict.specs.declared.Verdict.{Verdict}
use Rattle.rule_line.specs.declared.Refusal.{Refusal}
use Rattle.rule_line.specs.Lines.{Line, LineNodes, line_nodes, told_line, unused_lines, refusal_number}
use Rattle.rule_file.specs.declared.LineRefusal.{LineRefusal}
use Rattle.rule_file.specs.declared.accepted.RuleFile.{RuleFile}

-- 01: "An answer carries number (0 if accepted), place, found and count"; 02 b): "Its reader answers each line's m, k and records in line
-- order". With them the number r of lines. The code's answer has 16 lines, of 64 records each.
pub record FileAnswer : Type 0 where
  pub number : ℕ
  pub place : ℕ
  pub found : ℕ
  pub count : ℕ
  pub r : ℕ
  pub lines : List LineNodes

-- 02 b): "any new call that doesn't judge has found and count 0"
abbrev pub values : ℕ → ℕ → ℕ → List LineNodes → FileAnswer
values number place r ls = record { number = number; place = place; found = 0; count = 0; r = r; lines = ls }

-- 01: "all 0 or absent on refusal"
abbrev pub refusal : ℕ → ℕ → FileAnswer
refusal number place = values number place 0 (unused_lines 16)

abbrev pub acceptance : List Line → FileAnswer
acceptance ls = values 0 0 (length ls) (map (λ (l : Line). line_nodes l.tree) ls ++ unused_lines (16 - length ls))

-- 02 b): "the place of every refusal in it .. is the line"
abbrev pub refusal_verdict : Refusal → ℕ → Verdict
refusal_verdict r line = verdict.refused (refusal_number r) line

-- number, place, found and count of what the code answers
abbrev pub outcome_verdict : Result RuleFile LineRefusal → Verdict
outcome_verdict (Ok file) = verdict.accepted 0 0
outcome_verdict (Err r) = refusal_verdict r.refusal r.line

-- the number of lines
abbrev pub line_count : Result RuleFile LineRefusal → ℕ
line_count (Ok file) = file.count
line_count (Err r) = 0

-- the lines: those of the file, and behind them those that it does not have
abbrev pub lines_answered : Result RuleFile LineRefusal → List LineNodes
lines_answered (Ok file) = map told_line file.lines
lines_answered (Err r) = unused_lines 16

-- a verdict, with the number of lines and the lines
abbrev pub told : Verdict → ℕ → List LineNodes → FileAnswer
told v r ls = record { number = v.number; place = v.place; found = v.found; count = v.count; r = r; lines = ls }

-- the values of what the code answers
abbrev pub file_values : Result RuleFile LineRefusal → FileAnswer
file_values o = told (outcome_verdict o) (line_count o) (lines_answered o)
