-- Answers as rows of numbers. Assumes nothing.
use Rattle.std.specs.Prelude.{ℕ, ◌+◌, ◌*◌, List, [], ◌∷◌, ◌++◌, length, take, drop}
use Rattle.expression.specs.KindNumber.{kind_number}
use Rattle.expression.specs.declared.Node.{Node}
use Rattle.rule.specs.RuleAnswer.{RuleAnswer}
use Rattle.rule_file.specs.FileAnswer.{FileAnswer}
use Rattle.rule_line.specs.Lines.{LineNodes}
use Rattle.day.specs.DayAnswer.{DayAnswer}
use Rattle.judge.specs.JudgeAnswer.{JudgeAnswer}
use Rattle.job.specs.JobAnswer.{JobAnswer}
use Rattle.rewrite.specs.RewriteAnswer.{RewriteAnswer}

-- a row of numbers at the front of a buffer, which keeps what lies beyond
abbrev pub over : List ℕ → List ℕ → List ℕ
over row old = row ++ drop (length row) old

-- two numbers for each element
unfoldable pub pair_row : {A : Type 0} → (A → ℕ) → (A → ℕ) → List A → List ℕ
pair_row f g [] = []
pair_row f g (x ∷ l) = f x ∷ g x ∷ pair_row f g l

-- wuzlevor.h: "for each node its byte offset and its kind"
abbrev pub node_row : List Node → List ℕ
node_row ns = pair_row (λ (x : Node). x.offset) (λ (x : Node). kind_number x.kind) ns

-- wuzlevor.h: "m and k of each line"
abbrev pub line_row : List LineNodes → List ℕ
line_row ls = pair_row (λ (x : LineNodes). x.m) (λ (x : LineNodes). x.k) ls

-- a row of numbers from element i on, in a buffer that keeps what lies before and beyond
abbrev pub over_at : ℕ → List ℕ → List ℕ → List ℕ
over_at i row old = take i old ++ over row (drop i old)

-- wuzlevor.h: "those of line l, from 0, begin at element 128 * l": the nodes of lines, from the line l on, each in its place
unfoldable pub over_lines : ℕ → List LineNodes → List ℕ → List ℕ
over_lines l [] old = old
over_lines l (x ∷ ls) old = over_lines (l + 1) ls (over_at (128 * l) (node_row (take x.m x.nodes)) old)

-- wuzlevor.h: "that number, place, found, count, and then values of its own"
abbrev pub rule_row : RuleAnswer → List ℕ
rule_row a = a.number ∷ a.place ∷ a.found ∷ a.count ∷ a.m ∷ a.k ∷ []

-- the records of the m nodes
abbrev pub rule_nodes : RuleAnswer → List ℕ
rule_nodes a = node_row (take a.m a.nodes)

abbrev pub day_row : DayAnswer → List ℕ
day_row a = a.number ∷ a.place ∷ a.found ∷ a.count ∷ a.n ∷ []

abbrev pub judge_row : JudgeAnswer → List ℕ
judge_row a = a.number ∷ a.place ∷ a.found ∷ a.count ∷ []

abbrev pub file_row : FileAnswer → List ℕ
file_row a = a.number ∷ a.place ∷ a.found ∷ a.count ∷ a.r ∷ []

-- the file's lines
abbrev pub lines_of : FileAnswer → List LineNodes
lines_of a = take a.r a.lines

abbrev pub job_row : JobAnswer → List ℕ
job_row a = a.number ∷ a.place ∷ a.found ∷ a.count ∷ a.n ∷ []

abbrev pub rewrite_row : RewriteAnswer → List ℕ
rewrite_row a = a.number ∷ a.place ∷ a.found ∷ a.count ∷ a.n ∷ []
