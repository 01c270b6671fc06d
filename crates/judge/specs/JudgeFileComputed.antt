-- What the judge answers of a rule file, a word and a limit, and what it leaves in the table, computed. Assumes nothing.
-- That it is the one answer which has `JudgeFileMeaning` is `answer_means` and `answer_is` in proofs/FileAnswered.
use Rattle.std.specs.Prelude.{ℕ, ◌-◌, List, [], ◌∷◌, get_or}
use Rattle.event.specs.Event.{Word}
use Rattle.expression.specs.Tree.{Tree, empty}
use Rattle.rule_line.specs.Lines.{Line, LineNodes}
use Rattle.rule_file.specs.FileAnswer.{FileAnswer}
use Rattle.rule_file.specs.FileComputed.{FileRead, refused, passed, file_read}
use Rattle.matcher.specs.MatchAnswer.{refusal}
use Rattle.matcher.specs.MatchComputed.{match_answer}
use Rattle.judge.specs.JudgeAnswer.{JudgeAnswer}

-- the tree of the last of the lines, or t where there is none
unfoldable pub last_from : Tree → List Line → Tree
last_from t [] = t
last_from t (l ∷ ls) = last_from l.tree ls

-- the tree of a file's last line: a file that passes has one
abbrev pub last_tree : List Line → Tree
last_tree ls = last_from (empty 0) ls

-- 02 b): "the judge, given a file, judges its last line"
abbrev pub after_file : FileRead → Word → ℕ → List ℕ → JudgeAnswer
after_file (refused n line) w limit old = refusal n line old
after_file (passed ls) w limit old = match_answer (last_tree ls) w limit old

-- of a rule file, a word, a limit and the table at entry
unfoldable pub judge_file_answer : List ℕ → Word → ℕ → List ℕ → JudgeAnswer
judge_file_answer file w limit old = after_file (file_read file) w limit old

-- the last line of the reader's answer on a file, with its m and k, which are 0 where the file is refused
abbrev pub last_line : FileAnswer → LineNodes
last_line a = get_or a.lines (a.r - 1) (record { m = 0; k = 0; nodes = [] })
