-- What the judge's answer says of a rule file, a word, a limit and the table at entry, by the grammar, the language and the collection of
-- reached places: documents 01, row "Judge", and 02, request b). Assumes nothing.
-- That `judge_file_answer` is the one answer which says so is `answer_means` and `answer_is` in proofs/FileAnswered.
use Rattle.std.specs.Prelude.{ℕ, List, [], ◌∷◌, ◌++◌}
use Rattle.event.specs.Event.{Word}
use Rattle.rule_file.specs.FileAnswer as reader
use Rattle.rule_line.specs.Lines.{Line}
use Rattle.rule_file.specs.FileMeaning.{Passed, FileMeaning}
use Rattle.matcher.specs.MatchAnswer.{refusal}
use Rattle.matcher.specs.MatchMeaning.{MatchMeaning}
use Rattle.judge.specs.JudgeAnswer.{JudgeAnswer}

-- what holds at entry, and the whole answer
pub data JudgeFileMeaning (file : List ℕ) (w : Word) (limit : ℕ) (old : List ℕ) : JudgeAnswer → Type 0 where
  -- the file's own numbers: "the place of every refusal in it, later numbers too, is the line". 01: "On every refusal but 10 .. no lent
  -- buffer changes"
  file_refused : {n line : ℕ} → FileMeaning file (reader.refusal n line) → JudgeFileMeaning file w limit old (refusal n line old)
  -- 7 to 10, or accepted: "the judge, given a file, judges its last line", l, whose tree is the grammar's reading of its replaced text:
  -- `next`, of `Passed`
  last_judged : (ls : List Line) (l : Line) {a : JudgeAnswer} → Passed file (ls ++ l ∷ []) [] → MatchMeaning l.tree w limit old a
      → JudgeFileMeaning file w limit old a
