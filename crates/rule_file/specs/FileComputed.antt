-- The answer on a rule file, computed. Assumes nothing.
-- That it is the one answer which has `FileMeaning` is `answer_means` and `answer_is` in proofs/FileAnswered.
use Rattle.std.specs.Prelude.{ℕ, zero, suc, cond, List, [], ◌∷◌, ◌++◌, eqb, length, take, drop}
use Rattle.rule_line.specs.Lines.{Line}
use Rattle.rule_line.specs.LineComputed.{has, name_of, body_of, rule_of, is_line, Judged, bad, good, judged}
use Rattle.rule_file.specs.FileAnswer.{FileAnswer, refusal, acceptance}
use Rattle.rule_file.specs.FileMeaning.{at}

-- ---- the lines one after another
-- what a file comes to: the number and the line of its refusal, or its lines
pub data FileRead : Type 0 where
  refused : ℕ → ℕ → FileRead
  passed : List Line → FileRead

abbrev pub onward : (List Line → List ℕ → FileRead) → List Line → List ℕ → List ℕ → Judged → FileRead
onward rest ls n more (bad k) = refused k (at ls)
onward rest ls n more (good u t) = rest (ls ++ record { name = n; text = u; tree = t } ∷ []) more

-- where f lines may follow the lines ls
unfoldable pub file_from : ℕ → List Line → List ℕ → FileRead
file_from zero ls text = cond (eqb (length text) 0) (passed ls) (refused 19 (at ls))
file_from (suc f) ls text =
    let n = take (name_of text) (drop 2 text) in
    let s = take (rule_of text) (body_of text) in
    let more = drop (suc (rule_of text)) (body_of text) in
    let line = onward (file_from f) ls n more (judged ls s) in
    cond (eqb (length text) 0) (cond (eqb (length ls) 0) (refused 16 1) (passed ls))
    (cond (is_line text) (cond (has ls n) (refused 18 (at ls)) line) (refused 16 (at ls)))

abbrev pub file_read : List ℕ → FileRead
file_read file = file_from 16 [] file

abbrev pub answered : FileRead → FileAnswer
answered (refused k line) = refusal k line
answered (passed ls) = acceptance ls

abbrev pub file_answer : List ℕ → FileAnswer
file_answer file = answered (file_read file)
