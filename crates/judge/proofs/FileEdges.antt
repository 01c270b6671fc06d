-- The judge on rule files of two lines, by computation. Assumes nothing.
use Prim.Native.Nat.{ℕ}
use Prim.Native.String.{String}
use mathlib.Core.Path.{◌≡◌, refl}
use mathlib.Core.List.{List, [], ◌∷◌, map}
use lib.Count.{ones}
use lib.ListN.{replicate}
use Rattle.bits.specs.Bit.{has_bit, ones_of}
use Rattle.bits.specs.Runs.{packed, packed_run}
use Rattle.event.specs.Event.{is_event}
use Rattle.event.specs.Leading.{leading}
use Rattle.event.specs.LetterSets.{holds, bit_of}
use Rattle.event.specs.Text.{bytes}
use Rattle.expression.specs.Accept.{accepts}
use Rattle.expression.specs.Leaves.{leaf_at}
use Rattle.expression.specs.Parse.{parse}
use Rattle.expression.specs.Scan.{scan_from}
use Rattle.expression.specs.TreeOf.{tree_of}
use Rattle.expression.specs.OrderComputed.{unordered_from}
use Rattle.expression.specs.StarsComputed.{double_from}
use Rattle.rule_line.specs.LineMeaning.{line_of}
use Rattle.replacement.specs.Replaced.{is_lower}
use Rattle.replacement.specs.Pieces.{name_length, pieces_from, shape_of, filled}
use Rattle.rule_line.specs.LineComputed.{has, text_of, knows, is_line, judged}
use Rattle.rule_file.specs.FileComputed.{file_from}
use Rattle.work.specs.Count.{full_count}
use Rattle.work.specs.TableComputed.{obeys, block, table, found}
use Rattle.matcher.specs.MatchAnswer.{values, refusal}
use Rattle.matcher.specs.MatchComputed.{fit_answer, match_answer}
use Rattle.judge.specs.JudgeFileComputed.{last_from, judge_file_answer}

-- the rules a and b of the names x and y
abbrev two : String → String → List ℕ
two a b = line_of (bytes "x") (bytes a) (line_of (bytes "y") (bytes b) [])

-- 02 b): "the judge, given a file, judges its last line", here as it judges `!(a)`
last_line_lem : judge_file_answer (two "a" "!<x>") (bytes "a") 7 (replicate 16 5)
    ≡ values 0 0 2 7 (1 ∷ 0 ∷ 0 ∷ 0 ∷ 2 ∷ 0 ∷ 0 ∷ 0 ∷ 1 ∷ 0 ∷ 0 ∷ 0 ∷ 2 ∷ 0 ∷ 0 ∷ 0 ∷ [])
unfolding judge_file_answer last_from file_from is_line has judged text_of knows name_length pieces_from shape_of filled is_lower match_answer fit_answer leading is_event scan_from tree_of parse leaf_at unordered_from double_from holds has_bit bit_of full_count accepts obeys block table found packed packed_run ones_of ones
last_line_lem = refl

-- "the place of every refusal in it .. is the line"; the file's numbers stand before the word's, of which the place of 8 is the offset
places : map (λ (s : String). judge_file_answer (two "a" s) (bytes "a_") 7 (5 ∷ [])) ("" ∷ "a_" ∷ "<x" ∷ "<y>" ∷ "<x>[ba]" ∷ "<x>**" ∷ "<x>" ∷ [])
    ≡ refusal 1 2 (5 ∷ []) ∷ refusal 3 2 (5 ∷ []) ∷ refusal 4 2 (5 ∷ []) ∷ refusal 17 2 (5 ∷ []) ∷ refusal 20 2 (5 ∷ []) ∷ refusal 21 2 (5 ∷ [])
    ∷ refusal 8 1 (5 ∷ []) ∷ []
unfolding judge_file_answer last_from file_from is_line has judged text_of knows name_length pieces_from shape_of filled is_lower match_answer fit_answer leading is_event scan_from tree_of parse leaf_at unordered_from double_from
places = refl
