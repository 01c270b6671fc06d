-- `file_answer` on the examples of requests b), e) and f), by computation. Assumes nothing.
use Prim.Native.Nat.{ℕ, ◌+◌, ◌^◌}
use Prim.Native.String.{String}
use mathlib.Core.Path.{◌≡◌, refl}
use mathlib.Core.List.{List, [], ◌∷◌, ◌++◌, map}
use lib.ListN.{take, replicate}
use Rattle.event.specs.Event.{is_event}
use Rattle.event.specs.Leading.{leading}
use Rattle.event.specs.LetterSets.{gathered, bit_of}
use Rattle.event.specs.Text.{bytes}
use Rattle.expression.specs.KindNumber.{kind_number}
use Rattle.expression.specs.Tree.{records}
use Rattle.expression.specs.Leaves.{leaf_at}
use Rattle.expression.specs.Parse.{parse}
use Rattle.expression.specs.Scan.{scan_from}
use Rattle.expression.specs.TreeOf.{tree_of}
use Rattle.expression.specs.OrderComputed.{unordered_from}
use Rattle.expression.specs.StarsComputed.{double_from}
use Rattle.expression.specs.declared.Node.{Node}
use Rattle.replacement.specs.Replaced.{is_lower}
use Rattle.replacement.specs.Pieces.{name_length, pieces_from, shape_of, filled}
use Rattle.rule_line.specs.Lines.{LineNodes}
use Rattle.rule_line.specs.LineComputed.{has, text_of, knows, is_line, judged}
use Rattle.rule_file.specs.FileComputed.{file_from, file_answer}

-- a line of a name and a rule
line : String → String → List ℕ
line n s = 82 ∷ 9 ∷ (bytes n ++ 9 ∷ (bytes s ++ 10 ∷ []))

-- a file with its number, place, and each line's m and k
abbrev Case : Type 0
Case = List ℕ × ℕ × ℕ × List (ℕ × ℕ)

abbrev two : String → String → List ℕ
two a b = line "x" a ++ line "y" b

abbrev eight : String → List ℕ
eight x =
    let l : String → List ℕ = λ n. line n x in
    l "a" ++ l "b" ++ l "c" ++ l "d" ++ l "e" ++ l "f" ++ l "g" ++ l "h"

abbrev sixteen : List ℕ
sixteen = eight "1" ++ line "i" "a" ++ line "j" "b" ++ line "k" "c" ++ line "l" "d" ++ line "m" "<a>" ++ line "n" "<m>" ++ line "o" "<n>" ++ line "p" "<o>"

cases : List Case
cases =
    (two "a|b" "<x>c", 0, 0, (3, 0) ∷ (5, 0) ∷ [])
    ∷ (two "a" "!<x>&<x><x>*", 0, 0, (1, 0) ∷ (7, 2) ∷ [])
    ∷ (line "x" "aaaaaaaa" ++ line "y" "<x><x><x><x>" ++ line "z" "<y><y>", 5, 3, [])
    ∷ (line "x" "a" ++ line "x" ")", 18, 2, [])
    -- 16: an empty file, another form, no newline at the end, a name of 13 letters
    ∷ ([], 16, 1, []) ∷ (bytes "R", 16, 1, []) ∷ (line "x" "a" ++ bytes "R", 16, 2, []) ∷ (line "" "a", 16, 1, [])
    ∷ (line "abcdefghijklm" "a", 16, 1, []) ∷ (line "abcdefghijkl" "a", 0, 0, (1, 0) ∷ []) ∷ (line "X" "a", 16, 1, [])
    -- 1, 2, 3
    ∷ (line "x" "", 1, 1, []) ∷ (82 ∷ 9 ∷ 120 ∷ 9 ∷ (replicate 256 97 ++ 10 ∷ []), 2, 1, []) ∷ (line "x" "<_", 3, 1, [])
    -- 4: malformed brackets, no sentence; before 17
    ∷ (two "a" "<>", 4, 2, []) ∷ (two "a" "<x", 4, 2, []) ∷ (two "a" "x>", 4, 2, []) ∷ (two "a" "<<x>>", 4, 2, [])
    ∷ (two "a" "<y>|", 4, 2, []) ∷ (two "a" "<x>|", 4, 2, [])
    -- 17: its own name, a later line's
    ∷ (two "a" "<y>", 17, 2, []) ∷ (two "<y>" "a", 17, 1, [])
    -- 20, after 4 and 17 and before 5; sets
    ∷ (two "[ab]" "<x>.", 0, 0, (1, 0) ∷ (3, 0) ∷ []) ∷ (two "[ab]" "<x>[ba]", 20, 2, []) ∷ (two "[ba]" "<x>", 20, 1, [])
    ∷ (two "a" "[<x>]", 4, 2, []) ∷ (two "a" "[ba]|", 4, 2, []) ∷ (two "a" "[ba]<y>", 17, 2, [])
    ∷ (line "x" "aaaaaaaa" ++ line "y" "<x><x><x><x>" ++ line "z" "<y><y>[aa]", 20, 3, [])
    -- 21, after 17 and 20 and before 5 and 6, in the text as it is written
    ∷ (two "a*" "<x>*", 0, 0, (2, 0) ∷ (3, 0) ∷ []) ∷ (two "a*" "<x>**", 21, 2, []) ∷ (two "a**" "b", 21, 1, []) ∷ (two "a" "<x>**|", 4, 2, [])
    ∷ (two "a" "b**<y>", 17, 2, []) ∷ (two "a" "b**[ba]", 20, 2, []) ∷ (two "!!!!a" "!!!!<x>**", 21, 2, [])
    ∷ (line "x" "aaaaaaaa" ++ line "y" "<x><x><x><x>" ++ line "z" "<y><y>**", 21, 3, [])
    -- 6, of the replaced text
    ∷ (two "!!!!a" "!!!!<x>", 6, 2, []) ∷ (two "!!!!a" "!!!<x>", 0, 0, (5, 4) ∷ (8, 7) ∷ [])
    -- 19: one byte of a 17th line
    ∷ (sixteen, 0, 0, replicate 16 (1, 0)) ∷ (sixteen ++ 90 ∷ [], 19, 17, []) ∷ []

worked : Case → Case
worked c = let a = file_answer c.0 in (c.0, a.number, a.place, map (λ (l : LineNodes). (l.m, l.k)) (take a.r a.lines))

edges : map worked cases ≡ cases
unfolding file_from judged is_line has text_of knows name_length pieces_from shape_of filled is_lower leading is_event scan_from tree_of parse leaf_at unordered_from double_from cases worked line
edges = refl

-- the records, as offset and kind number
told : LineNodes → List (ℕ × ℕ)
told l = map (λ (n : Node). (n.offset, kind_number n.kind)) (take l.m l.nodes)

-- a set of the letter at one place
set : ℕ → ℕ
set i = 9223372036854775808 + 2 ^ i

first_file : map told (take 2 (file_answer (two "a|b" "<x>c")).lines)
    ≡ ((0, set 26) ∷ (2, set 27) ∷ (1, 2) ∷ []) ∷ ((1, set 26) ∷ (3, set 27) ∷ (2, 2) ∷ (5, set 28) ∷ (5, 4) ∷ []) ∷ []
unfolding file_from judged is_line has text_of knows name_length pieces_from shape_of filled is_lower leading is_event scan_from tree_of parse leaf_at unordered_from double_from records line told set gathered bit_of
first_file = refl

second_file : map told (take 2 (file_answer (two "a" "!<x>&<x><x>*")).lines)
    ≡ ((0, set 26) ∷ []) ∷ ((2, set 26) ∷ (0, 5) ∷ (6, set 26) ∷ (9, set 26) ∷ (11, 6) ∷ (8, 4) ∷ (4, 3) ∷ []) ∷ []
unfolding file_from judged is_line has text_of knows name_length pieces_from shape_of filled is_lower leading is_event scan_from tree_of parse leaf_at unordered_from double_from records line told set gathered bit_of
second_file = refl
