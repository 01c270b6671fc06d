-- A line of a rule file, and what its rule is below lines that have passed, computed. Assumes nothing.
use Rattle.std.specs.Prelude.{ℕ, suc, Bool, true, false, cond, ◌&&◌, List, [], ◌∷◌, ltb, eqb, length, get_or, drop}
use Rattle.event.specs.Leading.{leading}
use Rattle.event.specs.Text.{not_newline}
use Rattle.expression.specs.Tree.{Tree, size, specials}
use Rattle.expression.specs.TreeOf.{tree_of}
use Rattle.expression.specs.Scan.{is_sentence}
use Rattle.expression.specs.OrderComputed.{unordered_at}
use Rattle.expression.specs.StarsComputed.{double_at}
use Rattle.replacement.specs.Pieces.{Piece, own, named, name_length, pieces, shape, filled}
use Rattle.rule_line.specs.Lines.{Line}
use Rattle.rule_line.specs.LineMeaning.{is_written}

-- ---- names
abbrev pub same_text : List ℕ → List ℕ → Bool
same_text [] [] = true
same_text [] (c ∷ y) = false
same_text (b ∷ x) [] = false
same_text (b ∷ x) (c ∷ y) = eqb b c && same_text x y

-- the line with a name is among the lines
unfoldable pub has : List Line → List ℕ → Bool
has [] n = false
has (l ∷ ls) n = cond (same_text l.name n) true (has ls n)

-- the replaced text, and the tree, of the line with a name; of none where there is none
unfoldable pub text_of : List Line → List ℕ → List ℕ
text_of [] n = []
text_of (l ∷ ls) n = cond (same_text l.name n) l.text (text_of ls n)

unfoldable pub tree_named : List Line → List ℕ → Tree
tree_named [] n = tree_of []
tree_named (l ∷ ls) n = cond (same_text l.name n) l.tree (tree_named ls n)

-- every name is that of a line
unfoldable pub knows : List Line → List Piece → Bool
knows ls [] = true
knows ls (own b ∷ ps) = knows ls ps
knows ls (named n ∷ ps) = has ls n && knows ls ps

-- ---- one line
-- the name's length, what follows the second tab, and the rule's length
abbrev pub name_of : List ℕ → ℕ
name_of text = name_length 9 (drop 2 text)

abbrev pub body_of : List ℕ → List ℕ
body_of text = drop (suc (name_of text)) (drop 2 text)

abbrev pub rule_of : List ℕ → ℕ
rule_of text = leading not_newline (body_of text)

unfoldable pub is_line : List ℕ → Bool
is_line text = eqb (get_or text 0 0) 82 && (eqb (get_or text 1 0) 9 && (ltb 0 (name_of text) && ltb (rule_of text) (length (body_of text))))

-- ---- the rule of a line: the number of its refusal, or its replaced text and that text's reading
pub data Judged : Type 0 where
  bad : ℕ → Judged
  good : List ℕ → Tree → Judged

abbrev pub sized : List ℕ → Tree → Judged
sized u t = cond (ltb 64 (size t)) (bad 5) (cond (ltb 7 (specials t)) (bad 6) (good u t))

-- 02 e), number 20: "after 4 and 17"
abbrev pub ordered : List ℕ → Judged → Judged
ordered s r = cond (ltb (unordered_at s) (length s)) (bad 20) r

-- 02 f), number 21: "directly after 20"
abbrev pub no_double : List ℕ → Judged → Judged
no_double s r = cond (ltb (double_at s) (length s)) (bad 21) r

abbrev pub replaced_by : List Line → List ℕ → List ℕ
replaced_by ls s = filled (text_of ls) (pieces s)

unfoldable pub judged : List Line → List ℕ → Judged
judged ls s =
    let u = replaced_by ls s in
    let r = ordered s (no_double s (sized u (tree_of u))) in
    cond (eqb (length s) 0) (bad 1)
    (cond (ltb 255 (length s)) (bad 2)
    (cond (ltb (leading is_written s) (length s)) (bad 3)
    (cond (is_sentence (shape s)) (cond (knows ls (pieces s)) r (bad 17)) (bad 4))))
