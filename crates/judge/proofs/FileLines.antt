-- What a rule file comes to in the judge: a refusal of the file, or lines of which the last is judged. Assumes nothing.
use Prim.Native.Nat.{ℕ, ◌-◌, ◌≤◌, ◌<◌}
use native.Mathlib.Omega.{arith}
use mathlib.Core.Path.{◌≡◌, refl, sym, ap, subst, ◌∙◌}
use mathlib.Core.List.Memᴰ
use mathlib.Core.List.{List, [], ◌∷◌, ◌++◌, map, Memᴰ}
use lib.ListN.{length, get_or, length-append}
use Rattle.expression.specs.Tree.{Tree}
use Rattle.work.specs.Table.{Rising}
use Rattle.work.specs.TableComputed.{special_parts}
use Rattle.work.proofs.Order.{parts_rising}
use Rattle.rule_line.specs.Lines.{Line, line_nodes}
use Rattle.rule_file.specs.FileAnswer.{FileAnswer, refusal, acceptance}
use Rattle.rule_file.specs.FileMeaning.{Passed, start, next, FileMeaning}
use Rattle.rule_file.specs.FileComputed.{FileRead, refused, passed, file_read, answered}
use Rattle.rule_file.proofs.FileAnswered.{answer_means, passed_is}
use Rattle.rule_file.proofs.FileRows.{in_file, Row, refused_by, passed_as, row}
use Rattle.rule_file.proofs.Replacement.{line_reads}
use Rattle.judge.specs.JudgeFileComputed.{last_from, last_line}

-- ---- each line
pub line_rising : {file : List ℕ} {ls : List Line} {text : List ℕ} → Passed file ls text → (l : Line) → Memᴰ l ls
    → Rising 0 (special_parts l.tree)
line_rising p l h = parts_rising (line_reads p l h)

-- ---- the last line
pub last_in : (ls : List Line) (l : Line) → Memᴰ l (ls ++ l ∷ [])
last_in ls l = Memᴰ.append_right ls (Memᴰ.head refl)

pub last_tree_lem : (t : Tree) (ls : List Line) (l : Line) → last_from t (ls ++ l ∷ []) ≡ l.tree
unfolding last_from
last_tree_lem t [] l = refl
last_tree_lem t (k ∷ ls) l = last_tree_lem k.tree ls l

number_at : {A B : Type 0} (f : A → B) (xs : List A) (x : A) (rest : List B) (d : B) → get_or (map f (xs ++ x ∷ []) ++ rest) (length xs) d ≡ f x
number_at f [] x rest d = refl
number_at f (y ∷ xs) x rest d = number_at f xs x rest d

pub last_line_lem : (ls : List Line) (l : Line) → last_line (acceptance (ls ++ l ∷ [])) ≡ line_nodes l.tree
last_line_lem ls l =
    let e : length (ls ++ l ∷ []) - 1 ≡ length ls = omega (arith, length-append ls (l ∷ [])) in
    rw e (number_at (λ (k : Line). line_nodes k.tree) ls l _ _)

-- ---- what the file comes to
pub data Comes (file : List ℕ) : FileRead → Type 0 where
  refuses : {n line : ℕ} → FileMeaning file (refusal n line) → Comes file (refused n line)
  passes : (ls : List Line) (l : Line) → Passed file (ls ++ l ∷ []) [] → length ls < 16 → Comes file (passed (ls ++ l ∷ []))

has_last : {file : List ℕ} {ls : List Line} {text : List ℕ} → Passed file ls text → 1 ≤ length ls → text ≡ [] → Comes file (passed ls)
has_last start h e = absurd (omega arith)
has_last {file} (next {ls = ls} {n = n} {u = u} {t = t} p a r o d m k) h e =
    let l : Line = record { name = n; text = u; tree = t } in
    passes ls l (subst (Passed file (ls ++ l ∷ [])) e (next p a r o d m k)) a.few

pub comes : (file : List ℕ) → Comes file (file_read file)
comes file = go (file_read file) refl (answer_means file)
  where
    last : {ls : List Line} → file_read file ≡ passed ls → Row file (acceptance ls) → Comes file (passed ls)
    last e (refused_by r line q) = absurd ((in_file r line).number (sym (ap (λ (a : FileAnswer). a.number) q)))
    last e (passed_as ks p h q) = subst (Comes file) (sym (passed_is p h) ∙ e) (has_last p h refl)

    go : (x : FileRead) → file_read file ≡ x → FileMeaning file (answered x) → Comes file x
    go (refused n line) e m = refuses m
    go (passed ls) e m = last e (row m)
