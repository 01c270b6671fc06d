-- Each sentence has one reading, and `tree_of` computes it. Assumes nothing.
use Prim.Native.Nat.{ℕ}
use native.Mathlib.Omega.{arith}
use mathlib.Core.Path.{◌≡◌, refl, sym, ap, subst, ◌∙◌}
use mathlib.Core.List.{List, [], ◌∷◌, ◌++◌}
use lib.Dec.{T}
use Rattle.expression.specs.Tree.{Tree, empty, epsilon, letter, union, intersection, concatenation, complement, star, records, node_record}
use Rattle.expression.specs.Grammar.{Alt, Reads}
use Rattle.expression.specs.Parse.{alt, measure}
use Rattle.expression.specs.TreeOf.{stacked, top, tree_of}
use Rattle.expression.specs.declared.Kind.{Kind}
use Rattle.expression.specs.declared.Kind.TheVariants.{Union, Intersection, Concatenation, Complement, Star}
use Rattle.expression.specs.Scan.{scanned, Means, finds, is_sentence, ScanResult}
use Rattle.std.proofs.Common.{Ok, Err}
use Rattle.expression.proofs.ScanDecides.{scan_right}
use Rattle.expression.proofs.Parses.{pushes, two, one, parse_whole}

pair : (t r : Tree) (k : Kind) (o : ℕ) (w : Tree) (st : List Tree) → stacked (r ∷ t ∷ st) o k ≡ w ∷ st
    → pushes stacked st (records t) ≡ t ∷ st → pushes stacked (t ∷ st) (records r) ≡ r ∷ t ∷ st
    → pushes stacked st (records t ++ records r ++ node_record o k) ≡ w ∷ st
pair t r k o w st e p q =
    sym (two stacked st (records t) (records r) o k)
    ∙ ap (λ (x : List Tree). stacked (pushes stacked x (records r)) o k) p
    ∙ ap (λ (x : List Tree). stacked x o k) q
    ∙ e

rebuilt : (t : Tree) (st : List Tree) → pushes stacked st (records t) ≡ t ∷ st
unfolding records pushes
rebuilt (empty o) st = refl
rebuilt (epsilon o) st = refl
rebuilt (letter o b) st = refl
rebuilt (union o t r) st = pair t r Union o (union o t r) st refl (rebuilt t st) (rebuilt r (t ∷ st))
rebuilt (intersection o t r) st = pair t r Intersection o (intersection o t r) st refl (rebuilt t st) (rebuilt r (t ∷ st))
rebuilt (concatenation o t r) st = pair t r Concatenation o (concatenation o t r) st refl (rebuilt t st) (rebuilt r (t ∷ st))
rebuilt (complement o t) st = sym (one stacked st (records t) o Complement) ∙ ap (λ (x : List Tree). stacked x o Complement) (rebuilt t st)
rebuilt (star o t) st = sym (one stacked st (records t) o Star) ∙ ap (λ (x : List Tree). stacked x o Star) (rebuilt t st)

pub tree_is : {s : List ℕ} {t : Tree} → Reads Alt 0 s t → tree_of s ≡ t
unfolding tree_of
tree_is {s} {t} r = ap (λ (x : List Tree × ℕ). top x.0) (parse_whole stacked r [] (measure alt s) (omega arith)) ∙ ap top (rebuilt t [])

-- 01: "each [sentence] has one reading"
pub one_reading : {s : List ℕ} {t r : Tree} → Reads Alt 0 s t → Reads Alt 0 s r → t ≡ r
one_reading p q = sym (tree_is p) ∙ tree_is q

found_reads : (s : List ℕ) (f : ScanResult) → Means s f → T (finds f) → Reads Alt 0 s (tree_of s)
found_reads s (Ok z) x h = subst (Reads Alt 0 s) (sym (tree_is x.reads)) x.reads
found_reads s (Err i) x h = absurd h

-- a text that the scan finds to be a sentence is read as `tree_of` computes
pub sentence_reads : (s : List ℕ) → T (is_sentence s) → Reads Alt 0 s (tree_of s)
sentence_reads s h = found_reads s (scanned s) (scan_right s) h
