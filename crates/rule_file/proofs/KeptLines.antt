-- What is kept of the lines that have passed, and of one line more. Assumes nothing.
use Prim.Native.Nat.{ℕ, suc, ◌+◌, ◌-◌, ◌*◌, ◌≤◌, ◌<◌}
use native.Mathlib.Omega.{arith}
use native.Mathlib.Nat.{mul-le-mul_right}
use mathlib.Core.Path.{◌≡◌, refl, sym, ap, ap₂, subst, ◌∙◌}
use mathlib.Core.List.{List, [], ◌∷◌, ◌++◌, map, map-append, append_assoc}
use lib.ListN.{length, get_or, take, set, length-append, length-map}
use lib.Seq.{take-suc, length-take-le, set-append_seam}
use native.Mathlib.Numerals.{add-one}
use Rattle.std.proofs.lemmas.List.{map-set}
use Rattle.expression.specs.declared.records.Records.{Records}
use Rattle.std.specs.List.{AllZip}
use Rattle.expression.specs.Tree.{size}
use Rattle.rule_line.specs.Lines.{Line, LineNodes, line_nodes, told_line, unused_line, unused_lines}
use Rattle.rule_line.specs.Keeping.{Keeps, Each, Bounded, Kept}
use Rattle.rule_line.specs.Passed.{PassedLine}
use Rattle.rule_line.proofs.LineNames.{unlike, has_name, sound_none, sound_more}
use Rattle.rule_file.specs.Kept.{kept_nodes}
use Rattle.rule_file.specs.Turns.{Passes}
use Rattle.rule_file.specs.declared.turn.Turn.{Turn}

keeps_snoc : (xs : List PassedLine) (ls : List Line) {x : PassedLine} {l : Line} → AllZip Keeps xs ls → Keeps x l → AllZip Keeps (xs ++ x ∷ []) (ls ++ l ∷ [])
keeps_snoc [] [] e k = (k, tt)
keeps_snoc [] (m ∷ ls) e k = absurd e
keeps_snoc (y ∷ xs) [] e k = absurd e
keeps_snoc (y ∷ xs) (m ∷ ls) e k = (e.0, keeps_snoc xs ls e.1 k)

pub kept_length : (xs : List PassedLine) (ls : List Line) → AllZip Keeps xs ls → length xs ≡ length ls
kept_length [] [] e = refl
kept_length [] (m ∷ ls) e = absurd e
kept_length (y ∷ xs) [] e = absurd e
kept_length (y ∷ xs) (m ∷ ls) e = ap suc (kept_length xs ls e.1)

-- what is answered of the lines
pub kept_answered : (xs : List PassedLine) (ls : List Line) → AllZip Keeps xs ls → map kept_nodes xs ≡ map (λ (l : Line). line_nodes l.tree) ls
kept_answered [] [] e = refl
kept_answered [] (m ∷ ls) e = absurd e
kept_answered (y ∷ xs) [] e = absurd e
kept_answered (y ∷ xs) (m ∷ ls) e = ap₂ (λ (a : LineNodes) (more : List LineNodes). a ∷ more) e.0.stored (kept_answered xs ls e.1)

bounded_more : (r : ℕ) (ls : List Line) (l : Line) → Each (Bounded r) ls → Bounded (r + 1) l → Each (Bounded (r + 1)) (ls ++ l ∷ [])
bounded_more r [] l e b = (b, tt)
bounded_more r (m ∷ ls) l e b =
    let s = size m.tree in
    let g : 255 * r ≤ 255 * (r + 1) = omega arith in
    let h : 255 * r * s ≤ 255 * (r + 1) * s = mul-le-mul_right s g in
    ((e.0.0, omega (arith, e.0.1)), bounded_more r ls l e.1 b)

pub kept_none : Kept [] []
kept_none = record { each = tt; few = omega arith; bounded = tt; sound = sound_none }

pub kept_more : {xs : List PassedLine} {text : List ℕ} {ls : List Line} {t : Turn} → Kept xs ls → (p : Passes text ls t)
    → Kept (xs ++ t.line ∷ []) (ls ++ p.line ∷ [])
kept_more {xs} {text} {ls} {t} k p =
    let l = p.line in
    let n : length (ls ++ l ∷ []) ≡ length ls + 1 = length-append ls (l ∷ []) in
    let y : suc (length ls) ≡ length ls + 1 = omega arith in
    let bound : length l.text ≤ 255 * (length ls + 1) * size l.tree = subst (λ (n : ℕ). length l.text ≤ 255 * n * size l.tree) y p.bound in
    record {
      each = keeps_snoc xs ls k.each p.keeps;
      few = omega (arith, p.few);
      bounded = subst (λ (n : ℕ). Each (Bounded n) (ls ++ l ∷ [])) (sym n) (bounded_more (length ls) ls l k.bounded (p.most, bound));
      sound = sound_more l k.sound (λ x. unlike (has_name ls l.name x) p.free) p.reads;
    }

-- ---- one line's records more are answered
pub records_on : (rs : List Records) (lines : List PassedLine) (i : ℕ) (x : PassedLine) → x ≡ get_or lines i x → i < length lines → length lines ≤ 16
    → map told_line rs ≡ map kept_nodes (take i lines) ++ unused_lines (16 - i)
    → map told_line (set rs i x.rule.records) ≡ map kept_nodes (take (i + 1) lines) ++ unused_lines (16 - (i + 1))
records_on rs lines i x e h l g =
    let k = 16 - (i + 1) in
    let z : 16 - i ≡ suc k = omega arith in
    let done = map kept_nodes (take i lines) in
    let n : length done ≡ i = simp length-map (length-take-le i lines (omega arith)) in
    let more : map kept_nodes (take (i + 1) lines) ≡ done ++ kept_nodes x ∷ []
    = ap (λ (j : ℕ). map kept_nodes (take j lines)) (add-one i) ∙ ap (map kept_nodes) (take-suc lines i x h)
    ∙ map-append kept_nodes (take i lines) (get_or lines i x ∷ []) ∙ ap (λ (y : PassedLine). done ++ kept_nodes y ∷ []) (sym e) in
    map-set told_line rs i x.rule.records ∙ ap (λ (y : List LineNodes). set y i (kept_nodes x)) (g ∙ ap (λ (j : ℕ). done ++ unused_lines j) z)
    ∙ ap (λ (j : ℕ). set (done ++ unused_lines (suc k)) j (kept_nodes x)) (sym n)
    ∙ set-append_seam done unused_line (unused_lines k) (kept_nodes x)
    ∙ sym (ap (λ (y : List LineNodes). y ++ unused_lines k) more ∙ append_assoc done (kept_nodes x ∷ []) (unused_lines k))
