-- What is said of a line that has passed: its replaced text is one, and is read as the line's tree. Assumes nothing.
use Prim.Native.Nat.{ℕ}
use mathlib.Core.Path.{◌≡◌, sym, ap, subst, ◌∙◌}
use mathlib.Core.Logic.{◌⊎◌, inl, inr, ⊎_elim}
use mathlib.Core.List.Memᴰ
use mathlib.Core.List.{List, [], ◌∷◌, Memᴰ}
use Rattle.expression.specs.Tree.{Tree}
use Rattle.expression.specs.Grammar.{Alt, Reads}
use Rattle.expression.specs.Lang.{Lang}
use Rattle.expression.specs.Unordered.{Ordered}
use Rattle.expression.specs.Stars.{NoDouble}
use Rattle.expression.proofs.OneReading.{one_reading}
use Rattle.replacement.specs.Replaced.{Replaced}
use Rattle.replacement.proofs.Grafted.{filled_is}
use Rattle.replacement.proofs.Ordering.{replaced_ordered}
use Rattle.replacement.proofs.SingleStars.{replaced_no_double}
use Rattle.rule_line.specs.Lines.{Line}
use Rattle.rule_line.specs.LineMeaning.{StandsFor}
use Rattle.rule_line.specs.LineComputed.{text_of}
use Rattle.rule_line.specs.Keeping.{AllRead}
use Rattle.rule_line.proofs.LineNames.{stands_is}
use Rattle.rule_file.specs.FileMeaning.{Passed, start, next}
use Rattle.rule_file.proofs.FileAnswered.{passed_sound}

-- ---- the replaced text of a line is determined
pub replaced_one : {file text : List ℕ} {ls : List Line} → Passed file ls text → {s u v : List ℕ} → Replaced (StandsFor ls) s u
    → Replaced (StandsFor ls) s v → u ≡ v
replaced_one {ls = ls} p q r =
    let d = passed_sound p in
    filled_is (text_of ls) (stands_is d) q ∙ sym (filled_is (text_of ls) (stands_is d) r)

line_read_lem : (ls : List Line) → AllRead ls → (l : Line) → Memᴰ l ls → Reads Alt 0 l.text l.tree
line_read_lem [] a l h = absurd (Memᴰ.not-nil h)
line_read_lem (m ∷ ls) a l h = go (Memᴰ.cases_cons h) (line_read_lem ls a.1 l)
  where
    go : (l ≡ m) ⊎ Memᴰ l ls → (Memᴰ l ls → Reads Alt 0 l.text l.tree) → Reads Alt 0 l.text l.tree
    go (inl e) ih = subst (λ (k : Line). Reads Alt 0 k.text k.tree) (sym e) a.0
    go (inr x) ih = ih x

-- each line's replaced text is read as the line's tree
pub line_reads : {file text : List ℕ} {ls : List Line} → Passed file ls text → (l : Line) → Memᴰ l ls → Reads Alt 0 l.text l.tree
line_reads {ls = ls} p l h = line_read_lem ls (passed_sound p).read l h

-- 02 b): "The accuracy rule covers each named rule by its replaced text": however the replaced text is read, its language is that of the
-- tree whose records are answered
pub line_language : {file text : List ℕ} {ls : List Line} → Passed file ls text → (l : Line) → Memᴰ l ls → (t : Tree) → Reads Alt 0 l.text t
    → Lang t ≡ Lang l.tree
line_language p l h t r = ap Lang (one_reading r (line_reads p l h))

-- what holds of the text of each line, if it does of a replaced text as soon as it does of the lines above
from_above : (P : List ℕ → Type 0) {file text : List ℕ} {ls : List Line} → Passed file ls text
    → ((ls : List Line) (s u : List ℕ) → ((l : Line) → Memᴰ l ls → P l.text) → Replaced (StandsFor ls) s u → Ordered s → NoDouble s → P u)
    → (l : Line) → Memᴰ l ls → P l.text
from_above P start step l h = absurd (Memᴰ.not-nil h)
from_above P (next {ls = ls} {n = n} {s = s} {u = u} {t = t} p a r o d m k) step l h =
    let above : (l : Line) → Memᴰ l ls → P l.text = λ l x. from_above P p step l x in
    ⊎_elim (λ x. above l x)
    (λ x. ⊎_elim
    (λ (e : l ≡ record { name = n; text = u; tree = t }). subst (λ (z : Line). P z.text) (sym e) (step ls s u above r.replaced o d))
    (λ y. absurd (Memᴰ.not-nil y)) (Memᴰ.cases_cons x))
    (Memᴰ.append_cases ls h)

-- 02 e): a line that has passed has no letter out of order, as it is written and as it is replaced
pub line_ordered : {file text : List ℕ} {ls : List Line} → Passed file ls text → (l : Line) → Memᴰ l ls → Ordered l.text
line_ordered p = from_above Ordered p (λ ls s u above r o d.
    replaced_ordered (λ n v (x : StandsFor ls n v). subst Ordered x.text (above x.line x.earlier)) r o)

-- 02 f): nor a star directly after a star
pub line_no_double : {file text : List ℕ} {ls : List Line} → Passed file ls text → (l : Line) → Memᴰ l ls → NoDouble l.text
line_no_double p = from_above NoDouble p (λ ls s u above r o d.
    replaced_no_double (λ n v (x : StandsFor ls n v). subst NoDouble x.text (above x.line x.earlier)) r d)
