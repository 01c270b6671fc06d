-- The names of the lines above a line. Assumes nothing.
use Prim.Native.Nat.{ℕ, suc, ◌+◌, ◌≤◌, ◌<◌}
use native.Mathlib.Omega.{arith}
use mathlib.Core.Path.{◌≡◌, refl, sym, ap, ap₂, subst, ◌∙◌}
use mathlib.Core.Logic.{◌⊎◌, inl, inr}
use mathlib.Core.Bool.{Bool, true, false, cond, ◌&&◌, true≢false}
use mathlib.Core.List.Memᴰ
use mathlib.Core.List.{List, [], ◌∷◌, ◌++◌, Memᴰ}
use lib.Dec.{eqb}
use lib.ListN.{length, get_or, drop, drop_of_length-le}
use borrow.Author.Tests.{eqb-true, eq-eqb, ne_eqb}
use Rattle.event.proofs.Tails.{rest_at}
use Rattle.event.proofs.Tests.{and_split, T_of, of_T, choose}
use Rattle.expression.specs.Grammar.{Alt, Reads, Sentence}
use Rattle.replacement.specs.Pieces.{Piece, own, named}
use Rattle.replacement.proofs.PieceLaws.{Names}
use Rattle.rule_line.specs.Lines.{Line}
use Rattle.rule_line.specs.LineMeaning.{StandsFor, HasName}
use Rattle.rule_line.specs.LineComputed.{same_text, has, text_of, tree_named, knows}
use Rattle.rule_line.specs.Keeping.{AllRead, Distinct, Sound}

pub unlike : {b : Bool} → b ≡ true → b ≡ false → ⊥
unlike p q = true≢false (sym p ∙ q)

same_is : (x y : List ℕ) → same_text x y ≡ true → x ≡ y
same_is [] [] e = refl
same_is [] (c ∷ y) e = absurd (unlike refl (sym e))
same_is (b ∷ x) [] e = absurd (unlike refl (sym e))
same_is (b ∷ x) (c ∷ y) e =
    let p = and_split (eqb b c) (same_text x y) (T_of (eqb b c && same_text x y) e) in
    ap₂ (λ (n : ℕ) (s : List ℕ). n ∷ s) (eqb-true b c (of_T (eqb b c) p.0)) (same_is x y (of_T (same_text x y) p.1))

same_self : (x : List ℕ) → same_text x x ≡ true
same_self [] = refl
same_self (b ∷ x) = rw (eq-eqb b b refl) (same_self x)

-- ---- two texts byte by byte
pub same_length : (x y : List ℕ) → (length x ≡ length y → ⊥) → same_text x y ≡ false
same_length [] [] h = absurd (h refl)
same_length [] (c ∷ y) h = refl
same_length (b ∷ x) [] h = refl
same_length (b ∷ x) (c ∷ y) h = go (eqb b c) (same_length x y (λ e. h (ap suc e)))
  where
    go : (t : Bool) → same_text x y ≡ false → (t && same_text x y) ≡ false
    go true e = e
    go false e = refl

at_byte : (x y : List ℕ) (i : ℕ) → i < length x → length x ≡ length y
    → same_text (drop i x) (drop i y) ≡ (eqb (get_or x i 0) (get_or y i 0) && same_text (drop (i + 1) x) (drop (i + 1) y))
at_byte x y i h e = ap₂ same_text (rest_at x i h) (rest_at y i (omega arith))

pub same_on : (x y : List ℕ) (i : ℕ) → i < length x → length x ≡ length y → get_or x i 0 ≡ get_or y i 0
    → same_text (drop i x) (drop i y) ≡ same_text (drop (i + 1) x) (drop (i + 1) y)
same_on x y i h e f = at_byte x y i h e ∙ rw (eq-eqb (get_or x i 0) (get_or y i 0) f)

pub same_stops : (x y : List ℕ) (i : ℕ) → i < length x → length x ≡ length y → (get_or x i 0 ≡ get_or y i 0 → ⊥)
    → same_text (drop i x) (drop i y) ≡ false
same_stops x y i h e f = at_byte x y i h e ∙ rw (ne_eqb (get_or x i 0) (get_or y i 0) f)

pub same_ends : (x y : List ℕ) (i : ℕ) → length x ≤ i → length x ≡ length y → same_text (drop i x) (drop i y) ≡ true
same_ends x y i h e = let g : length y ≤ i = omega arith in ap₂ same_text (drop_of_length-le x h) (drop_of_length-le y g)

-- ---- `has` finds a name exactly where a line has it
mem_has : (ls : List Line) (l : Line) → Memᴰ l ls → has ls l.name ≡ true
unfolding has
mem_has [] l h = absurd (Memᴰ.not-nil h)
mem_has (m ∷ ls) l h = go (Memᴰ.cases_cons h) (mem_has ls l)
  where
    go : (l ≡ m) ⊎ Memᴰ l ls → (Memᴰ l ls → has ls l.name ≡ true) → cond (same_text m.name l.name) true (has ls l.name) ≡ true
    go (inl e) ih = rw (ap (λ (k : Line). same_text m.name k.name) e ∙ same_self m.name)
    go (inr x) ih = choose (λ (b : Bool). b ≡ true) (same_text m.name l.name) (λ e. refl) (λ e. ih x)

pub has_name : (ls : List Line) (n : List ℕ) → HasName ls n → has ls n ≡ true
has_name ls n h = subst (λ (x : List ℕ). has ls x ≡ true) h.name (mem_has ls h.line h.earlier)

stands_later : (m : Line) (ls : List Line) (n v : List ℕ) → StandsFor ls n v → StandsFor (m ∷ ls) n v
stands_later m ls n v s = record { line = s.line; earlier = Memᴰ.tail s.earlier; name = s.name; text = s.text }

pub has_stands : (ls : List Line) (n : List ℕ) → has ls n ≡ true → StandsFor ls n (text_of ls n)
unfolding has text_of
has_stands [] n e = absurd (unlike e refl)
has_stands (m ∷ ls) n e = go (same_text m.name n) refl e (has_stands ls n)
  where
    go : (b : Bool) → same_text m.name n ≡ b → cond b true (has ls n) ≡ true → (has ls n ≡ true → StandsFor ls n (text_of ls n))
        → StandsFor (m ∷ ls) n (cond b m.text (text_of ls n))
    go true s e ih = record { line = m; earlier = Memᴰ.head refl; name = same_is m.name n s; text = refl }
    go false s e ih = stands_later m ls n (text_of ls n) (ih e)

pub stands_has : {ls : List Line} {n v : List ℕ} → StandsFor ls n v → HasName ls n
stands_has s = record { line = s.line; earlier = s.earlier; name = s.name }

pub lacks : (ls : List Line) (n : List ℕ) → (HasName ls n → ⊥) → has ls n ≡ false
lacks ls n h = go (has ls n) refl
  where
    go : (b : Bool) → has ls n ≡ b → b ≡ false
    go true e = absurd (h (stands_has (has_stands ls n e)))
    go false e = refl

-- ---- lines that have passed: their texts are read as their trees, and no two have one name
mem_text : (ls : List Line) → Distinct ls → (l : Line) → Memᴰ l ls → l.text ≡ text_of ls l.name
unfolding text_of
mem_text [] d l h = absurd (Memᴰ.not-nil h)
mem_text (m ∷ ls) d l h = go (Memᴰ.cases_cons h) (mem_text ls d.1 l)
  where
    go : (l ≡ m) ⊎ Memᴰ l ls → (Memᴰ l ls → l.text ≡ text_of ls l.name)
        → l.text ≡ cond (same_text m.name l.name) m.text (text_of ls l.name)
    go (inl e) ih = rw (ap (λ (k : Line). same_text m.name k.name) e ∙ same_self m.name) (ap (λ (k : Line). k.text) e)
    go (inr x) ih =
        choose (λ (y : List ℕ). l.text ≡ y) (same_text m.name l.name)
        (λ e. absurd (unlike (mem_has ls l x) (ap (has ls) (sym (same_is m.name l.name e)) ∙ d.0))) (λ e. ih x)

-- what a name stands for is one text
pub stands_is : {ls : List Line} → Sound ls → (n v : List ℕ) → StandsFor ls n v → v ≡ text_of ls n
stands_is {ls} d n v s = sym s.text ∙ mem_text ls d.distinct s.line s.earlier ∙ ap (text_of ls) s.name

named_reads : (ls : List Line) → AllRead ls → (n : List ℕ) → has ls n ≡ true → Reads Alt 0 (text_of ls n) (tree_named ls n)
unfolding has text_of tree_named
named_reads [] a n e = absurd (unlike e refl)
named_reads (m ∷ ls) a n e = go (same_text m.name n) e (named_reads ls a.1 n)
  where
    go : (b : Bool) → cond b true (has ls n) ≡ true → (has ls n ≡ true → Reads Alt 0 (text_of ls n) (tree_named ls n))
        → Reads Alt 0 (cond b m.text (text_of ls n)) (cond b m.tree (tree_named ls n))
    go true e ih = a.0
    go false e ih = ih e

pub stands_sentence : {ls : List Line} → Sound ls → (n v : List ℕ) → StandsFor ls n v → Sentence v
stands_sentence {ls} d n v s = (
  tree_named ls n,
  subst (λ (x : List ℕ). Reads Alt 0 x (tree_named ls n)) (sym (stands_is d n v s))
      (named_reads ls d.read n (has_name ls n (stands_has s))),
)

-- ---- the names of a text
pub knows_all : (ls : List Line) (P : List ℕ → Type 0) → ((n : List ℕ) → has ls n ≡ true → P n) → (ps : List Piece) → knows ls ps ≡ true → Names P ps
unfolding knows
knows_all ls P f [] e = tt
knows_all ls P f (own b ∷ ps) e = knows_all ls P f ps e
knows_all ls P f (named n ∷ ps) e =
    let p = and_split (has ls n) (knows ls ps) (T_of (has ls n && knows ls ps) e) in
    (f n (of_T (has ls n) p.0), knows_all ls P f ps (of_T (knows ls ps) p.1))

pub known_reads : {ls : List Line} → Sound ls → (ps : List Piece) → knows ls ps ≡ true
    → Names (λ (n : List ℕ). Reads Alt 0 (text_of ls n) (tree_named ls n)) ps
known_reads {ls} d ps e = knows_all ls (λ (n : List ℕ). Reads Alt 0 (text_of ls n) (tree_named ls n)) (λ n h. named_reads ls d.read n h) ps e

-- ---- one line more
has_snoc : (ls : List Line) (l : Line) (n : List ℕ) → has ls n ≡ false → same_text l.name n ≡ false → has (ls ++ l ∷ []) n ≡ false
unfolding has
has_snoc [] l n e f = rw f
has_snoc (m ∷ ls) l n e f = go (same_text m.name n) e (λ h. has_snoc ls l n h f)
  where
    go : (b : Bool) → cond b true (has ls n) ≡ false → (has ls n ≡ false → has (ls ++ l ∷ []) n ≡ false) → cond b true (has (ls ++ l ∷ []) n) ≡ false
    go true e ih = e
    go false e ih = ih e

differs : (x y : List ℕ) → (x ≡ y → ⊥) → same_text x y ≡ false
differs x y h = go (same_text x y) refl
  where
    go : (b : Bool) → same_text x y ≡ b → b ≡ false
    go true e = absurd (h (same_is x y e))
    go false e = refl

distinct_snoc : (ls : List Line) (l : Line) → Distinct ls → has ls l.name ≡ false → Distinct (ls ++ l ∷ [])
unfolding has
distinct_snoc [] l d h = (refl, tt)
distinct_snoc (m ∷ ls) l d h =
    let apart : l.name ≡ m.name → ⊥ = λ e. unlike (mem_has (m ∷ ls) m (Memᴰ.head refl)) (ap (has (m ∷ ls)) (sym e) ∙ h) in (
      has_snoc ls l m.name d.0 (differs l.name m.name apart),
      distinct_snoc ls l d.1 (rest (same_text m.name l.name) h),
    )
  where
    rest : (b : Bool) → cond b true (has ls l.name) ≡ false → has ls l.name ≡ false
    rest true e = absurd (unlike refl e)
    rest false e = e

read_snoc : (ls : List Line) (l : Line) → AllRead ls → Reads Alt 0 l.text l.tree → AllRead (ls ++ l ∷ [])
read_snoc [] l a r = (r, tt)
read_snoc (m ∷ ls) l a r = (a.0, read_snoc ls l a.1 r)

pub sound_none : Sound []
sound_none = record { read = tt; distinct = tt }

pub sound_more : {ls : List Line} (l : Line) → Sound ls → (HasName ls l.name → ⊥) → Reads Alt 0 l.text l.tree → Sound (ls ++ l ∷ [])
sound_more {ls} l d h r =
    record { read = read_snoc ls l d.read r; distinct = distinct_snoc ls l d.distinct (lacks ls l.name h) }
