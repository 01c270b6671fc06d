-- Whether a replaced text is a sentence is seen from the shape of the written text. Assumes nothing.
use Prim.Native.Nat.{ℕ, ◌+◌, ◌-◌}
use native.Mathlib.Omega.{arith}
use mathlib.Core.Path.{◌≡◌, refl, sym, ap, ap₂, subst, subst₂, ◌∙◌}
use mathlib.Core.Bool.{Bool, true, false, cond}
use mathlib.Core.List.{List, [], ◌∷◌, ◌++◌}
use lib.Dec.{T, eqb}
use lib.ListN.{length}
use Rattle.event.specs.Event.{is_event, Events}
use Rattle.event.proofs.EventLaws.{event_not, reserved_foreign}
use Rattle.event.proofs.Tests.{neither, T_of}
use Rattle.expression.specs.Bytes.{is_leaf}
use Rattle.expression.specs.Tree.{Tree, size, below, specials, epsilon}
use Rattle.expression.specs.Grammar.{Level, Alt, Reads, Sentence, alt_conj, alt_bar, conj_seq, conj_amp, seq_pre, seq_more, pre_post, pre_bang, post_atom}
use Rattle.expression.specs.Grammar.{post_star, atom_letter, atom_any, atom_set, atom_empty, atom_epsilon, atom_group}
use Rattle.expression.specs.Scan.{to, step_after, step_before, step_opened, step_letters, after_step, scan_from, scanned, finds, is_sentence, ScanStep, ScanResult, counted}
use Rattle.expression.specs.declared.Stage.{Stage}
use Rattle.expression.specs.declared.Stage.TheVariants.{Operand, Ended, Opened, Letters}
use Rattle.std.proofs.Common.{None, Err}
use Rattle.expression.proofs.ScanAccepts.{same_counts, from, close_step, scan_reads, sentence_found}
use Rattle.expression.proofs.OneReading.{sentence_reads}
use Rattle.expression.specs.TreeOf.{tree_of}
use Rattle.replacement.specs.Replaced.{is_angle, Replaced, ends, byte, name, AnySentence, Formed}
use Rattle.replacement.specs.Pieces.{Piece, own, named, pieces_from, pieces, shape_of, shape, filled}
use Rattle.replacement.specs.Graft.{more_nodes, more_specials}
use Rattle.replacement.proofs.PieceLaws.{of_byte, of_name, Plain, Names, replaced_by_pieces}

-- ---- a text that is read has no angle bracket
abbrev Bare : List ℕ → Type 0
Bare [] = Unit {0}
Bare (b ∷ u) = (is_angle b ≡ false) × Bare u

bare_append : (u v : List ℕ) → Bare u → Bare v → Bare (u ++ v)
bare_append [] v p q = q
bare_append (b ∷ u) v p q = (p.0, bare_append u v p.1 q)

no_angle : (b : ℕ) → T (is_event b) → is_angle b ≡ false
no_angle b h = rw (event_not b 60 h tt, event_not b 62 h tt)

bare_letters : (u : List ℕ) → Events u → Bare u
bare_letters [] h = tt
bare_letters (b ∷ u) h = (no_angle b h.0, bare_letters u h.1)

bare : {l : Level} {o : ℕ} {u : List ℕ} {t : Tree} → Reads l o u t → Bare u
bare (alt_conj r) = bare r
bare (alt_bar {u = u} {v = v} r q) = bare_append u (124 ∷ v) (bare r) (refl, bare q)
bare (conj_seq r) = bare r
bare (conj_amp {u = u} {v = v} r q) = bare_append u (38 ∷ v) (bare r) (refl, bare q)
bare (seq_pre r) = bare r
bare (seq_more {u = u} {v = v} r q) = bare_append u v (bare r) (bare q)
bare (pre_post r) = bare r
bare (pre_bang r) = (refl, bare r)
bare (post_atom r) = bare r
bare (post_star {u = u} r) = bare_append u (42 ∷ []) (bare r) (refl, tt)
bare (atom_letter {b = b} h) = (no_angle b h, tt)
bare atom_any = (refl, tt)
bare (atom_set u h e) = (refl, bare_append u (93 ∷ []) (bare_letters u e) (refl, tt))
bare atom_empty = (refl, tt)
bare atom_epsilon = (refl, tt)
bare (atom_group {u = u} r) = (refl, bare_append u (41 ∷ []) (bare r) (refl, tt))

plain : (ps : List Piece) → Bare (shape_of ps) → Plain ps
unfolding shape_of
plain [] h = tt
plain (own b ∷ ps) h = (h.0, plain ps h.1)
plain (named n ∷ ps) h = plain ps h.1

-- ---- the scan of both texts goes the same way
-- two scans that find a sentence or none alike: after m and k the first counts as many nodes as the second after n and c, and p more, and q special ones more
data Same (p q m n k c : ℕ) : ScanResult → ScanResult → Type 0 where
  found : {a b x y : ℕ} → a + n ≡ x + m + p → b + c ≡ y + k + q → Same p q m n k c (counted a b) (counted x y)
  broken : {i j : ℕ} → Same p q m n k c (Err i) (Err j)

-- two texts that the scan goes through alike, whatever stands before them
Alike : ℕ → ℕ → List ℕ → List ℕ → Type 0
Alike more special x y = (i j d : ℕ) (a : Stage) (m n k c : ℕ) → Same more special m n k c (from x i d a m k) (from y j d a n c)

-- the same from other numbers of nodes
same_from : (p q e f m n k c m' n' k' c' : ℕ) {r s : ScanResult} → m' + n ≡ n' + m + e → k' + c ≡ c' + k + f
    → Same p q m' n' k' c' r s → Same (e + p) (f + q) m n k c r s
same_from p q e f m n k c m' n' k' c' u v (found {a = a} {b = b} {x = x} {y = y} g h) =
    found {a = a} {b = b} {x = x} {y = y} (omega arith) (omega arith)
same_from p q e f m n k c m' n' k' c' u v broken = broken

no_more : (p q m n k c : ℕ) {r s : ScanResult} → Same (0 + p) (0 + q) m n k c r s → Same p q m n k c r s
no_more p q m n k c {r} {s} h =
    let e : 0 + p ≡ p = omega arith in
    let f : 0 + q ≡ q = omega arith in
    subst₂ (λ (x y : ℕ). Same x y m n k c r s) e f h

same_side : (P : ScanStep → ScanStep → Type 0) (t : Bool) {p q r s : ScanStep} → P p r → P q s → P (cond t p q) (cond t r s)
same_side P true x y = x
same_side P false x y = y

module _ (p q : ℕ) (x y : List ℕ) (h : Alike p q x y) (i j m n k c : ℕ) where
  Ahead : ScanStep → ScanStep → Type 0
  Ahead a b = Same p q m n k c (after_step (scan_from x) i a) (after_step (scan_from y) j b)

  goes : (d : ℕ) (a : Stage) (m' n' k' c' : ℕ) → m' + n ≡ n' + m + 0 → k' + c ≡ c' + k + 0 → Ahead (to d a m' k') (to d a n' c')
  unfolding Ahead Alike
  goes d a m' n' k' c' e f = no_more p q m n k c (same_from p q 0 0 m n k c m' n' k' c' e f (h (i + 1) (j + 1) d a m' n' k' c'))

  stuck : Ahead None None
  unfolding Ahead
  stuck = broken

  before : (b d : ℕ) → Ahead (step_before d m k b) (step_before d n c b)
  before b d =
      same_side Ahead (eqb b 33) (goes d Operand (m + 1) (n + 1) (k + 1) (c + 1) (omega arith) (omega arith))
      (same_side Ahead (eqb b 40) (goes (d + 1) Operand m n k c (omega arith) (omega arith))
      (same_side Ahead (eqb b 91) (goes d Opened (m + 1) (n + 1) k c (omega arith) (omega arith))
      (same_side Ahead (is_leaf b) (goes d Ended (m + 1) (n + 1) k c (omega arith) (omega arith)) stuck)))

  after : (b d : ℕ) → Ahead (step_after d m k b) (step_after d n c b)
  after b d =
      same_side Ahead (eqb b 42) (goes d Ended (m + 1) (n + 1) k c (omega arith) (omega arith))
      (same_side Ahead (eqb b 124) (goes d Operand (m + 1) (n + 1) k c (omega arith) (omega arith))
      (same_side Ahead (eqb b 38) (goes d Operand (m + 1) (n + 1) (k + 1) (c + 1) (omega arith) (omega arith))
      (same_side Ahead (eqb b 41)
      (same_side Ahead (eqb d 0) stuck (goes (d - 1) Ended m n k c (omega arith) (omega arith)))
      (same_side Ahead (eqb b 33) (goes d Operand (m + 2) (n + 2) (k + 1) (c + 1) (omega arith) (omega arith))
      (same_side Ahead (eqb b 40) (goes (d + 1) Operand (m + 1) (n + 1) k c (omega arith) (omega arith))
      (same_side Ahead (eqb b 91) (goes d Opened (m + 2) (n + 2) k c (omega arith) (omega arith))
      (same_side Ahead (is_leaf b) (goes d Ended (m + 2) (n + 2) k c (omega arith) (omega arith)) stuck)))))))

  in_brackets : (b d : ℕ) → Ahead (step_opened d m k b) (step_opened d n c b)
  in_brackets b d = same_side Ahead (is_event b) (goes d Letters m n k c (omega arith) (omega arith)) stuck

  after_letter : (b d : ℕ) → Ahead (step_letters d m k b) (step_letters d n c b)
  after_letter b d = same_side Ahead (eqb b 93) (goes d Ended m n k c (omega arith) (omega arith)) (in_brackets b d)

alike_byte : (p q b : ℕ) (x y : List ℕ) → Alike p q x y → Alike p q (b ∷ x) (b ∷ y)
unfolding Alike scan_from Ahead
alike_byte p q b x y h i j d Operand m n k c = before p q x y h i j m n k c b d
alike_byte p q b x y h i j d Ended m n k c = after p q x y h i j m n k c b d
alike_byte p q b x y h i j d Opened m n k c = in_brackets p q x y h i j m n k c b d
alike_byte p q b x y h i j d Letters m n k c = after_letter p q x y h i j m n k c b d

alike_end : Alike 0 0 [] []
unfolding Alike scan_from
alike_end i j d Operand m n k c = broken
alike_end i j d Opened m n k c = broken
alike_end i j d Letters m n k c = broken
alike_end i j d Ended m n k c = go (eqb d 0)
  where
    go : (t : Bool) → Same 0 0 m n k c (cond t (counted m k) (Err i)) (cond t (counted n c) (Err j))
    go true = found {a = m} {b = k} {x = n} {y = c} (omega arith) (omega arith)
    go false = broken

-- a sentence in parentheses is an operand, as `1` is
grouped : (v x : List ℕ) (t : Tree) → Reads Alt 0 v t → (i d m k : ℕ)
    → from (v ++ 41 ∷ x) (i + 1) (d + 1) Operand m k ≡ from x (i + 1 + length v + 1) d Ended (m + size t) (k + specials t)
grouped v x t r i d m k = scan_reads r (41 ∷ x) (i + 1) (d + 1) m k ∙ close_step x (i + 1 + length v) d (m + size t) (k + specials t)

alike_group : (p q : ℕ) (v x y : List ℕ) (t : Tree) → Reads Alt 0 v t → Alike p q x y
    → Alike (below t + p) (specials t + q) (40 ∷ (v ++ 41 ∷ x)) (49 ∷ y)
unfolding Alike scan_from
alike_group p q v x y t r h i j d Opened m n k c = rw (reserved_foreign 40 tt, reserved_foreign 49 tt) broken
alike_group p q v x y t r h i j d Letters m n k c = rw (reserved_foreign 40 tt, reserved_foreign 49 tt) broken
alike_group p q v x y t r h i j d Ended m n k c =
    subst (λ (z : ScanResult). Same (below t + p) (specials t + q) m n k c z (from y (j + 1) d Ended (n + 2) c)) (sym (grouped v x t r i d (m + 1) k))
    (same_from p q (below t) (specials t) m n k c (m + 1 + size t) (n + 2) (k + specials t) c (omega arith) (omega arith)
    (h (i + 1 + length v + 1) (j + 1) d Ended (m + 1 + size t) (n + 2) (k + specials t) c))
alike_group p q v x y t r h i j d Operand m n k c =
    subst (λ (z : ScanResult). Same (below t + p) (specials t + q) m n k c z (from y (j + 1) d Ended (n + 1) c)) (sym (grouped v x t r i d m k))
    (same_from p q (below t) (specials t) m n k c (m + size t) (n + 1) (k + specials t) c (omega arith) (omega arith)
    (h (i + 1 + length v + 1) (j + 1) d Ended (m + size t) (n + 1) (k + specials t) c))

-- a byte that is no angle bracket is no `<`
pub own_byte : (b : ℕ) → is_angle b ≡ false → eqb b 60 ≡ false
own_byte b e = (neither (eqb b 60) (eqb b 62) e).0

record Aligned (u s : List ℕ) : Type 0 where
  nodes : ℕ
  special : ℕ
  alike : Alike nodes special u s

aligned : {R : List ℕ → List ℕ → Type 0} → ((n v : List ℕ) → R n v → Sentence v) → {s u : List ℕ} → Replaced R s u → Aligned u (shape s)
unfolding pieces_from shape_of
aligned f ends = record { nodes = 0; special = 0; alike = alike_end }
aligned f (byte {b = b} {s = s} {u = u} e r) =
    let h = aligned f r in
    subst (λ (ps : List Piece). Aligned (b ∷ u) (shape_of ps)) (sym (of_byte b s (own_byte b e)))
    (record { nodes = h.nodes; special = h.special; alike = alike_byte h.nodes h.special b u (shape s) h.alike })
aligned f (name {n = n} {v = v} {s = s} {u = u} a w r) =
    let h = aligned f r in
    let q = f n v w in
    subst (λ (ps : List Piece). Aligned (40 ∷ (v ++ 41 ∷ u)) (shape_of ps)) (sym (of_name n s a))
    (record { nodes = _; special = _; alike = alike_group h.nodes h.special v u (shape s) q.0 q.1 h.alike })

found_same : {p q : ℕ} {r s : ScanResult} → Same p q 0 0 0 0 r s → finds r ≡ finds s
found_same (found g h) = refl
found_same broken = refl

-- the replaced text is a sentence exactly if the shape is
pub shape_tells : {R : List ℕ → List ℕ → Type 0} → ((n v : List ℕ) → R n v → Sentence v) → {s u : List ℕ} → Replaced R s u
    → is_sentence u ≡ is_sentence (shape s)
unfolding Alike
shape_tells f r = found_same ((aligned f r).alike 0 0 0 Operand 0 0 0 0)

-- ---- nodes and special nodes add up
filled_alike : (v : List ℕ → List ℕ) (t : List ℕ → Tree) (ps : List Piece) → Names (λ (n : List ℕ). Reads Alt 0 (v n) (t n)) ps
    → Alike (more_nodes t ps) (more_specials t ps) (filled v ps) (shape_of ps)
unfolding filled shape_of more_nodes more_specials
filled_alike v t [] h = alike_end
filled_alike v t (own b ∷ ps) h = alike_byte (more_nodes t ps) (more_specials t ps) b (filled v ps) (shape_of ps) (filled_alike v t ps h)
filled_alike v t (named n ∷ ps) h =
    alike_group (more_nodes t ps) (more_specials t ps) (v n) (filled v ps) (shape_of ps) (t n) h.0 (filled_alike v t ps h.1)

add_up : {p q : ℕ} {r s : ScanResult} → Same p q 0 0 0 0 r s → {m k : ℕ} → s ≡ counted m k → r ≡ counted (m + p) (k + q)
add_up {p} {q} (found {a = a} {b = b} {x = x} {y = y} g h) {m} {k} e =
    let z = same_counts e in
    ap₂ counted (omega arith) (omega arith)
add_up broken e = absurd (let n : ◌≡◌ {A = ℕ} 0 1 = cc in omega arith)

-- the nodes of the replaced text are the shape's, and for each name its tree's but one
pub counts_add : (v : List ℕ → List ℕ) (t : List ℕ → Tree) (ps : List Piece) → Names (λ (n : List ℕ). Reads Alt 0 (v n) (t n)) ps
    → {m k : ℕ} → scanned (shape_of ps) ≡ counted m k
    → scanned (filled v ps) ≡ counted (m + more_nodes t ps) (k + more_specials t ps)
unfolding Alike
counts_add v t ps h e = add_up (filled_alike v t ps h 0 0 0 Operand 0 0 0 0) e

pub is_sentence_lem : {s : List ℕ} → Sentence s → is_sentence s ≡ true
is_sentence_lem x = ap finds (sentence_found x.1)

pub sentence_is : (s : List ℕ) → is_sentence s ≡ true → Sentence s
sentence_is s e = (tree_of s, sentence_reads s (T_of (is_sentence s) e))

all_ones : (ps : List Piece) → Names (λ (n : List ℕ). Sentence (49 ∷ [])) ps
all_ones [] = tt
all_ones (own b ∷ ps) = all_ones ps
all_ones (named n ∷ ps) = ((epsilon 0, one), all_ones ps)
  where
    one : Reads Alt 0 (49 ∷ []) (epsilon 0)
    one = alt_conj (conj_seq (seq_pre (pre_post (post_atom atom_epsilon))))

-- a sentence's angle brackets, if its shape is one, are all names'
pub shape_plain : (s : List ℕ) → Sentence (shape s) → Plain (pieces s)
shape_plain s x = plain (pieces s) (bare x.1)

-- 4, both ways: a text is formed exactly if its shape is a sentence
pub formed_shape : {s : List ℕ} → Formed s → Sentence (shape s)
formed_shape {s} f = sentence_is (shape s) (sym (shape_tells (λ n v x. x) f.replaced) ∙ is_sentence_lem f.sentence)

pub shape_formed : (s : List ℕ) → Sentence (shape s) → Formed s
shape_formed s x =
    let r = replaced_by_pieces AnySentence (λ n. 49 ∷ []) s (shape_plain s x) (all_ones (pieces s)) in
    record {
      text = filled (λ n. 49 ∷ []) (pieces s);
      replaced = r;
      sentence = sentence_is _ (shape_tells (λ n v x. x) r ∙ is_sentence_lem x);
    }
