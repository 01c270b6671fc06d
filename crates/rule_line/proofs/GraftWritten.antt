-- What `graft` writes are the records of the reading of the replaced text. Assumes nothing.
use Prim.Native.Nat.{ℕ, zero, suc, ◌+◌, ◌≤◌, ◌<◌}
use native.Mathlib.Omega.{arith}
use mathlib.Core.Path.{◌≡◌, refl, sym, ap, ap₂, subst, ◌∙◌}
use mathlib.Core.Bool.{true}
use mathlib.Core.List.{List, [], ◌∷◌, ◌++◌, map}
use lib.ListN.{length, get_or, length-append}
use Rattle.std.specs.Prelude.{Option}
use Rattle.event.proofs.Tests.{T_of}
use Rattle.expression.specs.Tree.{Tree, records, node_record}
use Rattle.expression.specs.Grammar.{Level, Reads, alt_conj, alt_bar, conj_seq, conj_amp, seq_pre, seq_more, pre_post, pre_bang, post_atom}
use Rattle.expression.specs.Grammar.{post_star, atom_letter, atom_any, atom_set, atom_empty, atom_epsilon, atom_group}
use Rattle.expression.specs.declared.Kind.{Kind}
use Rattle.expression.specs.declared.Kind.TheVariants.{Empty, Epsilon, Letter, Union, Intersection, Concatenation, Complement, Star}
use Rattle.expression.specs.declared.Node.{Node}
use Rattle.expression.specs.Scan.{is_sentence}
use Rattle.expression.specs.TreeOf.{tree_of}
use Rattle.expression.proofs.Texts.{nonempty}
use Rattle.expression.proofs.OneReading.{sentence_reads}
use Rattle.replacement.specs.Pieces.{Piece, own, named, pieces, shape, shape_of}
use Rattle.replacement.specs.Graft.{graft_kind, graft_nodes, shift_nodes, place, operand, operand_at}
use Rattle.replacement.proofs.GraftRecords.{shift_records}
use Rattle.replacement.proofs.PieceLaws.{Names}
use Rattle.rule_line.specs.Lines.{Line}
use Rattle.rule_line.specs.LineComputed.{has, knows, text_of, tree_named, replaced_by}
use Rattle.rule_line.specs.Coding.{origin_of, rule_named, nodes_for, grafted_nodes}
use Rattle.rule_line.specs.Passed.{PassedLine}
use Rattle.rule_line.specs.declared.shape.Origin.{Origin}
use Rattle.rule_line.specs.declared.shape.Origin.TheVariants.{Own}
use Rattle.rule_line.specs.declared.PassedRule.{PassedRule}
use Rattle.rule_line.specs.Keeping.{Sound}
use Rattle.rule_line.proofs.LineNames.{knows_all}
use Rattle.rule_line.proofs.ByName.{Told}
use Rattle.rule_line.proofs.ByShape.{records_by_shape}

-- ---- every node's offset is that of a byte of the text
abbrev pub Below : ℕ → List Node → Type 0
Below n [] = Unit {0}
Below n (x ∷ ns) = (x.offset < n) × Below n ns

below_append : (n : ℕ) (x y : List Node) → Below n x → Below n y → Below n (x ++ y)
below_append n [] y p q = q
below_append n (a ∷ x) y p q = (p.0, below_append n x y p.1 q)

below_more : (m n : ℕ) → m ≤ n → (x : List Node) → Below m x → Below n x
below_more m n h [] p = tt
below_more m n h (a ∷ x) p = (omega (arith, p.0), below_more m n h x p.1)

two_sides : (n o : ℕ) (k : Kind) (x y : List Node) → Below n x → Below n y → o < n → Below n (x ++ y ++ node_record o k)
two_sides n o k x y p q h = below_append n (x ++ y) (node_record o k) (below_append n x y p q) (h, tt)

pub offsets_below : {l : Level} {o : ℕ} {u : List ℕ} {t : Tree} → Reads l o u t → Below (o + length u) (records t)
unfolding records
offsets_below (alt_conj r) = offsets_below r
offsets_below {o = o} (alt_bar {u = u} {v = v} {t = t} {r = s} r q) =
    let e = length-append u (124 ∷ v) in
    let n = o + length (u ++ 124 ∷ v) in
    two_sides n (o + length u) Union (records t) (records s) (below_more (o + length u) n (omega arith) (records t) (offsets_below r))
    (below_more (o + length u + 1 + length v) n (omega arith) (records s) (offsets_below q)) (omega arith)
offsets_below (conj_seq r) = offsets_below r
offsets_below {o = o} (conj_amp {u = u} {v = v} {t = t} {r = s} r q) =
    let e = length-append u (38 ∷ v) in
    let n = o + length (u ++ 38 ∷ v) in
    two_sides n (o + length u) Intersection (records t) (records s) (below_more (o + length u) n (omega arith) (records t) (offsets_below r))
    (below_more (o + length u + 1 + length v) n (omega arith) (records s) (offsets_below q)) (omega arith)
offsets_below (seq_pre r) = offsets_below r
offsets_below {o = o} (seq_more {u = u} {v = v} {t = t} {r = s} r q) =
    let e = length-append u v in
    let n = o + length (u ++ v) in
    let h = nonempty q in
    two_sides n (o + length u) Concatenation (records t) (records s) (below_more (o + length u) n (omega arith) (records t) (offsets_below r))
    (below_more (o + length u + length v) n (omega arith) (records s) (offsets_below q)) (omega arith)
offsets_below (pre_post r) = offsets_below r
offsets_below {o = o} (pre_bang {u = u} {t = t} r) =
    let n = o + suc (length u) in
    below_append n (records t) (node_record o Complement) (below_more (o + 1 + length u) n (omega arith) (records t) (offsets_below r)) (omega arith, tt)
offsets_below (post_atom r) = offsets_below r
offsets_below {o = o} (post_star {u = u} {t = t} r) =
    let e = length-append u (42 ∷ []) in
    let n = o + length (u ++ 42 ∷ []) in
    below_append n (records t) (node_record (o + length u) Star) (below_more (o + length u) n (omega arith) (records t) (offsets_below r)) (omega arith, tt)
offsets_below (atom_letter h) = (omega arith, tt)
offsets_below atom_any = (omega arith, tt)
offsets_below (atom_set u h e) = (omega arith, tt)
offsets_below atom_empty = (omega arith, tt)
offsets_below atom_epsilon = (omega arith, tt)
offsets_below {o = o} (atom_group {u = u} {t = t} r) =
    let e = length-append u (41 ∷ []) in
    below_more (o + 1 + length u) (o + suc (length (u ++ 41 ∷ []))) (omega arith) (records t) (offsets_below r)

-- ---- a node by its origin and place
module _ (lines : List PassedLine) (v : List ℕ → List ℕ) (t : List ℕ → Tree) where
  abbrev Holds : List ℕ → Type 0
  Holds n = Told lines v t n

  node_is : (k : Kind) (o : ℕ) (F : ℕ → ℕ) (p : Piece) → Names Holds (p ∷ [])
      → nodes_for k (rule_named lines (origin_of lines p)) (F o) ≡ graft_kind F (λ (j : ℕ). records (operand v t (F j) p)) o k
  unfolding records
  node_is Empty o F (own b) h = refl
  node_is Epsilon o F (own b) h = refl
  node_is (Letter c) o F (own b) h = refl
  node_is Union o F (own b) h = refl
  node_is Intersection o F (own b) h = refl
  node_is Concatenation o F (own b) h = refl
  node_is Complement o F (own b) h = refl
  node_is Star o F (own b) h = refl
  node_is Empty o F (named n) h = ap (λ (q : Option PassedRule). nodes_for Empty q (F o)) h.0.at
  node_is Epsilon o F (named n) h =
      ap (λ (q : Option PassedRule). nodes_for Epsilon q (F o)) h.0.at ∙ ap (shift_nodes (F o + 1)) h.0.written
      ∙ sym (shift_records (F o + 1) (t n))
  node_is (Letter c) o F (named n) h = ap (λ (q : Option PassedRule). nodes_for (Letter c) q (F o)) h.0.at
  node_is Union o F (named n) h = ap (λ (q : Option PassedRule). nodes_for Union q (F o)) h.0.at
  node_is Intersection o F (named n) h = ap (λ (q : Option PassedRule). nodes_for Intersection q (F o)) h.0.at
  node_is Concatenation o F (named n) h = ap (λ (q : Option PassedRule). nodes_for Concatenation q (F o)) h.0.at
  node_is Complement o F (named n) h = ap (λ (q : Option PassedRule). nodes_for Complement q (F o)) h.0.at
  node_is Star o F (named n) h = ap (λ (q : Option PassedRule). nodes_for Star q (F o)) h.0.at

  -- the piece at a byte of the shape
  record PieceAt (ps : List Piece) (o : ℕ) : Type 0 where
    piece : Piece
    operand_is : (q : ℕ) → operand_at v t q ps o ≡ operand v t q piece
    origin_is : get_or (map (origin_of lines) ps) o Own ≡ origin_of lines piece
    holds : Names Holds (piece ∷ [])

  this : (p : Piece) (ps : List Piece) → Names Holds (p ∷ ps) → Names Holds (p ∷ [])
  this (own b) ps h = tt
  this (named n) ps h = (h.0, tt)

  others : (p : Piece) (ps : List Piece) → Names Holds (p ∷ ps) → Names Holds ps
  others (own b) ps h = h
  others (named n) ps h = h.1

  piece_at : (ps : List Piece) (o : ℕ) → o < length ps → Names Holds ps → PieceAt ps o
  unfolding operand_at
  piece_at [] o l h = absurd (omega arith)
  piece_at (p ∷ ps) zero l h = record { piece = p; operand_is = λ q. refl; origin_is = refl; holds = this p ps h }
  piece_at (p ∷ ps) (suc o) l h =
      let r = piece_at ps o (omega arith) (others p ps h) in
      record { piece = r.piece; operand_is = r.operand_is; origin_is = r.origin_is; holds = r.holds }

  kind_at : (F : ℕ → ℕ) (g h : ℕ → List Node) (o : ℕ) (k : Kind) → g o ≡ h o → graft_kind F g o k ≡ graft_kind F h o k
  kind_at F g h o Empty e = refl
  kind_at F g h o Epsilon e = e
  kind_at F g h o (Letter c) e = refl
  kind_at F g h o Union e = refl
  kind_at F g h o Intersection e = refl
  kind_at F g h o Concatenation e = refl
  kind_at F g h o Complement e = refl
  kind_at F g h o Star e = refl

  module _ (ps : List Piece) (origins : List Origin) (places : List ℕ) (h : Names Holds ps) (originated : origins ≡ map (origin_of lines) ps)
      (placed : (o : ℕ) → o < length ps → get_or places o 0 ≡ place v t ps o) where
    abbrev F : ℕ → ℕ
    F o = place v t ps o

    abbrev G : ℕ → List Node
    G o = records (operand_at v t (place v t ps o) ps o)

    node_at : (k : Kind) (o : ℕ) → o < length ps
        → nodes_for k (rule_named lines (get_or origins o Own)) (get_or places o 0) ≡ graft_kind F G o k
    node_at k o l =
        let r = piece_at ps o l h in
        ap₂ (λ (x : Origin) (y : ℕ). nodes_for k (rule_named lines x) y)
        (ap (λ (os : List Origin). get_or os o Own) originated ∙ r.origin_is) (placed o l)
        ∙ node_is k o F r.piece r.holds
        ∙ kind_at F (λ (j : ℕ). records (operand v t (F j) r.piece)) G o k (ap records (sym (r.operand_is (F o))))

    pub nodes_are : (ns : List Node) → Below (length ps) ns → grafted_nodes origins places lines ns ≡ graft_nodes F G ns
    unfolding grafted_nodes graft_nodes
    nodes_are [] b = refl
    nodes_are (n ∷ ns) b = ap₂ (λ (x y : List Node). x ++ y) (node_at n.kind n.offset b.0) (nodes_are ns b.1)

-- ---- what the code writes
pub shape_length : (ps : List Piece) → length (shape_of ps) ≡ length ps
unfolding shape_of
shape_length [] = refl
shape_length (own b ∷ ps) = ap suc (shape_length ps)
shape_length (named n ∷ ps) = ap suc (shape_length ps)

pub origins_length : (lines : List PassedLine) (ps : List Piece) → length (map (origin_of lines) ps) ≡ length ps
origins_length lines [] = refl
origins_length lines (p ∷ ps) = ap suc (origins_length lines ps)

-- from the origins that `cut` writes and the places of the pieces, `graft` writes the records of the replaced text's reading
pub graft_writes : (lines : List PassedLine) (ls : List Line) (s places : List ℕ) (origins : List Origin) → Sound ls
    → is_sentence (shape s) ≡ true → knows ls (pieces s) ≡ true → origins ≡ map (origin_of lines) (pieces s)
    → ((x : List ℕ) → has ls x ≡ true → Told lines (text_of ls) (tree_named ls) x)
    → ((o : ℕ) → o < length (pieces s) → get_or places o 0 ≡ place (text_of ls) (tree_named ls) (pieces s) o)
    → grafted_nodes origins places lines (records (tree_of (shape s))) ≡ records (tree_of (replaced_by ls s))
graft_writes lines ls s places origins d y k originated told placed =
    let r = sentence_reads (shape s) (T_of (is_sentence (shape s)) y) in
    let b : Below (length (pieces s)) (records (tree_of (shape s)))
    = subst (λ (i : ℕ). Below i (records (tree_of (shape s)))) (omega (arith, shape_length (pieces s))) (offsets_below r) in
    nodes_are lines (text_of ls) (tree_named ls) (pieces s) origins places (knows_all ls (Told lines (text_of ls) (tree_named ls)) told (pieces s) k)
    originated placed (records (tree_of (shape s))) b
    ∙ sym (records_by_shape ls s d y k)
