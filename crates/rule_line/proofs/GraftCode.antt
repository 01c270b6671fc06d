-- What the proofs of the functions that write records cite. Assumes nothing.
use Prim.Native.Nat.{ℕ, zero, suc, ◌+◌, ◌≤◌, ◌<◌}
use native.Mathlib.Omega.{arith}
use native.Mathlib.Numerals.{add-one}
use mathlib.Core.Path.{◌≡◌, refl, sym, ap, ap₂, ◌∙◌}
use mathlib.Core.Bool.{true}
use mathlib.Core.List.{List, [], ◌∷◌, ◌++◌, append_assoc, append-nil}
use lib.ListN.{length, get_or, take, drop, set, length-append, take-append-drop}
use lib.Seq.{sets, take-suc, length-take-le}
use Rattle.std.specs.Prelude.{Option, Some}
use Rattle.expression.specs.Tree.{node_record}
use Rattle.expression.specs.declared.Kind.{Kind}
use Rattle.expression.specs.declared.Node.{Node}
use Rattle.replacement.specs.Graft.{shift_nodes}
use Rattle.rule_line.specs.Offsets.{no_node}
use Rattle.rule_line.specs.Coding.{is_epsilon, rule_named, nodes_for, grown, Room, grafted_nodes, no_nodes, InShape, Graftable}
use Rattle.rule_line.specs.Passed.{PassedLine}
use Rattle.rule_line.specs.declared.PassedRule.{PassedRule}
use Rattle.rule_line.specs.declared.graft.Grafting.{Grafting}
use Rattle.rule_line.specs.declared.shape.Origin.{Origin}
use Rattle.rule_line.specs.declared.shape.Origin.TheVariants.{Own}

-- ---- records written after others
sets_append : (l : List Node) (i : ℕ) (x y : List Node) → sets (sets l i x) (i + length x) y ≡ sets l i (x ++ y)
sets_append l i [] y = let e : i + 0 ≡ i = omega arith in ap (λ (k : ℕ). sets l k y) e
sets_append l i (a ∷ x) y =
    let e : i + suc (length x) ≡ suc i + length x = omega arith in
    ap (λ (k : ℕ). sets (sets (set l i a) (suc i) x) k y) e ∙ sets_append (set l i a) (suc i) x y

grown_twice : (g : Grafting) (x y : List Node) → grown (grown g x) y ≡ grown g (x ++ y)
grown_twice g x y = ap₂ made (sets_append g.nodes g.written x y) (omega (arith, length-append x y))
  where
    made : List Node → ℕ → Grafting
    made ns n = record { nodes = ns; written = n }

-- ---- the records of a rule, moved
abbrev moved : ℕ → Node → List Node
moved d n = node_record (n.offset + d) n.kind

shift_snoc : (d : ℕ) (ns : List Node) (n : Node) → shift_nodes d (ns ++ n ∷ []) ≡ shift_nodes d ns ++ moved d n
unfolding shift_nodes
shift_snoc d [] n = refl
shift_snoc d (m ∷ ns) n = ap (λ (x : List Node). moved d m ++ x) (shift_snoc d ns n)

shift_length : (d : ℕ) (ns : List Node) → length (shift_nodes d ns) ≡ length ns
unfolding shift_nodes
shift_length d [] = refl
shift_length d (n ∷ ns) = ap suc (shift_length d ns)

pub move_start : (g : Grafting) (d : ℕ) → g ≡ grown g (shift_nodes d [])
unfolding shift_nodes
move_start g d = ap₂ made refl (omega arith)
  where
    made : List Node → ℕ → Grafting
    made ns n = record { nodes = ns; written = n }

module _ (g out : Grafting) (items : List Node) (d j : ℕ) (h : j < length items) (e : out ≡ grown g (shift_nodes d (take j items))) where
  pub move_room : g.written + length items ≤ 64 → out.written < 64
  move_room l =
      let n : out.written ≡ g.written + length (shift_nodes d (take j items)) = ap (λ (x : Grafting). x.written) e in
      omega (arith, shift_length d (take j items), length-take-le j items (omega arith))

  pub move_on : (r : Grafting) → r ≡ grown out (moved d (get_or items j no_node)) → r ≡ grown g (shift_nodes d (take (j + 1) items))
  move_on r f =
      let n = get_or items j no_node in
      let s : shift_nodes d (take j items) ++ moved d n ≡ shift_nodes d (take (j + 1) items)
      = sym (ap (λ (k : ℕ). shift_nodes d (take k items)) (add-one j) ∙ ap (shift_nodes d) (take-suc items j no_node h)
      ∙ shift_snoc d (take j items) n) in
      f ∙ ap (λ (x : Grafting). grown x (moved d n)) e ∙ grown_twice g (shift_nodes d (take j items)) (moved d n) ∙ ap (grown g) s

-- ---- one node of the shape
pub room_rule : (g : Grafting) (k : Kind) (p : ℕ) (q : PassedRule) {o : Option PassedRule} → o ≡ Some q → is_epsilon k ≡ true → Room g k o p
    → (g.written + q.records.m ≤ 64) × (p + 1 ≤ 1000000000)
room_rule g k p q e i r =
    let n : nodes_for k (Some q) p ≡ shift_nodes (p + 1) (take q.records.m q.records.nodes) = rw i in
    let l : length (nodes_for k (Some q) p) ≡ q.records.m
    = ap length n ∙ shift_length (p + 1) (take q.records.m q.records.nodes)
    ∙ length-take-le q.records.m q.records.nodes (omega (arith, q.nodes_long, q.records.m_bound)) in
    (omega (arith, r.fits, ap (λ (o : Option PassedRule). length (nodes_for k o p)) e), omega (arith, r.near))

-- ---- the nodes of the shape, one after another
module _ (origins : List Origin) (places : List ℕ) (lines : List PassedLine) where
  abbrev G : List Node → List Node
  G ns = grafted_nodes origins places lines ns

  abbrev at : Node → List Node
  at n = nodes_for n.kind (rule_named lines (get_or origins n.offset Own)) (get_or places n.offset 0)

  grafted_append : (x y : List Node) → G (x ++ y) ≡ G x ++ G y
  unfolding grafted_nodes
  grafted_append [] y = refl
  grafted_append (n ∷ x) y = ap (λ (z : List Node). at n ++ z) (grafted_append x y) ∙ sym (append_assoc (at n) (G x) (G y))

  grafted_one : (n : Node) → G (n ∷ []) ≡ at n
  unfolding grafted_nodes
  grafted_one n = append-nil (at n)

  pub node_start : no_nodes ≡ grown no_nodes (G [])
  unfolding grafted_nodes
  node_start = refl

  module _ (source : List Node) (a : Graftable source origins places lines) (j : ℕ) (h : j < length source) where
    abbrev n : Node
    n = get_or source j no_node

    one_more : G (take (j + 1) source) ≡ G (take j source) ++ at n
    one_more =
        ap G (ap (λ (k : ℕ). take k source) (add-one j) ∙ take-suc source j no_node h)
        ∙ grafted_append (take j source) (n ∷ []) ∙ ap (λ (z : List Node). G (take j source) ++ z) (grafted_one n)

    shorter : length (G (take (j + 1) source)) ≤ length (G source)
    shorter =
        omega (
          arith,
          ap length (ap G (sym (take-append-drop (j + 1) source)) ∙ grafted_append (take (j + 1) source) (drop (j + 1) source)),
          length-append (G (take (j + 1) source)) (G (drop (j + 1) source)),
        )

    pub node_inside : (n.offset < length origins) × (n.offset < length places)
    node_inside = inside_at source a.inside j h
      where
        inside_at : (ns : List Node) → InShape ns origins places → (i : ℕ) → i < length ns
            → ((get_or ns i no_node).offset < length origins) × ((get_or ns i no_node).offset < length places)
        inside_at [] x i l = absurd (omega arith)
        inside_at (n ∷ ns) x zero l = x.0
        inside_at (n ∷ ns) x (suc i) l = inside_at ns x.1 i (omega arith)

    module _ (g : Grafting) (e : g ≡ grown no_nodes (G (take j source))) where
      pub node_room : Room g n.kind (rule_named lines (get_or origins n.offset Own)) (get_or places n.offset 0)
      node_room =
          let w : g.written ≡ 0 + length (G (take j source)) = ap (λ (x : Grafting). x.written) e in
          let o = ap length one_more ∙ length-append (G (take j source)) (at n) in
          record { fits = omega (arith, a.fits, shorter); near = a.near _ }

      pub node_on : (r : Grafting) → r ≡ grown g (at n) → r ≡ grown no_nodes (G (take (j + 1) source))
      node_on r f =
          f ∙ ap (λ (x : Grafting). grown x (at n)) e ∙ grown_twice no_nodes (G (take j source)) (at n) ∙ ap (grown no_nodes) (sym one_more)
