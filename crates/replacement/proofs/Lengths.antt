-- How many nodes a text can have, and how long a replaced text can be: at most 255 bytes for each line so far and each of its nodes.
-- Assumes nothing.
use Prim.Native.Nat.{ℕ, zero, suc, ◌+◌, ◌*◌, ◌≤◌, ◌<◌}
use native.Mathlib.Omega.{arith}
use native.Mathlib.Nat.{mul-le-mul_left, mul-add}
use mathlib.Core.Path.{◌≡◌, refl, sym, subst}
use mathlib.Core.Bool.{cond}
use mathlib.Core.List.{List, [], ◌∷◌, ◌++◌}
use lib.Dec.{eqb}
use lib.ListN.{length, length-append}
use Rattle.event.specs.Event.{Events}
use Rattle.event.proofs.EventLaws.{event_not}
use Rattle.event.proofs.Tests.{choose}
use Rattle.expression.specs.Tree.{Tree, empty, epsilon, letter, union, intersection, concatenation, complement, star, size, specials}
use Rattle.expression.specs.Grammar.{Level, Alt, Reads, alt_conj, alt_bar, conj_seq, conj_amp, seq_pre, seq_more, pre_post, pre_bang, post_atom}
use Rattle.expression.specs.Grammar.{post_star, atom_letter, atom_any, atom_set, atom_empty, atom_epsilon, atom_group}
use Rattle.replacement.specs.Replaced.{angled}
use Rattle.replacement.specs.Pieces.{Piece, own, named, pieces_from, pieces, shape_of}
use Rattle.replacement.specs.Graft.{total, more_nodes}
use Rattle.replacement.proofs.PieceLaws.{of_byte, of_name, View, nothing, a_byte, a_name, malformed, view, Names}

-- ---- the bytes `1` of a text are not more than its nodes
one : ℕ → ℕ
one b = cond (eqb b 49) 1 0

one_at_most : (b : ℕ) → one b ≤ 1
unfolding one
one_at_most b = choose (λ (n : ℕ). n ≤ 1) (eqb b 49) (λ e. omega arith) (λ e. omega arith)

ones : List ℕ → ℕ
ones [] = 0
ones (b ∷ u) = one b + ones u

ones_append : (u v : List ℕ) → ones (u ++ v) ≡ ones u + ones v
unfolding ones
ones_append [] v = omega arith
ones_append (b ∷ u) v = omega (arith, ones_append u v)

ones_letters : (u : List ℕ) → Events u → ones u ≡ 0
unfolding ones one
ones_letters [] h = refl
ones_letters (b ∷ u) h = rw (event_not b 49 h.0 tt) (omega (arith, ones_letters u h.1))

ones_nodes : {l : Level} {o : ℕ} {u : List ℕ} {t : Tree} → Reads l o u t → ones u ≤ size t
unfolding ones one
ones_nodes (alt_conj r) = ones_nodes r
ones_nodes (alt_bar {u = u} {v = v} r q) = omega (arith, ones_nodes r, ones_nodes q, ones_append u (124 ∷ v))
ones_nodes (conj_seq r) = ones_nodes r
ones_nodes (conj_amp {u = u} {v = v} r q) = omega (arith, ones_nodes r, ones_nodes q, ones_append u (38 ∷ v))
ones_nodes (seq_pre r) = ones_nodes r
ones_nodes (seq_more {u = u} {v = v} r q) = omega (arith, ones_nodes r, ones_nodes q, ones_append u v)
ones_nodes (pre_post r) = ones_nodes r
ones_nodes (pre_bang r) = omega (arith, ones_nodes r)
ones_nodes (post_atom r) = ones_nodes r
ones_nodes (post_star {u = u} r) = omega (arith, ones_nodes r, ones_append u (42 ∷ []))
ones_nodes (atom_letter {b = b} h) = omega (arith, one_at_most b)
ones_nodes atom_any = omega arith
ones_nodes (atom_set u h e) = omega (arith, ones_letters u e, ones_append u (93 ∷ []))
ones_nodes atom_empty = omega arith
ones_nodes atom_epsilon = omega arith
ones_nodes (atom_group {u = u} r) = omega (arith, ones_nodes r, ones_append u (41 ∷ []))

-- ---- a text has at most two nodes for each byte
pub nodes_most : {l : Level} {o : ℕ} {u : List ℕ} {t : Tree} → Reads l o u t → size t < 2 * length u
nodes_most (alt_conj r) = nodes_most r
nodes_most (alt_bar {u = u} {v = v} r q) = omega (arith, nodes_most r, nodes_most q, length-append u (124 ∷ v))
nodes_most (conj_seq r) = nodes_most r
nodes_most (conj_amp {u = u} {v = v} r q) = omega (arith, nodes_most r, nodes_most q, length-append u (38 ∷ v))
nodes_most (seq_pre r) = nodes_most r
nodes_most (seq_more {u = u} {v = v} r q) = omega (arith, nodes_most r, nodes_most q, length-append u v)
nodes_most (pre_post r) = nodes_most r
nodes_most (pre_bang r) = omega (arith, nodes_most r)
nodes_most (post_atom r) = nodes_most r
nodes_most (post_star {u = u} r) = omega (arith, nodes_most r, length-append u (42 ∷ []))
nodes_most (atom_letter h) = omega arith
nodes_most atom_any = omega arith
nodes_most (atom_set u h e) = omega (arith, length-append u (93 ∷ []))
nodes_most atom_empty = omega arith
nodes_most atom_epsilon = omega arith
nodes_most (atom_group {u = u} r) = omega (arith, nodes_most r, length-append u (41 ∷ []))

pub specials_most : (t : Tree) → specials t ≤ size t
specials_most (empty o) = omega arith
specials_most (epsilon o) = omega arith
specials_most (letter o c) = omega arith
specials_most (union o a b) = omega (arith, specials_most a, specials_most b)
specials_most (intersection o a b) = omega (arith, specials_most a, specials_most b)
specials_most (concatenation o a b) = omega (arith, specials_most a, specials_most b)
specials_most (complement o a) = omega (arith, specials_most a)
specials_most (star o a) = omega (arith, specials_most a)

module _ (v : List ℕ → List ℕ) (t : List ℕ → Tree) where
  -- the bytes, and the nodes, that the names stand for
  lengths : List Piece → ℕ
  lengths [] = 0
  lengths (own b ∷ ps) = lengths ps
  lengths (named n ∷ ps) = length (v n) + lengths ps

  sizes : List Piece → ℕ
  sizes [] = 0
  sizes (own b ∷ ps) = sizes ps
  sizes (named n ∷ ps) = size (t n) + sizes ps

  sizes_more : (ps : List Piece) → sizes ps ≤ ones (shape_of ps) + more_nodes t ps
  unfolding sizes ones one shape_of more_nodes
  sizes_more [] = omega arith
  sizes_more (own b ∷ ps) = omega (arith, sizes_more ps)
  sizes_more (named n ∷ ps) = omega (arith, sizes_more ps)

  -- a name's brackets and letters are longer than its parentheses
  step : (s : List ℕ) → View s → ((x : List ℕ) → length x < length s → total v t (pieces x) ≤ length x + lengths (pieces x))
      → total v t (pieces s) ≤ length s + lengths (pieces s)
  unfolding total lengths pieces_from
  step s nothing ih = omega arith
  step _ (a_byte {b = b} {s = s} e) ih =
      subst (λ (ps : List Piece). total v t ps ≤ suc (length s) + lengths ps) (sym (of_byte b s e)) (omega (arith, ih s (omega arith)))
  step _ (a_name {n = n} s a) ih =
      let l = length-append n (62 ∷ s) in
      let h = ih s (omega arith) in
      let w = a.least in
      subst (λ (ps : List Piece). total v t ps ≤ length (angled n s) + lengths ps) (sym (of_name n s a)) (omega arith)
  step _ (malformed {s = s} e) ih =
      subst (λ (ps : List Piece). total v t ps ≤ suc (length s) + lengths ps) (sym e) (omega (arith, ih s (omega arith)))

  shorter : (f : ℕ) (s : List ℕ) → length s ≤ f → total v t (pieces s) ≤ length s + lengths (pieces s)
  shorter zero s l = step s (view s) (λ x h. absurd (omega arith))
  shorter (suc f) s l = step s (view s) (λ x h. shorter f x (omega arith))

  lengths_most : (c : ℕ) (ps : List Piece) → Names (λ (n : List ℕ). length (v n) ≤ c * size (t n)) ps → lengths ps ≤ c * sizes ps
  unfolding lengths sizes
  lengths_most c [] h = omega arith
  lengths_most c (own b ∷ ps) h = lengths_most c ps h
  lengths_most c (named n ∷ ps) h = let i = lengths_most c ps h.1 in let g = h.0 in rw (mul-add c (size (t n)) (sizes ps)) (omega arith)

  -- where each name's text has at most c bytes for each of its nodes, the replaced text has at most c + 255 for each of its own
  pub replaced_length : (c : ℕ) (s : List ℕ) {t0 : Tree} → length s ≤ 255 → Reads Alt 0 (shape_of (pieces s)) t0
      → Names (λ (n : List ℕ). length (v n) ≤ c * size (t n)) (pieces s)
      → total v t (pieces s) ≤ (c + 255) * (size t0 + more_nodes t (pieces s))
  replaced_length c s {t0} h r a =
      let ps = pieces s in
      let m = size t0 + more_nodes t ps in
      let p = shorter (length s) s (omega arith) in
      let q = lengths_most c ps a in
      let z : sizes ps ≤ m = omega (arith, sizes_more ps, ones_nodes r) in
      let w : c * sizes ps ≤ c * m = mul-le-mul_left c z in
      let e : (c + 255) * m ≡ c * m + 255 * m = omega arith in
      omega arith
