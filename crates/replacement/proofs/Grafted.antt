-- The reading of a replaced text is grafted from the reading of the shape. Assumes nothing.
use Prim.Native.Nat.{ℕ, ◌+◌}
use native.Mathlib.Omega.{arith}
use mathlib.Core.Path.{◌≡◌, refl, sym, ap, ap₂, subst, ◌∙◌}
use mathlib.Core.List.{List, [], ◌∷◌, ◌++◌, append_assoc}
use lib.ListN.{length, length-append}
use lib.Seq.{take-append_seam, take-append-add}
use Rattle.expression.specs.Tree.{Tree}
use Rattle.expression.specs.Grammar.{Alt, Atom, Reads, atom_group}
use Rattle.replacement.specs.Replaced.{Replaced, ends, byte, name}
use Rattle.replacement.specs.Pieces.{Piece, own, named, pieces_from, pieces, shape_of, filled}
use Rattle.replacement.specs.Graft.{width, total, place, operand, operand_at, grafted}
use Rattle.replacement.proofs.Carried.{moved, Put, done, same, other, carry, shifted}
use Rattle.replacement.proofs.PieceLaws.{of_byte, of_name, Names}
use Rattle.replacement.proofs.ShapeLaws.{own_byte}

-- the replaced text is determined by what the names stand for
pub filled_is : {R : List ℕ → List ℕ → Type 0} (v : List ℕ → List ℕ) → ((n x : List ℕ) → R n x → x ≡ v n) → {s u : List ℕ}
    → Replaced R s u → u ≡ filled v (pieces s)
unfolding pieces_from filled
filled_is v f ends = refl
filled_is v f (byte {b = b} {s = s} {u = u} e r) =
    ap (λ (x : List ℕ). b ∷ x) (filled_is v f r) ∙ ap (filled v) (sym (of_byte b s (own_byte b e)))
filled_is v f (name {n = n} {v = x} {s = s} {u = u} a w r) =
    ap₂ (λ (y z : List ℕ). 40 ∷ (y ++ 41 ∷ z)) (f n x w) (filled_is v f r) ∙ ap (filled v) (sym (of_name n s a))

module _ (v : List ℕ → List ℕ) (t : List ℕ → Tree) where
  total_append : (x y : List Piece) → total v t (x ++ y) ≡ total v t x + total v t y
  unfolding total
  total_append [] y = omega arith
  total_append (p ∷ x) y = omega (arith, total_append x y)

  place_next : (x : List Piece) (p : Piece) (y : List Piece)
      → place v t (x ++ p ∷ y) (length x + 1) ≡ place v t (x ++ p ∷ y) (length x) + width v t p
  unfolding total
  place_next x p y =
      ap (total v t) (take-append-add x (p ∷ y) 1)
      ∙ total_append x (p ∷ [])
      ∙ ap₂ (λ (a b : ℕ). a + b) (ap (total v t) (sym (take-append_seam x (p ∷ y)))) (omega arith)

  operand_at_lem : (q : ℕ) (x : List Piece) (p : Piece) (y : List Piece) → operand_at v t q (x ++ p ∷ y) (length x) ≡ operand v t q p
  unfolding operand_at
  operand_at_lem q [] p y = refl
  operand_at_lem q (o ∷ x) p y = operand_at_lem q x p y

  -- the length of the replaced text is where its end is placed
  pub filled_length : (ps : List Piece) → length (filled v ps) ≡ total v t ps
  unfolding filled total
  filled_length [] = refl
  filled_length (own b ∷ ps) = omega (arith, filled_length ps)
  filled_length (named n ∷ ps) = omega (arith, filled_length ps, length-append (v n) (41 ∷ filled v ps))

  module _ (whole : List Piece) where
    abbrev F : ℕ → ℕ
    F o = place v t whole o

    abbrev G : ℕ → Tree
    G o = operand_at v t (place v t whole o) whole o

    next : (x : List Piece) (p : Piece) (ps : List Piece) → whole ≡ x ++ p ∷ ps → F (length x + 1) ≡ F (length x) + width v t p
    next x p ps e =
        subst (λ (a : List Piece). place v t a (length x + 1) ≡ place v t a (length x) + width v t p) (sym e) (place_next x p ps)

    here : (x : List Piece) (p : Piece) (ps : List Piece) → whole ≡ x ++ p ∷ ps → G (length x) ≡ operand v t (F (length x)) p
    here x p ps e =
        ap (λ (a : List Piece). operand_at v t (F (length x)) a (length x)) e ∙ operand_at_lem (F (length x)) x p ps

    later : (x : List Piece) (p : Piece) (ps : List Piece) {u w : List ℕ} → Put F G (length (x ++ p ∷ [])) u w → Put F G (length x + 1) u w
    later x p ps {u} {w} h = let e : length (x ++ p ∷ []) ≡ length x + 1 = omega (arith, length-append x (p ∷ [])) in
        subst (λ (n : ℕ). Put F G n u w) e h

    -- a name's text in parentheses
    group : (x : List Piece) (n : List ℕ) (ps : List Piece) → whole ≡ x ++ named n ∷ ps → Reads Alt 0 (v n) (t n)
        → Reads Atom (F (length x)) (40 ∷ (v n ++ 41 ∷ [])) (G (length x))
    group x n ps e r = moved refl refl (sym (here x (named n) ps e)) (atom_group (shifted (F (length x) + 1) r))

    puts : (x ps : List Piece) → whole ≡ x ++ ps → Names (λ (n : List ℕ). Reads Alt 0 (v n) (t n)) ps
        → Put F G (length x) (shape_of ps) (filled v ps)
    unfolding shape_of filled
    puts x [] e h = done
    puts x (own b ∷ ps) e h =
        let z : whole ≡ (x ++ own b ∷ []) ++ ps = e ∙ sym (append_assoc x (own b ∷ []) ps) in
        same (next x (own b) ps e) (here x (own b) ps e) (later x (own b) ps (puts (x ++ own b ∷ []) ps z h))
    puts x (named n ∷ ps) e h =
        let z : whole ≡ (x ++ named n ∷ []) ++ ps = e ∙ sym (append_assoc x (named n ∷ []) ps) in
        let l : F (length x + 1) ≡ F (length x) + length (40 ∷ (v n ++ 41 ∷ []))
        = next x (named n) ps e ∙ ap (λ (m : ℕ). F (length x) + m) (wide n) in
        subst (λ (y : List ℕ). Put F G (length x) (49 ∷ shape_of ps) (40 ∷ y)) (append_assoc (v n) (41 ∷ []) (filled v ps))
        (other (group x n ps e h.0) l (later x (named n) ps (puts (x ++ named n ∷ []) ps z h.1)))
      where
        wide : (n : List ℕ) → length (v n) + 2 ≡ length (40 ∷ (v n ++ 41 ∷ []))
        wide n = omega (arith, length-append (v n) (41 ∷ []))

  -- the reading of the replaced text is grafted from the reading of the shape
  pub grafts : (ps : List Piece) {s : Tree} → Names (λ (n : List ℕ). Reads Alt 0 (v n) (t n)) ps → Reads Alt 0 (shape_of ps) s
      → Reads Alt 0 (filled v ps) (grafted v t ps s)
  unfolding total
  grafts ps h r = carry (F ps) (G ps) r (puts ps [] ps refl h)
