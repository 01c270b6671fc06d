-- What the code keeps of the lines above, and what it finds by a name. Assumes nothing.
use Prim.Native.Nat.{ℕ, zero, suc, ◌+◌}
use native.Mathlib.Omega.{arith}
use mathlib.Core.Path.{◌≡◌, refl, sym, ap, ap₂, ◌∙◌}
use mathlib.Core.Bool.{Bool, true, false, cond, ◌&&◌}
use mathlib.Core.List.{List, [], ◌∷◌, map}
use lib.Dec.{ltb}
use lib.ListN.{length, take}
use borrow.Author.Tests.{ltb-true, ltb-false, lt-ltb, le-ltb}
use Rattle.std.specs.Prelude.{Option, Some, None, is_some, not, slice_get}
use Rattle.std.specs.List.{AllZip, list_all, prefix_len}
use Rattle.expression.specs.Tree.{Tree, specials, size, records}
use Rattle.replacement.specs.Pieces.{Piece, own, named}
use Rattle.replacement.specs.Graft.{total, place, more_nodes, more_specials}
use Rattle.replacement.proofs.PieceLaws.{Names}
use Rattle.rule_line.specs.Lines.{Line}
use Rattle.rule_line.specs.LineComputed.{same_text, has, text_of, tree_named, knows}
use Rattle.rule_line.specs.Coding.{find_line, origin_found, origin_of, is_known, rule_at, rule_named}
use Rattle.rule_line.specs.Keeping.{Keeps, Each}
use Rattle.rule_line.specs.Summing.{summed_one, summed, no_sums}
use Rattle.rule_line.specs.Passed.{PassedLine}
use Rattle.rule_line.specs.declared.PassedRule.{PassedRule}
use Rattle.rule_line.specs.declared.shape.Origin.{Origin}
use Rattle.rule_line.specs.declared.sums.Sums.{Sums}
use Rattle.rule_line.proofs.LineNames.{unlike}

-- ---- the line that a name is found at
one_later : (i n : ℕ) → ltb i n ≡ ltb (1 + i) (suc n)
one_later i n = go (ltb i n) refl
  where
    go : (b : Bool) → ltb i n ≡ b → b ≡ ltb (1 + i) (suc n)
    go true e = sym (lt-ltb (1 + i) (suc n) (omega (arith, ltb-true i n e)))
    go false e = sym (le-ltb (1 + i) (suc n) (omega (arith, ltb-false i n e)))

module _ (n : List ℕ) where
  abbrev index : List PassedLine → ℕ
  index lines = prefix_len (λ (x : PassedLine). not (same_text x.name.now n)) lines

  has_from : (lines : List PassedLine) (ls : List Line) → AllZip Keeps lines ls → has ls n ≡ ltb (index lines) (length lines)
  unfolding has
  has_from [] [] e = refl
  has_from [] (l ∷ ls) e = absurd e
  has_from (x ∷ lines) [] e = absurd e
  has_from (x ∷ lines) (l ∷ ls) e = go (same_text x.name.now n) (same_text l.name n) (ap (λ (y : List ℕ). same_text y n) e.0.name) (has_from lines ls e.1)
    where
      go : (a b : Bool) → a ≡ b → has ls n ≡ ltb (index lines) (length lines)
          → cond b true (has ls n) ≡ ltb (cond (not a) (1 + index lines) 0) (suc (length lines))
      go true true p h = sym (lt-ltb 0 (suc (length lines)) (omega arith))
      go true false p h = absurd (unlike refl p)
      go false true p h = absurd (unlike p refl)
      go false false p h = h ∙ one_later (index lines) (length lines)

  -- the line, and what is kept of it
  pub record Found (Q : Line → Type 0) (lines : List PassedLine) (ls : List Line) (o : Option PassedLine) : Type 0 where
    pub line : Line
    pub kept : PassedLine
    pub at : o ≡ Some kept
    pub keeps : Keeps kept line
    pub holds : Q line
    pub text : text_of ls n ≡ line.text
    pub tree : tree_named ls n ≡ line.tree

  found_from : (Q : Line → Type 0) (lines : List PassedLine) (ls : List Line) → AllZip Keeps lines ls → Each Q ls → has ls n ≡ true
      → Found Q lines ls (slice_get lines (index lines))
  unfolding has text_of tree_named
  found_from Q [] [] e q h = absurd (unlike h refl)
  found_from Q [] (l ∷ ls) e q h = absurd e
  found_from Q (x ∷ lines) [] e q h = absurd e
  found_from Q (x ∷ lines) (l ∷ ls) e q h =
      go (same_text x.name.now n) (same_text l.name n) (ap (λ (y : List ℕ). same_text y n) e.0.name) refl h (found_from Q lines ls e.1 q.1)
    where
      go : (a b : Bool) → a ≡ b → same_text l.name n ≡ b → cond b true (has ls n) ≡ true
          → (has ls n ≡ true → Found Q lines ls (slice_get lines (index lines)))
          → Found Q (x ∷ lines) (l ∷ ls) (slice_get (x ∷ lines) (cond (not a) (1 + index lines) 0))
      go true true p r f ih = record { line = l; kept = x; at = refl; keeps = e.0; holds = q.0; text = rw r; tree = rw r }
      go true false p r f ih = absurd (unlike refl p)
      go false true p r f ih = absurd (unlike p refl)
      go false false p r f ih =
          let k = ih f in
          let z : 1 + index lines ≡ suc (index lines) = omega arith in
          record { line = k.line; kept = k.kept; at = ap (slice_get (x ∷ lines)) z ∙ k.at; keeps = k.keeps; holds = k.holds; text = rw r k.text; tree = rw r k.tree }

module _ (lines : List PassedLine) (ls : List Line) (e : AllZip Keeps lines ls) where
  -- a name is found exactly if a line has it
  pub has_found : (n : List ℕ) → has ls n ≡ is_some (find_line lines n)
  has_found n = go (ltb (index n lines) (length lines)) (has_from n lines ls e)
    where
      go : (b : Bool) → has ls n ≡ b → has ls n ≡ is_some (cond b (Some (index n lines)) None)
      go true h = h
      go false h = h

  known_name : (n : List ℕ) → is_known (origin_found (find_line lines n)) ≡ has ls n
  known_name n = go (find_line lines n) ∙ sym (has_found n)
    where
      go : (o : Option ℕ) → is_known (origin_found o) ≡ is_some o
      go None = refl
      go (Some i) = refl

  -- all names are known exactly if all origins are lines
  pub known_is : (ps : List Piece) → list_all is_known (map (origin_of lines) ps) ≡ knows ls ps
  unfolding knows
  known_is [] = refl
  known_is (own b ∷ ps) = known_is ps
  known_is (named n ∷ ps) = ap₂ (λ (x y : Bool). x && y) (known_name n) (known_is ps)

  pub found : (Q : Line → Type 0) → Each Q ls → (n : List ℕ) → has ls n ≡ true → Found n Q lines ls (slice_get lines (index n lines))
  found Q q n h = found_from n Q lines ls e q h

  pub rule_found : (n : List ℕ) → has ls n ≡ true → rule_named lines (origin_of lines (named n)) ≡ rule_at (slice_get lines (index n lines))
  rule_found n h = rw (sym (has_from n lines ls e) ∙ h)

-- ---- the sums
module _ (lines : List PassedLine) (v : List ℕ → List ℕ) (t : List ℕ → Tree) where
  -- a name's rule is that of what it stands for
  pub record Told (n : List ℕ) : Type 0 where
    pub rule : PassedRule
    pub at : rule_named lines (origin_of lines (named n)) ≡ Some rule
    pub long : rule.text_length ≡ length (v n)
    pub nodes : rule.records.m ≡ size (t n)
    pub special : rule.records.k ≡ specials (t n)
    pub written : take rule.records.m rule.records.nodes ≡ records (t n)

  pub summed_is : (ps : List Piece) → Names Told ps → (w : Sums)
      → ((summed lines w (map (origin_of lines) ps)).length ≡ w.length + total v t ps)
      × ((summed lines w (map (origin_of lines) ps)).nodes ≡ w.nodes + more_nodes t ps)
      × ((summed lines w (map (origin_of lines) ps)).specials ≡ w.specials + more_specials t ps)
  unfolding summed total more_nodes more_specials
  summed_is [] h w = (omega arith, omega arith, omega arith)
  summed_is (own b ∷ ps) h w =
      let i = summed_is ps h (summed_one w None) in
      (omega (arith, i.0), omega (arith, i.1), omega (arith, i.2))
  summed_is (named n ∷ ps) h w =
      let k = h.0 in
      let i = summed_is ps h.1 (summed_one w (Some k.rule)) in
      let z : summed lines w (map (origin_of lines) (named n ∷ ps)) ≡ summed lines (summed_one w (Some k.rule)) (map (origin_of lines) ps)
      = ap (λ (q : Option PassedRule). summed lines (summed_one w q) (map (origin_of lines) ps)) k.at in (
        omega (arith, ap (λ (s : Sums). s.length) z, i.0, k.long),
        omega (arith, ap (λ (s : Sums). s.nodes) z, i.1, k.nodes),
        omega (arith, ap (λ (s : Sums). s.specials) z, i.2, k.special),
      )

  first_names : (ps : List Piece) (j : ℕ) → Names Told ps → Names Told (take j ps)
  first_names ps zero h = tt
  first_names [] (suc j) h = tt
  first_names (own b ∷ ps) (suc j) h = first_names ps j h
  first_names (named n ∷ ps) (suc j) h = (h.0, first_names ps j h.1)

  take_origins : (ps : List Piece) (j : ℕ) → take j (map (origin_of lines) ps) ≡ map (origin_of lines) (take j ps)
  take_origins ps zero = refl
  take_origins [] (suc j) = refl
  take_origins (p ∷ ps) (suc j) = ap (λ (x : List Origin). origin_of lines p ∷ x) (take_origins ps j)

  -- each place that `sum_pieces` writes is the place of the piece
  pub place_is : (ps : List Piece) → Names Told ps → (j : ℕ) → (summed lines no_sums (take j (map (origin_of lines) ps))).length ≡ place v t ps j
  place_is ps h j =
      ap (λ (x : List Origin). (summed lines no_sums x).length) (take_origins ps j)
      ∙ (summed_is (take j ps) (first_names ps j h) no_sums).0 ∙ omega arith
