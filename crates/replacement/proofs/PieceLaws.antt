-- The pieces of a written text, and replacement by its pieces. Assumes nothing.
use Prim.Native.Nat.{ℕ, zero, suc, ◌≤◌, ◌<◌}
use native.Mathlib.Omega.{arith}
use mathlib.Core.Path.{◌≡◌, refl, sym, ap, ap₂, subst, ◌∙◌}
use mathlib.Core.Bool.{Bool, true, false}
use mathlib.Core.List.{List, [], ◌∷◌, ◌++◌}
use lib.Dec.{eqb}
use lib.ListN.{length, drop, length-append}
use lib.Seq.{take-append_seam}
use borrow.Author.Tests.{eqb-true}
use Rattle.replacement.specs.Replaced.{is_lower, Name, is_angle, angled, Replaced, ends, byte, name}
use Rattle.replacement.specs.Pieces.{Piece, own, named, name_length, opened, pieces_from, pieces, filled}
use Rattle.replacement.proofs.NameLaws.{name_ahead, name_found, past}

pub skipped : (s : List ℕ) (k : ℕ) → pieces_from s k ≡ pieces (drop k s)
unfolding pieces_from
skipped [] zero = refl
skipped [] (suc k) = refl
skipped (b ∷ s) zero = refl
skipped (b ∷ s) (suc k) = skipped s k

pub of_byte : (b : ℕ) (s : List ℕ) → eqb b 60 ≡ false → pieces (b ∷ s) ≡ own b ∷ pieces s
unfolding pieces_from
of_byte b s e = rw e

pub at_open : (s : List ℕ) (k : ℕ) → name_length 62 s ≡ k → pieces (60 ∷ s) ≡ opened (pieces_from s) s k
unfolding pieces_from
at_open s k e = ap (opened (pieces_from s) s) e

pub of_name : (n s : List ℕ) → Name n → pieces (angled n s) ≡ named n ∷ pieces s
unfolding is_lower
of_name [] s a = absurd (omega (arith, a.least))
of_name (b ∷ n) s a =
    let x = (b ∷ n) ++ 62 ∷ s in
    at_open x (suc (length n)) (name_ahead 62 refl (b ∷ n) s a)
    ∙ ap₂ (λ (m : List ℕ) (ps : List Piece). named m ∷ ps) (take-append_seam (b ∷ n) (62 ∷ s))
    (skipped x (suc (suc (length n))) ∙ ap pieces (past 62 (b ∷ n) s))

-- what a text begins with
pub data View : List ℕ → Type 0 where
  nothing : View []
  a_byte : {b : ℕ} {s : List ℕ} → eqb b 60 ≡ false → View (b ∷ s)
  a_name : {n : List ℕ} (s : List ℕ) → Name n → View (angled n s)
  malformed : {s : List ℕ} → pieces (60 ∷ s) ≡ own 60 ∷ pieces s → View (60 ∷ s)

pub view : (s : List ℕ) → View s
view [] = nothing
view (b ∷ s) = go (eqb b 60) refl
  where
    open' : (k : ℕ) → name_length 62 s ≡ k → View (60 ∷ s)
    open' zero e = malformed (at_open s zero e)
    open' (suc k) e =
        let f = name_found 62 (omega arith) s k e in
        subst (λ (x : List ℕ). View (60 ∷ x)) (sym f.whole) (a_name (drop (suc (suc k)) s) f.name)

    go : (t : Bool) → eqb b 60 ≡ t → View (b ∷ s)
    go true e = subst (λ (c : ℕ). View (c ∷ s)) (sym (eqb-true b 60 e)) (open' (name_length 62 s) refl)
    go false e = a_byte e

-- no byte of its own is an angle bracket
abbrev pub Plain : List Piece → Type 0
Plain [] = Unit {0}
Plain (own b ∷ ps) = (is_angle b ≡ false) × Plain ps
Plain (named n ∷ ps) = Plain ps

-- P holds of each name
abbrev pub Names : (List ℕ → Type 0) → List Piece → Type 0
Names P [] = Unit {0}
Names P (own b ∷ ps) = Names P ps
Names P (named n ∷ ps) = P n × Names P ps

-- a text whose angle brackets are all names' stands for what its pieces are filled with
module _ (R : List ℕ → List ℕ → Type 0) (v : List ℕ → List ℕ) where
  Fills : List ℕ → Type 0
  Fills s = Plain (pieces s) → Names (λ (n : List ℕ). R n (v n)) (pieces s) → Replaced R s (filled v (pieces s))

  fill_piece : (s : List ℕ) (ps : List Piece) → pieces s ≡ ps
      → (Plain ps → Names (λ (n : List ℕ). R n (v n)) ps → Replaced R s (filled v ps)) → Fills s
  unfolding Fills
  fill_piece s ps e h = subst (λ (qs : List Piece). Plain qs → Names (λ (n : List ℕ). R n (v n)) qs → Replaced R s (filled v qs)) (sym e) h

  fills_on : (s : List ℕ) → View s → ((x : List ℕ) → length x < length s → Fills x) → Fills s
  unfolding Fills pieces_from filled
  fills_on s nothing ih = λ p q. ends
  fills_on _ (a_byte {b = b} {s = s} e) ih =
      fill_piece (b ∷ s) (own b ∷ pieces s) (of_byte b s e) (λ p q. byte p.0 (ih s (omega arith) p.1 q))
  fills_on _ (a_name {n = n} s a) ih =
      let l : length s < length (angled n s) = omega (arith, length-append n (62 ∷ s)) in
      fill_piece (angled n s) (named n ∷ pieces s) (of_name n s a) (λ p q. name a q.0 (ih s l p q.1))
  fills_on _ (malformed {s = s} e) ih =
      fill_piece (60 ∷ s) (own 60 ∷ pieces s) e (λ p q. absurd (let h = p.0 in let n : ◌≡◌ {A = ℕ} 0 1 = cc in omega arith))

  fills : (f : ℕ) (s : List ℕ) → length s ≤ f → Fills s
  fills zero s l = fills_on s (view s) (λ x h. absurd (omega arith))
  fills (suc f) s l = fills_on s (view s) (λ x h. fills f x (omega arith))

  pub replaced_by_pieces : (s : List ℕ) → Plain (pieces s) → Names (λ (n : List ℕ). R n (v n)) (pieces s)
      → Replaced R s (filled v (pieces s))
  unfolding Fills
  replaced_by_pieces s = fills (length s) s (omega arith)
