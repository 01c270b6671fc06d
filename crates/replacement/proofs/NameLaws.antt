-- Names are found where they stand. Assumes nothing.
use Prim.Native.Nat.{ℕ, zero, suc, ◌≤◌, ◌<◌}
use native.Mathlib.Omega.{arith}
use mathlib.Core.Path.{◌≡◌, refl, sym, ap, subst, ◌∙◌}
use mathlib.Core.Bool.{Bool, true, false, cond, ◌&&◌}
use mathlib.Core.List.{List, [], ◌∷◌, ◌++◌}
use lib.Dec.{leb, eqb}
use lib.ListN.{length, get_or, take, drop, take-append-drop}
use lib.Seq.{drop-cons, get_or-append_seam, length-take-le}
use borrow.Author.Tests.{leb-true, le-leb, lt-leb, eqb-true, eq-eqb, ne_eqb}
use Rattle.event.specs.Leading.{leading}
use Rattle.event.proofs.Tests.{T_of, of_T, choose}
use Rattle.event.proofs.LeadingLaws.{leading_found, leading_up_to}
use Rattle.replacement.specs.Replaced.{is_lower, Lowers, Name}
use Rattle.replacement.specs.Pieces.{is_named, name_length}

leads : (c : ℕ) → is_lower c ≡ false → (n s : List ℕ) → Lowers n → leading is_lower (n ++ c ∷ s) ≡ length n
leads c e n s h = leading_up_to is_lower Lowers (λ b n h. (of_T (is_lower b) h.0, h.1)) c e n s h

-- a name is found before the byte that ends it
pub name_ahead : (c : ℕ) → is_lower c ≡ false → (n s : List ℕ) → Name n → name_length c (n ++ c ∷ s) ≡ length n
unfolding name_length
name_ahead c e n s a =
    rw (leads c e n s a.letters, le-leb 1 (length n) a.least, le-leb (length n) 12 a.most, get_or-append_seam n c s 0, eq-eqb c c refl)

-- what is found is a name, and the byte follows
pub record NameFound (c : ℕ) (s : List ℕ) (k : ℕ) : Type 0 where
  pub name : Name (take k s)
  pub whole : s ≡ take k s ++ c ∷ drop (suc k) s

lowers_take : (k : ℕ) (s : List ℕ) → k ≤ length s → ((i : ℕ) → i < k → is_lower (get_or s i 0) ≡ true) → Lowers (take k s)
lowers_take zero s l h = tt
lowers_take (suc k) [] l h = tt
lowers_take (suc k) (b ∷ s) l h =
    (T_of (is_lower b) (h 0 (omega arith)), lowers_take k s (omega arith) (λ i g. h (suc i) (omega arith)))

pub both : (a b : Bool) → (a && b) ≡ true → (a ≡ true) × (b ≡ true)
both true b e = (refl, e)
both false b e = absurd (let n : ◌≡◌ {A = ℕ} 0 1 = cc in omega arith)

inside : (s : List ℕ) (k c : ℕ) → 0 < c → get_or s k 0 ≡ c → k < length s
inside [] k c h e = absurd (omega arith)
inside (b ∷ s) zero c h e = omega arith
inside (b ∷ s) (suc k) c h e = let x = inside s k c h e in omega arith

pub name_found : (c : ℕ) → 0 < c → (s : List ℕ) (k : ℕ) → name_length c s ≡ suc k → NameFound c s (suc k)
unfolding name_length
name_found c p s k e =
    let j = leading is_lower s in
    choose (λ (n : ℕ). n ≡ suc k → NameFound c s (suc k)) (is_named c s j) (λ t g. go j g t (leading_found is_lower s).before (leading_found is_lower s).within)
    (λ t g. absurd (omega arith)) e
  where
    go : (j : ℕ) → j ≡ suc k → is_named c s j ≡ true → ((i : ℕ) → i < j → is_lower (get_or s i 0) ≡ true) → j ≤ length s → NameFound c s (suc k)
    go j g t h w =
        let x = both (leb 1 j) (leb j 12 && eqb (get_or s j 0) c) t in
        let y = both (leb j 12) (eqb (get_or s j 0) c) x.1 in
        let l = leb-true j 12 y.0 in
        let z = eqb-true (get_or s j 0) c y.1 in
        let i = inside s j c p z in
        let m = length-take-le j s w in
        subst (λ (n : ℕ). NameFound c s n) g (record {
          name = record { least = omega arith; most = omega arith; letters = lowers_take j s w h };
          whole = sym (take-append-drop j s) ∙ ap (λ (r : List ℕ). take j s ++ r) (drop-cons s j 0 i ∙ ap (λ (b : ℕ). b ∷ drop (suc j) s) z);
        })

-- past a text and the byte after it
pub past : (c : ℕ) (n s : List ℕ) → drop (suc (length n)) (n ++ c ∷ s) ≡ s
past c [] s = refl
past c (b ∷ n) s = past c n s

-- ---- the tests of the code
module _ (c : ℕ) (s : List ℕ) (k : ℕ) (e : k ≡ leading is_lower s) where
  tested : name_length c s ≡ cond (is_named c s k) k 0
  unfolding name_length
  tested = subst (λ (j : ℕ). cond (is_named c s j) j 0 ≡ cond (is_named c s k) k 0) e refl

  pub no_letters : k < 1 → 0 ≡ name_length c s
  no_letters h = sym (tested ∙ rw (lt-leb 1 k h))

  pub many_letters : 12 < k → 0 ≡ name_length c s
  many_letters h = sym (tested ∙ rw (le-leb 1 k (omega arith), lt-leb k 12 h))

  pub name_ends : 1 ≤ k → k ≤ 12 → get_or s k 0 ≡ c → k ≡ name_length c s
  name_ends l h g = sym (tested ∙ rw (le-leb 1 k l, le-leb k 12 h, eq-eqb (get_or s k 0) c g))

  pub name_goes_on : 1 ≤ k → k ≤ 12 → (get_or s k 0 ≡ c → ⊥) → 0 ≡ name_length c s
  name_goes_on l h g = sym (tested ∙ rw (le-leb 1 k l, le-leb k 12 h, ne_eqb (get_or s k 0) c g))
