-- If the grammar reads a text with operands `1`, it reads the text in which some of them are other atoms, as the grafted tree.
-- Assumes nothing.
use Prim.Native.Nat.{ℕ, suc, ◌+◌}
use native.Mathlib.Omega.{arith}
use mathlib.Core.Path.{◌≡◌, refl, sym, ap, ap₂, subst, subst₂, ◌∙◌}
use mathlib.Core.List.{List, [], ◌∷◌, ◌++◌, append_assoc, append-nil}
use lib.ListN.{length, length-append}
use Rattle.event.specs.Event.{Events}
use Rattle.event.proofs.EventLaws.{event_apart}
use Rattle.expression.specs.Tree.{Tree, epsilon, union, intersection, concatenation, star}
use Rattle.expression.specs.Grammar.{Level, Atom, Reads, alt_conj, alt_bar, conj_seq, conj_amp, seq_pre, seq_more}
use Rattle.expression.specs.Grammar.{pre_post, pre_bang, post_atom, post_star, atom_letter, atom_any, atom_set, atom_empty, atom_epsilon, atom_group}
use Rattle.replacement.specs.Graft.{graft, shift}

-- the same reading, at an offset, of a text and as a tree that are written another way
pub moved : {l : Level} {o p : ℕ} {u v : List ℕ} {t r : Tree} → o ≡ p → u ≡ v → t ≡ r → Reads l o u t → Reads l p v r
moved {l} {o} {p} {u} {v} {t} {r} e f g x =
    subst (λ (s : Tree). Reads l p v s) g (subst₂ (λ (n : ℕ) (s : List ℕ). Reads l n s t) e f x)

module _ (f : ℕ → ℕ) (g : ℕ → Tree) where
  -- the text u, from the offset j on, becomes the text w, from the offset f j on
  pub data Put : ℕ → List ℕ → List ℕ → Type 0 where
    done : {j : ℕ} → Put j [] []
    same : {j b : ℕ} {u w : List ℕ} → f (j + 1) ≡ f j + 1 → g j ≡ epsilon (f j) → Put (j + 1) u w → Put j (b ∷ u) (b ∷ w)
    other : {j : ℕ} {v u w : List ℕ} → Reads Atom (f j) v (g j) → f (j + 1) ≡ f j + length v → Put (j + 1) u w → Put j (49 ∷ u) (v ++ w)

  record Cut (j : ℕ) (u x w : List ℕ) : Type 0 where
    left : List ℕ
    right : List ℕ
    whole : w ≡ left ++ right
    first : Put j u left
    second : Put (j + length u) x right
    reach : f (j + length u) ≡ f j + length left

  at : {j k : ℕ} {u v w : List ℕ} → j ≡ k → u ≡ v → Put j u w → Put k v w
  at {w = w} e h p = subst₂ (λ (n : ℕ) (s : List ℕ). Put n s w) e h p

  cut : {j : ℕ} {y w : List ℕ} → Put j y w → (u x : List ℕ) → y ≡ u ++ x → Cut j u x w
  cut {j} {y} {w} p [] x e =
      let z : j ≡ j + 0 = omega arith in
      record { left = []; right = w; whole = refl; first = done; second = at z e p; reach = ap f (sym z) ∙ omega arith }
  cut {j} done (b ∷ u) x e = absurd (let n : ◌≡◌ {A = ℕ} 0 1 = cc in omega arith)
  cut {j} (same {b = c} h i p) (b ∷ u) x e =
      let d = cut {j = j + 1} p u x (cc) in
      let z : j + 1 + length u ≡ j + suc (length u) = omega arith in
      let y : c ≡ b = cc in
      record {
        left = b ∷ d.left;
        right = d.right;
        whole = ap₂ (λ (n : ℕ) (s : List ℕ). n ∷ s) y d.whole;
        first = same h i d.first;
        second = at z refl d.second;
        reach = ap f (sym z) ∙ omega (arith, d.reach);
      }
  cut {j} (other {v = v} r h p) (b ∷ u) x e =
      let d = cut {j = j + 1} p u x (cc) in
      let z : j + 1 + length u ≡ j + suc (length u) = omega arith in
      let y : ◌≡◌ {A = ℕ} 49 b = cc in
      record {
        left = v ++ d.left;
        right = d.right;
        whole = ap (λ (s : List ℕ). v ++ s) d.whole ∙ sym (append_assoc v d.left d.right);
        first = at refl (ap (λ (n : ℕ). n ∷ u) y) (other r h d.first);
        second = at z refl d.second;
        reach = ap f (sym z) ∙ omega (arith, d.reach, length-append v d.left);
      }

  -- a byte that is no `1` stays
  record Kept (j c : ℕ) (u w : List ℕ) : Type 0 where
    rest : List ℕ
    whole : w ≡ c ∷ rest
    next : f (j + 1) ≡ f j + 1
    after : Put (j + 1) u rest

  kept : {j : ℕ} {y w : List ℕ} → Put j y w → (c : ℕ) (u : List ℕ) → y ≡ c ∷ u → (c ≡ 49 → ⊥) → Kept j c u w
  kept done c u e n = absurd (let z : ◌≡◌ {A = ℕ} 0 1 = cc in omega arith)
  kept (same {b = b} {u = x} {w = w} h i p) c u e n =
      let y : b ≡ c = cc in
      let z : x ≡ u = cc in
      record { rest = w; whole = ap (λ (n : ℕ). n ∷ w) y; next = h; after = at refl z p }
  kept (other r h p) c u e n = absurd (n (cc))

  nothing : {j : ℕ} {y w : List ℕ} → Put j y w → y ≡ [] → w ≡ []
  nothing done e = refl
  nothing (same h i p) e = absurd (let z : ◌≡◌ {A = ℕ} 0 1 = cc in omega arith)
  nothing (other r h p) e = absurd (let z : ◌≡◌ {A = ℕ} 0 1 = cc in omega arith)

  -- a byte alone that is no `1`
  alone : {j : ℕ} {w : List ℕ} (c : ℕ) → Put j (c ∷ []) w → (c ≡ 49 → ⊥) → c ∷ [] ≡ w
  alone c p n =
      let k = kept p c [] refl n in
      sym (k.whole ∙ ap (λ (s : List ℕ). c ∷ s) (nothing k.after refl))

  -- letters stay
  letters_stay : {j : ℕ} {u w : List ℕ} → Put j u w → Events u → u ≡ w
  letters_stay done h = refl
  letters_stay (same {b = b} e i p) h = ap (λ (s : List ℕ). b ∷ s) (letters_stay p h.1)
  letters_stay (other r e p) h = absurd (event_apart 49 49 h.0 tt refl)

  one : {j : ℕ} {y w : List ℕ} → Put j y w → y ≡ 49 ∷ [] → Reads Atom (f j) w (g j)
  one done e = absurd (let z : ◌≡◌ {A = ℕ} 0 1 = cc in omega arith)
  one {j} (same {b = b} {w = w} h i p) e =
      let y : ◌≡◌ {A = ℕ} 49 b = cc in
      moved refl (ap₂ (λ (n : ℕ) (s : List ℕ). n ∷ s) y (sym (nothing p (cc)))) (sym i) (atom_epsilon {o = f j})
  one {j} (other {v = v} {w = w} r h p) e =
      moved refl (sym (ap (λ (s : List ℕ). v ++ s) (nothing p (cc)) ∙ append-nil v)) refl r

  -- the grafted tree is the reading
  pub carry : {l : Level} {o : ℕ} {u : List ℕ} {t : Tree} → Reads l o u t → {w : List ℕ} → Put o u w → Reads l (f o) w (graft f g t)
  unfolding graft
  carry (alt_conj r) p = alt_conj (carry r p)
  carry {o = o} (alt_bar {u = u} {v = v} {t = t} {r = s} r q) p =
      let c = cut p u (124 ∷ v) refl in
      let k = kept c.second 124 v refl (λ e. omega arith) in
      let n : f (o + length u + 1) ≡ f o + length c.left + 1 = omega (arith, k.next, c.reach) in
      moved refl (sym (c.whole ∙ ap (λ (s : List ℕ). c.left ++ s) k.whole))
      (ap (λ (m : ℕ). union m (graft f g t) (graft f g s)) (sym c.reach))
      (alt_bar (carry r c.first) (moved n refl refl (carry q k.after)))
  carry (conj_seq r) p = conj_seq (carry r p)
  carry {o = o} (conj_amp {u = u} {v = v} {t = t} {r = s} r q) p =
      let c = cut p u (38 ∷ v) refl in
      let k = kept c.second 38 v refl (λ e. omega arith) in
      let n : f (o + length u + 1) ≡ f o + length c.left + 1 = omega (arith, k.next, c.reach) in
      moved refl (sym (c.whole ∙ ap (λ (s : List ℕ). c.left ++ s) k.whole))
      (ap (λ (m : ℕ). intersection m (graft f g t) (graft f g s)) (sym c.reach))
      (conj_amp (carry r c.first) (moved n refl refl (carry q k.after)))
  carry (seq_pre r) p = seq_pre (carry r p)
  carry (seq_more {u = u} {v = v} {t = t} {r = s} r q) p =
      let c = cut p u v refl in
      moved refl (sym c.whole) (ap (λ (m : ℕ). concatenation m (graft f g t) (graft f g s)) (sym c.reach))
      (seq_more (carry r c.first) (moved c.reach refl refl (carry q c.second)))
  carry (pre_post r) p = pre_post (carry r p)
  carry (pre_bang {u = u} r) p =
      let k = kept p 33 u refl (λ e. omega arith) in
      moved refl (sym k.whole) refl (pre_bang (moved k.next refl refl (carry r k.after)))
  carry (post_atom r) p = post_atom (carry r p)
  carry (post_star {u = u} {t = t} r) p =
      let c = cut p u (42 ∷ []) refl in
      moved refl (sym (c.whole ∙ ap (λ (s : List ℕ). c.left ++ s) (sym (alone 42 c.second (λ e. omega arith)))))
      (ap (λ (m : ℕ). star m (graft f g t)) (sym c.reach))
      (post_star (carry r c.first))
  carry (atom_letter {b = b} h) p =
      moved refl (alone b p (λ e. event_apart b 49 h tt e)) refl (atom_letter h)
  carry atom_any p = moved refl (alone 46 p (λ e. omega arith)) refl atom_any
  carry (atom_set u h e) p =
      let k = kept p 91 (u ++ 93 ∷ []) refl (λ e. omega arith) in
      let c = cut k.after u (93 ∷ []) refl in
      moved refl
      (ap₂ (λ (x y : List ℕ). 91 ∷ (x ++ y)) (letters_stay c.first e) (alone 93 c.second (λ e. omega arith))
      ∙ sym (k.whole ∙ ap (λ (s : List ℕ). 91 ∷ s) c.whole))
      refl (atom_set u h e)
  carry atom_empty p = moved refl (alone 48 p (λ e. omega arith)) refl atom_empty
  carry atom_epsilon p = one p refl
  carry (atom_group {u = u} r) p =
      let k = kept p 40 (u ++ 41 ∷ []) refl (λ e. omega arith) in
      let c = cut k.after u (41 ∷ []) refl in
      moved refl
      (ap (λ (s : List ℕ). 40 ∷ (c.left ++ s)) (alone 41 c.second (λ e. omega arith))
      ∙ sym (k.whole ∙ ap (λ (s : List ℕ). 40 ∷ s) c.whole))
      refl
      (atom_group (moved k.next refl refl (carry r c.first)))

-- ---- a reading at another offset
stay : (d : ℕ) (u : List ℕ) (j : ℕ) → Put (λ (o : ℕ). o + d) (λ (o : ℕ). epsilon (o + d)) j u u
stay d [] j = done
stay d (b ∷ u) j = let e : j + 1 + d ≡ j + d + 1 = omega arith in same {j = j} e refl (stay d u (j + 1))

pub shifted : {l : Level} {u : List ℕ} {t : Tree} (d : ℕ) → Reads l 0 u t → Reads l d u (shift d t)
shifted {u = u} d r = moved (omega arith) refl refl (carry (λ (o : ℕ). o + d) (λ (o : ℕ). epsilon (o + d)) r (stay d u 0))
