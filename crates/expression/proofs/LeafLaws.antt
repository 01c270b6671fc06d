-- The leaf at the front of a text, for each leaf of the grammar. Assumes nothing.
use Prim.Native.Nat.{ℕ, ◌+◌, ◌≤◌, ◌<◌}
use native.Mathlib.Omega.{arith}
use mathlib.Core.Path.{◌≡◌, refl, sym, ap, ap₂, ◌∙◌}
use mathlib.Core.Bool.{Bool, false, cond}
use mathlib.Core.List.{List, [], ◌∷◌, ◌++◌, append_assoc}
use lib.Dec.{T, eqb, ltb}
use lib.ListN.{length, get_or, take, drop, length-append, length-drop}
use lib.Seq.{take-append_seam}
use borrow.Author.Tests.{lt-ltb, le-ltb, ltb-true}
use Rattle.event.specs.Event.{is_event, Events}
use Rattle.event.specs.Leading.{leading}
use Rattle.event.specs.LetterSets.{single, every, gathered, letters_of}
use Rattle.event.specs.declared.sets.LetterSet.{LetterSet}
use Rattle.event.proofs.EventLaws.{event_not, reserved_foreign}
use Rattle.event.proofs.LeadingLaws.{leading_found, leading_up_to}
use Rattle.event.proofs.Tests.{of_T, choose}
use Rattle.expression.specs.Leaves.{leaf, bracketed, leaf_at}
use Rattle.expression.specs.declared.Kind.TheVariants.{Empty, Epsilon, Letter}
use Rattle.expression.specs.declared.Leaf.{Leaf}

pub letter_leaf_at : (b : ℕ) (x : List ℕ) → T (is_event b) → leaf_at (b ∷ x) ≡ leaf 1 (Letter (single b))
unfolding leaf_at
letter_leaf_at b x h = rw (event_not b 48 h tt, event_not b 49 h tt, event_not b 46 h tt, event_not b 91 h tt)

pub empty_leaf_at : (x : List ℕ) → leaf_at (48 ∷ x) ≡ leaf 1 Empty
unfolding leaf_at
empty_leaf_at x = refl

pub epsilon_leaf_at : (x : List ℕ) → leaf_at (49 ∷ x) ≡ leaf 1 Epsilon
unfolding leaf_at
epsilon_leaf_at x = refl

pub any_leaf_at : (x : List ℕ) → leaf_at (46 ∷ x) ≡ leaf 1 (Letter every)
unfolding leaf_at
any_leaf_at x = refl

-- letters lead up to a byte that is none
pub letters_lead : (u : List ℕ) (c : ℕ) (x : List ℕ) → Events u → is_event c ≡ false → leading is_event (u ++ c ∷ x) ≡ length u
letters_lead u c x h e = leading_up_to is_event Events (λ b u h. (of_T (is_event b) h.0, h.1)) c e u x h

pub set_leaf_at : (u x : List ℕ) → Events u → leaf_at (91 ∷ (u ++ 93 ∷ []) ++ x) ≡ leaf (length u + 2) (Letter (letters_of u))
unfolding leaf_at
set_leaf_at u x h =
    let t = (u ++ 93 ∷ []) ++ x in
    let s : t ≡ u ++ 93 ∷ x = append_assoc u (93 ∷ []) x in
    let k : leading is_event t ≡ length u = ap (leading is_event) s ∙ letters_lead u 93 x h (reserved_foreign 93 tt) in
    ap (bracketed t) k
    ∙ ap₂ (λ (b : Bool) (v : List ℕ). leaf (cond b (length u + 2) (length u + 1)) (Letter (letters_of v)))
    (lt-ltb (length u) (length t) (omega (arith, length-append (u ++ 93 ∷ []) x, length-append u (93 ∷ []))))
    (ap (take (length u)) s ∙ take-append_seam u (93 ∷ x))

-- 02 e): "a single letter as a set of one": `b` and `[b]` have one kind
pub same_kind : (b : ℕ) (x y : List ℕ) → T (is_event b) → (leaf_at (b ∷ x)).kind ≡ (leaf_at (91 ∷ b ∷ 93 ∷ y)).kind
unfolding gathered
same_kind b x y h = ap (λ (l : Leaf). l.kind) (letter_leaf_at b x h) ∙ sym (ap (λ (l : Leaf). l.kind) (set_leaf_at (b ∷ []) y (h, tt)))

-- a leaf has a byte, and none beyond the text
pub leaf_fits : (s : List ℕ) → 0 < length s → (1 ≤ (leaf_at s).width) × ((leaf_at s).width ≤ length s)
unfolding leaf_at
leaf_fits s h =
    let P : Leaf → Type 0 = λ l. (1 ≤ l.width) × (l.width ≤ length s) in
    let b = get_or s 0 0 in
    choose P (eqb b 48) (λ e. (omega arith, h))
    (λ e. choose P (eqb b 49) (λ e. (omega arith, h))
    (λ e. choose P (eqb b 46) (λ e. (omega arith, h))
    (λ e. choose P (eqb b 91) (λ e. set (leading is_event (drop 1 s)) (leading_found is_event (drop 1 s)).within) (λ e. (omega arith, h)))))
  where
    set : (k : ℕ) → k ≤ length (drop 1 s) → (1 ≤ (bracketed (drop 1 s) k).width) × ((bracketed (drop 1 s) k).width ≤ length s)
    set k l =
        let n = length-drop 1 s in
        choose (λ (w : ℕ). (1 ≤ w) × (w ≤ length s)) (ltb k (length (drop 1 s)))
        (λ e. let g = ltb-true k (length (drop 1 s)) e in (omega arith, omega arith)) (λ e. (omega arith, omega arith))

-- ---- what code makes of a bracket: k letters, and the byte that closes it is there, or is not
module _ (s : List ℕ) (k : ℕ) (c : LetterSet) (e : k ≡ leading is_event (drop 1 s)) (g : c ≡ letters_of (take k (drop 1 s))) where
  as_set : (w : ℕ) → cond (ltb k (length (drop 1 s))) (k + 2) (k + 1) ≡ w → leaf w (Letter c) ≡ bracketed (drop 1 s) (leading is_event (drop 1 s))
  as_set w h = sym (ap (bracketed (drop 1 s)) (sym e) ∙ ap₂ (λ (n : ℕ) (d : LetterSet). leaf n (Letter d)) h (sym g))

  pub set_closed : k + 1 < length s → leaf (k + 1 + 1) (Letter c) ≡ bracketed (drop 1 s) (leading is_event (drop 1 s))
  set_closed h = as_set (k + 1 + 1) (rw (lt-ltb k (length (drop 1 s)) (omega (arith, length-drop 1 s))) (omega arith))

  pub set_open : length s ≤ k + 1 → leaf (k + 1) (Letter c) ≡ bracketed (drop 1 s) (leading is_event (drop 1 s))
  set_open h = as_set (k + 1) (rw (le-ltb k (length (drop 1 s)) (omega (arith, length-drop 1 s))))
