-- Laws of the rewritten text. Assumes nothing.
use Prim.Native.Nat.{ℕ, zero, suc, ◌≤◌, ◌<◌}
use native.Mathlib.Omega.{arith}
use mathlib.Core.Path.{◌≡◌, refl, sym, ap, subst, ◌∙◌}
use mathlib.Core.Bool.{Bool, true, false}
use mathlib.Core.List.{List, [], ◌∷◌, ◌++◌, append-nil}
use lib.Dec.{eqb}
use lib.ListN.{length, get_or, replicate}
use borrow.Author.Tests.{eqb-true, eqb-false}
use Rattle.event.specs.Event.{is_event}
use Rattle.expression.specs.Unordered.{Ordered}
use Rattle.expression.specs.OrderComputed.{noted}
use Rattle.expression.specs.declared.Noted.{Noted}
use Rattle.expression.specs.declared.Noted.TheVariants.{Outside}
use Rattle.expression.specs.Stars.{NoDouble}
use Rattle.expression.specs.StarsComputed.{doubles}
use Rattle.expression.proofs.UnorderedLaws.{FallsAt, Rising, rising_ordered, ordered_rising, rises_on, rises_with}
use Rattle.expression.proofs.DoubleLaws.{doubles_stars, doubles_not, not_doubled, after_other, outside, no_double_behind, no_double_with}
use Rattle.rewrite.specs.Rewritten.{Squeezed, none, other, run, keep_unless, squeezed_after, rewritten}

-- what holds where b is a star after a star, and where it isn't, holds
by : {P : Type 0} (t : Bool) → (t ≡ true → P) → (t ≡ false → P) → P
by true x y = x refl
by false x y = y refl

-- ---- one byte
pub squeezed_left : (p b : ℕ) (s : List ℕ) → doubles p b ≡ true → squeezed_after p (b ∷ s) ≡ squeezed_after b s
unfolding squeezed_after
squeezed_left p b s e = rw e

pub squeezed_kept : (p b : ℕ) (s : List ℕ) → doubles p b ≡ false → squeezed_after p (b ∷ s) ≡ b ∷ squeezed_after b s
unfolding squeezed_after
squeezed_kept p b s e = rw e

-- ---- parts of a text
-- the last byte, p where there is none
abbrev pub ends : ℕ → List ℕ → ℕ
ends p [] = p
ends p (b ∷ s) = ends b s

pub ends_snoc : (p : ℕ) (u : List ℕ) (b : ℕ) → ends p (u ++ b ∷ []) ≡ b
ends_snoc p [] b = refl
ends_snoc p (c ∷ u) b = ends_snoc c u b

keep_append : (t : Bool) (b : ℕ) (x y : List ℕ) → keep_unless t b (x ++ y) ≡ keep_unless t b x ++ y
keep_append true b x y = refl
keep_append false b x y = refl

pub squeezed_append : (p : ℕ) (u v : List ℕ) → squeezed_after p (u ++ v) ≡ squeezed_after p u ++ squeezed_after (ends p u) v
unfolding squeezed_after
squeezed_append p [] v = refl
squeezed_append p (b ∷ u) v = ap (keep_unless (doubles p b) b) (squeezed_append b u v) ∙ keep_append (doubles p b) b (squeezed_after b u) (squeezed_after (ends b u) v)

-- what stands before doesn't matter where no star begins
pub squeezed_any : (p q : ℕ) (v : List ℕ) → (get_or v 0 0 ≡ 42 → ⊥) → squeezed_after p v ≡ squeezed_after q v
unfolding squeezed_after
squeezed_any p q [] h = refl
squeezed_any p q (b ∷ v) h = rw (not_doubled p b h, not_doubled q b h)

pub rewritten_append : (u v : List ℕ) → (get_or v 0 0 ≡ 42 → ⊥) → rewritten (u ++ v) ≡ rewritten u ++ rewritten v
rewritten_append u v h = squeezed_append 0 u v ∙ ap (λ (x : List ℕ). rewritten u ++ x) (squeezed_any (ends 0 u) 0 v h)

pub rewritten_sign : (c : ℕ) (u v : List ℕ) → (c ≡ 42 → ⊥) → (get_or v 0 0 ≡ 42 → ⊥) → rewritten (u ++ c ∷ v) ≡ rewritten u ++ c ∷ rewritten v
rewritten_sign c u v n h =
    rewritten_append u (c ∷ v) n
    ∙ ap (λ (x : List ℕ). rewritten u ++ x) (squeezed_kept 0 c v (not_doubled 0 c n) ∙ ap (λ (x : List ℕ). c ∷ x) (squeezed_any c 0 v h))

-- a star behind a text
pub rewritten_star : (u : List ℕ) → (ends 0 u ≡ 42 → ⊥) → rewritten (u ++ 42 ∷ []) ≡ rewritten u ++ 42 ∷ []
unfolding squeezed_after
rewritten_star u h = squeezed_append 0 u (42 ∷ []) ∙ ap (λ (x : List ℕ). rewritten u ++ x) (squeezed_kept (ends 0 u) 42 [] (after_other (ends 0 u) 42 h))

pub rewritten_again : (u : List ℕ) → ends 0 u ≡ 42 → rewritten (u ++ 42 ∷ []) ≡ rewritten u
unfolding squeezed_after
rewritten_again u e =
    squeezed_append 0 u (42 ∷ []) ∙ ap (λ (x : List ℕ). rewritten u ++ x) (squeezed_left (ends 0 u) 42 [] (rw e))
    ∙ append-nil (rewritten u)

-- ---- length and bytes
keep_length : (t : Bool) (b : ℕ) (x : List ℕ) (n : ℕ) → length x ≤ n → length (keep_unless t b x) ≤ suc n
keep_length true b x n h = omega arith
keep_length false b x n h = omega arith

squeezed_length : (p : ℕ) (s : List ℕ) → length (squeezed_after p s) ≤ length s
unfolding squeezed_after
squeezed_length p [] = omega arith
squeezed_length p (b ∷ s) = keep_length (doubles p b) b (squeezed_after b s) (length s) (squeezed_length b s)

-- the new text is no longer
pub rewritten_length : (s : List ℕ) → length (rewritten s) ≤ length s
rewritten_length s = squeezed_length 0 s

-- what holds of each byte
abbrev pub Each : (ℕ → Type 0) → List ℕ → Type 0
Each P s = (i : ℕ) → i < length s → P (get_or s i 0)

keep_each : (P : ℕ → Type 0) (t : Bool) (b : ℕ) (x : List ℕ) → P b → Each P x → Each P (keep_unless t b x)
keep_each P true b x h g = g
keep_each P false b x h g = go
  where
    go : Each P (b ∷ x)
    go zero l = h
    go (suc i) l = g i (omega arith)

squeezed_each : (P : ℕ → Type 0) (p : ℕ) (s : List ℕ) → Each P s → Each P (squeezed_after p s)
unfolding squeezed_after
squeezed_each P p [] h = h
squeezed_each P p (b ∷ s) h =
    keep_each P (doubles p b) b (squeezed_after b s) (h 0 (omega arith)) (squeezed_each P b s (λ i l. h (suc i) (omega arith)))

pub rewritten_each : (P : ℕ → Type 0) (s : List ℕ) → Each P s → Each P (rewritten s)
rewritten_each P s h = squeezed_each P 0 s h

-- ---- no star directly after a star
alone : (p : ℕ) → NoDouble (p ∷ [])
alone p zero d = d
alone p (suc zero) d = omega (arith, d.1)
alone p (suc (suc i)) d = omega (arith, d.1)

squeezed_none : (p : ℕ) (s : List ℕ) → NoDouble (p ∷ squeezed_after p s)
unfolding squeezed_after
squeezed_none p [] = alone p
squeezed_none p (b ∷ s) =
    by (doubles p b)
    (λ e. let h = doubles_stars p b e in
    let f : p ∷ squeezed_after p (b ∷ s) ≡ b ∷ squeezed_after b s = ap (λ (x : List ℕ). p ∷ x) (squeezed_left p b s e)
    ∙ ap (λ (c : ℕ). c ∷ squeezed_after b s) (h.0 ∙ sym h.1) in
    subst NoDouble (sym f) (squeezed_none b s))
    (λ e. subst NoDouble (sym (ap (λ (x : List ℕ). p ∷ x) (squeezed_kept p b s e)))
    (no_double_with p (b ∷ squeezed_after b s) (doubles_not p b e) (squeezed_none b s)))

-- the new text has none
pub rewritten_none : (s : List ℕ) → NoDouble (rewritten s)
rewritten_none s = no_double_behind 0 (rewritten s) (squeezed_none 0 s)

squeezed_same : (p : ℕ) (s : List ℕ) → NoDouble (p ∷ s) → squeezed_after p s ≡ s
unfolding squeezed_after
squeezed_same p [] h = refl
squeezed_same p (b ∷ s) h =
    by (doubles p b) (λ e. absurd (h 1 (doubles_stars p b e)))
    (λ e. squeezed_kept p b s e ∙ ap (λ (x : List ℕ). b ∷ x) (squeezed_same b s (no_double_behind p (b ∷ s) h)))

-- a text without one comes back as it is
pub rewritten_same : (s : List ℕ) → NoDouble s → rewritten s ≡ s
rewritten_same s h = squeezed_same 0 s (no_double_with 0 s (λ e. absurd (omega arith)) h)

-- and so does the rewriter's own text
pub rewritten_idempotent : (s : List ℕ) → rewritten (rewritten s) ≡ rewritten s
rewritten_idempotent s = rewritten_same (rewritten s) (rewritten_none s)

-- ---- the relation
more_stars : (n : ℕ) (s : List ℕ) → replicate (suc n) 42 ++ 42 ∷ s ≡ replicate (suc (suc n)) 42 ++ s
more_stars zero s = refl
more_stars (suc n) s = ap (λ (x : List ℕ). 42 ∷ x) (more_stars n s)

record Both (s : List ℕ) : Type 0 where
  fresh : (p : ℕ) → (p ≡ 42 → ⊥) → Squeezed s (squeezed_after p s)
  begun : (n : ℕ) → Squeezed (replicate (suc n) 42 ++ s) (42 ∷ squeezed_after 42 s)

squeezes : (s : List ℕ) → Both s
unfolding squeezed_after
squeezes [] = record { fresh = λ p h. none; begun = λ n. run n (outside [] 0 (omega arith)) none }
squeezes (b ∷ s) = by (eqb b 42) (λ e. stars (eqb-true b 42 e) (squeezes s)) (λ e. others (eqb-false b 42 e) (squeezes s))
  where
    stars : b ≡ 42 → Both s → Both (b ∷ s)
    stars e x = subst (λ (c : ℕ). Both (c ∷ s)) (sym e)
        (record {
          fresh = λ p h. subst (λ (r : List ℕ). Squeezed (42 ∷ s) r) (sym (squeezed_kept p 42 s (after_other p 42 h))) (x.begun 0);
          begun = λ n. subst (λ (u : List ℕ). Squeezed u (42 ∷ squeezed_after 42 s)) (sym (more_stars n s)) (x.begun (suc n));
        })

    others : (b ≡ 42 → ⊥) → Both s → Both (b ∷ s)
    others h x =
        record {
          fresh = λ p g. subst (λ (r : List ℕ). Squeezed (b ∷ s) r) (sym (squeezed_kept p b s (not_doubled p b h))) (other h (x.fresh b h));
          begun = λ n. subst (λ (r : List ℕ). Squeezed (replicate (suc n) 42 ++ b ∷ s) (42 ∷ r)) (sym (squeezed_kept 42 b s (not_doubled 42 b h)))
              (run n h (other h (x.fresh b h)));
        }

-- the new text is the text with each run of stars made one star
pub squeezed : (s : List ℕ) → Squeezed s (rewritten s)
squeezed s = (squeezes s).fresh 0 (λ e. omega arith)

all_stars : (n : ℕ) (s : List ℕ) → squeezed_after 42 (replicate n 42 ++ s) ≡ squeezed_after 42 s
all_stars zero s = refl
all_stars (suc n) s = squeezed_left 42 42 (replicate n 42 ++ s) refl ∙ all_stars n s

only : {s r : List ℕ} → Squeezed s r → (p : ℕ) → (p ≡ 42 → get_or s 0 0 ≡ 42 → ⊥) → r ≡ squeezed_after p s
unfolding squeezed_after
only none p h = refl
only (other {b = b} {s = s} n q) p h = sym (squeezed_kept p b s (not_doubled p b n) ∙ ap (λ (x : List ℕ). b ∷ x) (sym (only q b (λ e f. n e))))
only (run n {s = s} g q) p h =
    sym (squeezed_kept p 42 (replicate n 42 ++ s) (after_other p 42 (λ e. h e refl)) ∙ ap (λ (x : List ℕ). 42 ∷ x)
    (all_stars n s ∙ sym (only q 42 (λ e f. g f))))

-- and no other text is
pub squeezed_only : {s r : List ℕ} → Squeezed s r → r ≡ rewritten s
squeezed_only q = only q 0 (λ e f. omega arith)

-- ---- the letters inside brackets
-- a star falls nowhere, and nothing is noted of it
star_noted : (q : Noted) → noted q 42 ≡ Outside
unfolding is_event
star_noted q = refl

squeezed_rises : (p : ℕ) (q : Noted) (s : List ℕ) → (p ≡ 42 → q ≡ Outside) → Rising q s → Rising q (squeezed_after p s)
unfolding squeezed_after FallsAt
squeezed_rises p q [] n h = h
squeezed_rises p q (b ∷ s) n h =
    by (doubles p b)
    (λ e. let x = doubles_stars p b e in
    let z : noted q b ≡ q = ap (noted q) x.1 ∙ star_noted q ∙ sym (n x.0) in
    subst (Rising q) (sym (squeezed_left p b s e)) (squeezed_rises b q s (λ f. n x.0) (subst (λ (k : Noted). Rising k s) z (rises_on q b s h))))
    (λ e. subst (Rising q) (sym (squeezed_kept p b s e))
    (rises_with q b s (squeezed_after b s) h (squeezed_rises b (noted q b) s (λ f. ap (noted q) f ∙ star_noted q) (rises_on q b s h))))

-- they rise in the new text, if they do in the old one
pub rewritten_ordered : (s : List ℕ) → Ordered s → Ordered (rewritten s)
rewritten_ordered s o = rising_ordered (squeezed_rises 0 Outside s (λ e. refl) (ordered_rising o))
