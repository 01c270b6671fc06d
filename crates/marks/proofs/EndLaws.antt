-- A start whose walk goes no further than its initial states: these, and the marks of one number. Assumes nothing.
use mathlib.Core.Path.{◌≡◌, refl, sym, ap, ◌∙◌}
use mathlib.Core.Bool.{Bool, true, false, ◌&&◌, false≢true, and-false}
use mathlib.Core.Logic.{◌⊎◌, inl, inr, ⊎_elim}
use mathlib.Core.List.{List}
use Prim.Native.Nat.{ℕ, ◌+◌, ◌-◌, ◌*◌, ◌/◌, ◌≤◌}
use native.Mathlib.Omega.{arith}
use lib.Dec.{eqb, leb}
use lib.ListN.{replicate}
use borrow.Author.Tests.{eq-eqb, ne_eqb, le-leb}
use Rattle.bits.specs.Bit.{bit_at}
use Rattle.bits.specs.Runs.{tally_below, Adds}
use Rattle.bits.proofs.Digits.{same_or_not}
use Rattle.bits.proofs.Laws.{zeros_bit}
use Rattle.bits.proofs.Tally.{tally_none, tally_add}
use Rattle.levels.specs.Sets.{AllLed}
use Rattle.marks.specs.declared.target.Target.{Target}
use Rattle.marks.specs.Marks.{StoredAt}
use Rattle.marks.specs.Rows.{decide, met, row_of}
use Rattle.marks.specs.Ends.{Initial}

-- ---- the initial states

pub initial_law : {c b a : List ℕ} (o : Target) → Adds (replicate 2 0) (λ (q : ℕ). (q ≡ o.left - 1) ⊎ (q ≡ o.right - 1)) b → AllLed c b a → Initial c o a
initial_law {c} {b} o p h s l = (
  λ e.
      let z = h.only s l e in
      ⊎_elim (λ (k : bit_at (replicate 2 0) z.by ≡ true). absurd (false≢true (sym (zeros_bit 2 z.by) ∙ k)))
      (⊎_elim (λ (k : z.by ≡ o.left - 1). inl (ap (λ (x : ℕ). bit_at c (128 * x + s)) (sym k) ∙ z.leads))
      (λ (k : z.by ≡ o.right - 1). inr (ap (λ (x : ℕ). bit_at c (128 * x + s)) (sym k) ∙ z.leads))) (p.only z.by z.there),
  ⊎_elim (λ e. h.all (o.left - 1) s (let b = o.left_bound in omega arith) l (p.new (o.left - 1) (inl refl)) e)
      (λ e. h.all (o.right - 1) s (let b = o.right_bound in omega arith) l (p.new (o.right - 1) (inr refl)) e),
)

-- ---- marks at one number

module _ {a m : List ℕ} {i : ℕ} (stored : StoredAt (replicate 512 0) a i m) where
  pub at_number : (q : ℕ) → bit_at m q ≡ true → q / 128 ≡ i
  at_number q e =
      ⊎_elim (λ (h : q / 128 ≡ i). h)
      (λ (h : q / 128 ≡ i → ⊥). absurd (false≢true (sym (stored.other q h ∙ zeros_bit 512 q) ∙ e))) (same_or_not (q / 128) i)

  elsewhere : (q : ℕ) → (q / 128 ≡ i → ⊥) → bit_at m q ≡ false
  elsewhere q h = stored.other q h ∙ zeros_bit 512 q

  -- the row has at most the span of no event
  pub one_row : (o : Target) (n k : ℕ) → o.complement ≡ false → i ≤ n → (eqb k i && met m o i) ≡ row_of m o i n k
  unfolding row_of
  one_row o n k c h =
      ⊎_elim
      (λ (e : k ≡ i). rw (e, eq-eqb i i refl, le-leb i i (omega arith), le-leb i n h, c) (plain (bit_at m (128 * i + o.left)) (bit_at m (128 * i + o.right))))
      (λ (e : k ≡ i → ⊥).
      let l = o.left_bound in
      let z : bit_at m (128 * k + o.left) ≡ false = elsewhere (128 * k + o.left) (λ (d : (128 * k + o.left) / 128 ≡ i). e (omega arith)) in
      rw (ne_eqb k i e, z, c) (sym (ap (leb i k &&◌) (and-false (leb k n)) ∙ and-false (leb i k))))
      (same_or_not k i)
    where
      plain : (s t : Bool) → (s && t) ≡ decide s t false
      plain true true = refl
      plain true false = refl
      plain false t = refl

  pub marks_size : (n : ℕ) → i ≤ n → tally_below (128 * (n + 1)) (bit_at m) ≡ tally_below 128 (λ (s : ℕ). bit_at m (128 * i + s))
  marks_size n h =
      let k = 128 * (n - i) in
      let e : 128 * (n + 1) ≡ 128 * i + (128 + k) = omega arith in
      let u = tally_none (128 * i) (bit_at m) (λ s l. elsewhere s (λ d. omega arith)) in
      let w = tally_none k (λ (s : ℕ). bit_at m (128 * i + (128 + s))) (λ s _. elsewhere (128 * i + (128 + s)) (λ d. omega arith)) in
      ap (λ (z : ℕ). tally_below z (bit_at m)) e
      ∙ omega (arith, tally_add (128 * i) (128 + k) (bit_at m), tally_add 128 k (λ (s : ℕ). bit_at m (128 * i + s)))
