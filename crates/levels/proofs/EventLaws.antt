-- Entries, moved up by a bit to the exits: those of a set, and those of the nodes that fit an event. Assumes nothing.
use mathlib.Core.Path.{◌≡◌, refl, sym, ap, ◌∙◌, subst}
use mathlib.Core.Bool.{Bool, true, false, false≢true}
use mathlib.Core.Logic.{inl, inr, ⊎_elim}
use mathlib.Core.List.{List, [], ◌∷◌}
use Prim.Native.Nat.{ℕ, suc, ◌+◌, ◌-◌, ◌*◌, ◌/◌, ◌%◌, ◌≤◌, ◌<◌}
use native.Mathlib.Omega.{arith}
use native.Mathlib.Numerals.{add-one}
use native.Mathlib.Nat.{div-div-eq-div-mul, pow-succ'}
use lib.ListN.{get_or, replicate}
use lib.Bits.{bit_and, or_zero_l}
use lib.Dec.{eqb}
use borrow.Author.Tests.{eqb-false}
use Rattle.std.proofs.lemmas.Bool.{cases_lt, cases_eq}
use Rattle.bits.specs.Bit.{has_bit, bit_at}
use Rattle.bits.specs.Runs.{Merged, Adds}
use Rattle.bits.proofs.Digits.{and_both, and_left, and_right}
use Rattle.bits.proofs.Laws.{word_bit, merge_law, merged_adds, adds_then, adds_as}
use Rattle.levels.specs.Sets.{Exactly, Entries, LetterExit}
use Rattle.levels.specs.Private.{MovedUp, ExitOf}

-- ---- up by a bit

has_half : (b x : ℕ) → has_bit (suc b) x ≡ has_bit b (x / 2)
unfolding has_bit
has_half b x = rw (pow-succ', ← div-div-eq-div-mul) refl

pub top_clear : (x : ℕ) → x < 18446744073709551616 → has_bit 63 x ≡ false → x < 9223372036854775808
unfolding has_bit
top_clear x l e =
    let n = eqb-false (x / 9223372036854775808 % 2) 1 e in
    ⊎_elim (λ (h : x < 9223372036854775808). h)
    (λ (h : 9223372036854775808 ≤ x). absurd (n (omega arith)))
    (cases_lt x 9223372036854775808)

pub up_law : (x : ℕ) → MovedUp x (2 * x)
unfolding has_bit
up_law x = record {
  on = λ b l. let e : 2 * x / 2 ≡ x = omega arith in rw add-one (has_half b (2 * x) ∙ ap (has_bit b) e);
  zero = let e : 2 * x / 1 % 2 ≡ 0 = omega arith in ap (λ (n : ℕ). eqb n 1) e;
}

-- ---- two numbers, as joined to the empty set

low_merged : (low : ℕ) → Merged (replicate 2 0) 0 low (low ∷ 0 ∷ [])
low_merged low = subst (λ (x : ℕ). Merged (0 ∷ 0 ∷ []) 0 low (x ∷ 0 ∷ [])) (or_zero_l low) (merge_law (0 ∷ 0 ∷ []) 0 low (omega arith))

high_merged : (low high : ℕ) → Merged (low ∷ 0 ∷ []) 1 high (low ∷ high ∷ [])
high_merged low high = subst (λ (x : ℕ). Merged (low ∷ 0 ∷ []) 1 high (low ∷ x ∷ [])) (or_zero_l high) (merge_law (low ∷ 0 ∷ []) 1 high (omega arith))

-- ---- entries, moved up to their exits

-- q is the bit after that of a state of F, where the states' bits begin at number w of a run
pub record UpFrom (F : ℕ → Type 0) (w q : ℕ) : Type 0 where
  pub state : ℕ
  pub small : state < 128
  pub exit : q ≡ 64 * w + state + 1
  pub there : F state

module _ (F : ℕ → Type 0) (even : (s : ℕ) → s < 128 → F s → s % 2 ≡ 0) (w : ℕ) where
  -- the number x has the states of one half: h is 0 for the first, 1 for the second
  pub record Half (h x : ℕ) : Type 0 where
    pub to : (s : ℕ) → s < 64 → has_bit s x ≡ true → F (64 * h + s)
    pub from : (s : ℕ) → s < 64 → F (64 * h + s) → has_bit s x ≡ true

  module _ (h x r : ℕ) (l : h < 2) (half : Half h x) (u : MovedUp x r) where
    half_to : (q : ℕ) → q / 64 ≡ w + h → has_bit (q % 64) r ≡ true → UpFrom F w q
    half_to q n d =
        ⊎_elim (λ (z : q % 64 ≡ 0). absurd (false≢true (sym u.zero ∙ rw z at d)))
        (λ (z : q % 64 ≡ 0 → ⊥).
        let s = q % 64 - 1 in
        let a : q % 64 ≡ s + 1 = omega arith in
        let b : s < 63 = omega arith in
        let y : has_bit s x ≡ true = sym (u.on s b) ∙ rw a at d in
        record { state = 64 * h + s; small = omega arith; exit = omega arith; there = half.to s (omega arith) y })
        (cases_eq (q % 64) 0)

    half_from : (q : ℕ) (p : UpFrom F w q) → p.state / 64 ≡ h → (q / 64 ≡ w + h) × (has_bit (q % 64) r ≡ true)
    half_from q p n =
        let t = p.state in
        let k = p.small in
        let e = p.exit in
        let i = even t k p.there in
        let s = t - 64 * h in
        let a : t ≡ 64 * h + s = omega arith in
        let b : s < 63 = omega arith in
        let c : q % 64 ≡ s + 1 = omega arith in
        (omega arith, rw c (u.on s b ∙ half.from s (omega arith) (subst F a p.there)))

  pub up_adds : {a b c : List ℕ} (x y low high : ℕ) → Half 0 x → Half 1 y → MovedUp x low → MovedUp y high → Merged a w low b
      → Merged b (w + 1) high c → Adds a (UpFrom F w) c
  up_adds x y low high f g u v m n =
      adds_as
      (λ q r.
      ⊎_elim (λ d. let i = d.0 in half_to 0 x low (omega arith) f u q (omega arith) d.1)
      (λ d. half_to 1 y high (omega arith) g v q d.0 d.1)
      r)
      (λ q r.
      let t = r.small in
      ⊎_elim
      (λ (i : r.state < 64). let d = half_from 0 x low (omega arith) f u q r (omega arith) in let z = d.0 in inl (omega arith, d.1))
      (λ (i : 64 ≤ r.state). inr (half_from 1 y high (omega arith) g v q r (omega arith)))
      (cases_lt r.state 64))
      (adds_then (merged_adds m) (merged_adds n))

-- ---- the exits of a set of entries

module _ (set : List ℕ) (even : Entries set) where
  -- an entry is no odd state, so that the highest bit is clear
  pub entry_top : (h : ℕ) → h < 2 → (b : Bool) → has_bit 63 (get_or set h 0) ≡ b → b ≡ false
  entry_top h l true g =
      let z = even (64 * h + 63) (omega arith) (word_bit set h 63 (omega arith) ∙ g) in
      absurd (omega arith)
  entry_top h l false g = refl

  set_half : (h : ℕ) → Half (λ (s : ℕ). bit_at set s ≡ true) even 0 h (get_or set h 0)
  set_half h = record { to = λ s l d. word_bit set h s l ∙ d; from = λ s l d. sym (word_bit set h s l) ∙ d }

  pub exits_law : (low high : ℕ) → MovedUp (get_or set 0 0) low → MovedUp (get_or set 1 0) high → Exactly (ExitOf set) (low ∷ high ∷ [])
  exits_law low high u v =
      adds_as
      (λ q r. let e = r.exit in record { entry = r.state; exit = omega arith; small = r.small; there = r.there })
      (λ q r. let e = r.exit in record { state = r.entry; small = r.small; exit = omega arith; there = r.there })
      (up_adds (λ (s : ℕ). bit_at set s ≡ true) even 0 (get_or set 0 0) (get_or set 1 0) low high (set_half 0) (set_half 1) u v
      (low_merged low) (high_merged low high))

-- ---- the letters of an event

module _ (letters set : List ℕ) (e : ℕ) (even : (s : ℕ) → s < 128 → bit_at letters (128 * e + s) ≡ true → s % 2 ≡ 0) where
  -- an entry in the set, of a node that fits the event
  abbrev Letter : ℕ → Type 0
  Letter s = (bit_at set s ≡ true) × (bit_at letters (128 * e + s) ≡ true)

  letter_even : (s : ℕ) → s < 128 → Letter s → s % 2 ≡ 0
  letter_even s l d = even s l d.1

  -- one number of the sets: h is 0 for the first, 1 for the second
  module _ (h v : ℕ) (l : h < 2) (m : v ≡ 2 * e + h) where
    letter_bit : (s : ℕ) → s < 64 → bit_at letters (128 * e + (64 * h + s)) ≡ has_bit s (get_or letters v 0)
    letter_bit s k =
        let d : 128 * e + (64 * h + s) ≡ 64 * v + s = omega arith in
        ap (bit_at letters) d ∙ word_bit letters v s k

    -- an entry is no odd state, so that the highest bit is clear
    pub even_top : (x : ℕ) (b : Bool) → has_bit 63 (bit_and x (get_or letters v 0)) ≡ b → b ≡ false
    even_top x true g =
        let z = even (64 * h + 63) (omega arith) (letter_bit 63 (omega arith) ∙ and_right 63 x (get_or letters v 0) g) in
        absurd (omega arith)
    even_top x false g = refl

    letter_half : Half Letter letter_even 0 h (bit_and (get_or set h 0) (get_or letters v 0))
    letter_half = record {
      to = λ s k d. (
        word_bit set h s k ∙ and_left s (get_or set h 0) (get_or letters v 0) d,
        letter_bit s k ∙ and_right s (get_or set h 0) (get_or letters v 0) d,
      );
      from = λ s k d.
          and_both s (get_or set h 0) (get_or letters v 0) (sym (word_bit set h s k) ∙ d.0) (sym (letter_bit s k) ∙ d.1);
    }

  pub event_law : (low high : ℕ) → MovedUp (bit_and (get_or set 0 0) (get_or letters (2 * e) 0)) low
      → MovedUp (bit_and (get_or set 1 0) (get_or letters (2 * e + 1) 0)) high → Exactly (LetterExit letters set e) (low ∷ high ∷ [])
  event_law low high u v =
      adds_as
      (λ q r.
      let k = r.exit in
      record { state = r.state; small = r.small; exit = omega arith; there = r.there.0; letter = r.there.1 })
      (λ q r. let k = r.exit in record { state = r.state; small = r.small; exit = omega arith; there = (r.there, r.letter) })
      (up_adds Letter letter_even 0
      (bit_and (get_or set 0 0) (get_or letters (2 * e) 0)) (bit_and (get_or set 1 0) (get_or letters (2 * e + 1) 0)) low high
      (letter_half 0 (2 * e) (omega arith) (omega arith)) (letter_half 1 (2 * e + 1) (omega arith) refl) u v
      (low_merged low) (high_merged low high))
