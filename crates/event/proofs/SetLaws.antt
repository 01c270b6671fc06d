-- Laws of sets of letters: indexes and letters, and what each set holds. Assumes nothing.
use Prim.Native.Nat.{ℕ, ◌+◌, ◌-◌, ◌^◌, ◌≤◌, ◌<◌}
use native.Mathlib.Omega.{arith}
use mathlib.Core.Path.{◌≡◌, refl, sym, ap, subst, ◌∙◌}
use mathlib.Core.Logic.{⊎_elim}
use mathlib.Core.Bool.{Bool, true, false, cond, ◌&&◌, ◌||◌, or-false, or_assoc, and-false, false≢true}
use mathlib.Core.List.{List, [], ◌∷◌}
use lib.Bits.{bit_or, or_lt}
use lib.Dec.{T, eqb, leb, lit<, le→leb}
use lib.ListN.{length, get_or, drop, drop_of_length-le}
use lib.Pow.{pow-lt}
use borrow.Author.Tests.{le-leb, lt-leb, lt-ltb, le-ltb, eq-eqb, ne_eqb}
use Rattle.bits.specs.Bit.{has_bit}
use Rattle.std.specs.Prelude.{Option, None, Some}
use Rattle.bits.specs.Runs.{First}
use Rattle.bits.proofs.Digits.{has_or, power_has, power_lacks, zero_has, mask_has, same_or_not, below_or_not}
use Rattle.event.specs.Event.{is_event, Events}
use Rattle.event.specs.LetterSets.{letter_index, holds, bit_of, none, every, plus, single, gathered, letters_of}
use Rattle.event.specs.SetParts.{letter_at, is_in, NextIndex, OnlyLetters}
use Rattle.event.specs.declared.sets.LetterSet.{LetterSet}
use Rattle.event.proofs.EventLaws.{runs}
use Rattle.event.proofs.Tails.{rest_at}
use Rattle.event.proofs.Tests.{of_T, T_of, and_split, and_join, or_left, or_right, choose, same_test}

-- ---- indexes and letters
capital_index : (b : ℕ) → b ≤ 90 → letter_index b ≡ b - 65
capital_index b h = rw (le-leb b 90 h)

small_index : (b : ℕ) → 90 < b → letter_index b ≡ b - 71
small_index b h = rw (lt-leb b 90 h)

-- the index of a letter is below 52, and the letter there is the letter
pub letter_index_lem : (b : ℕ) → T (is_event b) → (letter_index b < 52) × (letter_at (letter_index b) ≡ b)
letter_index_lem b h =
    ⊎_elim
    (λ x. let e = capital_index b x.1 in (
      omega (arith, e, x),
      ap letter_at e ∙ rw (lt-ltb (b - 65) 26 (omega (arith, x))) (omega (arith, x)),
    ))
    (λ x. let e = small_index b (omega (arith, x)) in (
      omega (arith, e, x),
      ap letter_at e ∙ rw (le-ltb (b - 71) 26 (omega (arith, x))) (omega (arith, x)),
    ))
    (runs b h)

in_capitals : (b : ℕ) → 65 ≤ b → b ≤ 90 → T (is_event b)
unfolding is_event
in_capitals b h g = or_left (leb 65 b && leb b 90) (leb 97 b && leb b 122) (and_join (leb 65 b) (leb b 90) (le→leb 65 b h) (le→leb b 90 g))

in_small : (b : ℕ) → 97 ≤ b → b ≤ 122 → T (is_event b)
unfolding is_event
in_small b h g = or_right (leb 65 b && leb b 90) (leb 97 b && leb b 122) (and_join (leb 97 b) (leb b 122) (le→leb 97 b h) (le→leb b 122 g))

-- what stands at an index is a letter, whose index that is
pub index_letter : (i : ℕ) → i < 52 → T (is_event (letter_at i)) × (letter_index (letter_at i) ≡ i)
index_letter i h =
    ⊎_elim
    (λ (l : i < 26).
    let e : letter_at i ≡ i + 65 = rw (lt-ltb i 26 l) in
    let n : i + 65 ≤ 90 = omega arith in (
      subst (λ (b : ℕ). T (is_event b)) (sym e) (in_capitals (i + 65) (omega arith) n),
      ap letter_index e ∙ capital_index (i + 65) n ∙ omega arith,
    ))
    (λ (l : 26 ≤ i).
    let e : letter_at i ≡ i + 71 = rw (le-ltb i 26 l) in (
      subst (λ (b : ℕ). T (is_event b)) (sym e) (in_small (i + 71) (omega arith) (omega arith)),
      ap letter_index e ∙ small_index (i + 71) (omega arith) ∙ omega arith,
    ))
    (below_or_not i 26)

-- two letters with one index are one
pub index_apart : (b x : ℕ) → T (is_event b) → T (is_event x) → (x ≡ b → ⊥) → letter_index x ≡ letter_index b → ⊥
index_apart b x h g n e = n (sym (letter_index_lem x g).1 ∙ ap letter_at e ∙ (letter_index_lem b h).1)

-- the bit of a letter, by its run; a byte that is no letter has none
pub capital_bounds : (b : ℕ) → is_event b ≡ true → b ≤ 90 → 65 ≤ b
capital_bounds b e h = ⊎_elim (λ x. x.0) (λ x. absurd (omega (arith, x))) (runs b (T_of (is_event b) e))

pub small_bounds : (b : ℕ) → is_event b ≡ true → 90 < b → (97 ≤ b) × (b ≤ 122)
small_bounds b e h = ⊎_elim (λ x. absurd (omega (arith, x))) (λ x. x) (runs b (T_of (is_event b) e))

pub capital_bit : (b : ℕ) → is_event b ≡ true → b ≤ 90 → 2 ^ (b - 65) ≡ bit_of b
unfolding bit_of
capital_bit b e h = rw (e, capital_index b h)

pub small_bit : (b : ℕ) → is_event b ≡ true → 90 < b → 2 ^ (b - 97 + 26) ≡ bit_of b
unfolding bit_of
small_bit b e h =
    let n = small_bounds b e h in
    let z : b - 97 + 26 ≡ b - 71 = omega arith in
    rw (e, small_index b h, z)

pub foreign_bit : (b : ℕ) → is_event b ≡ false → 0 ≡ bit_of b
unfolding bit_of
foreign_bit b e = rw e

-- ---- what each set holds
pub holds_event : (c : LetterSet) (x : ℕ) → T (holds c x) → T (is_event x)
unfolding holds
holds_event c x h = (and_split (is_event x) (has_bit (letter_index x) c.bits) h).0

-- a set holds the letter at an index exactly if it has the bit there
pub holds_at : (c : LetterSet) (i : ℕ) → i < 52 → holds c (letter_at i) ≡ has_bit i c.bits
unfolding holds
holds_at c i h = let p = index_letter i h in rw (of_T (is_event (letter_at i)) p.0, p.1)

pub holds_index : (c : LetterSet) (x : ℕ) → T (is_event x) → holds c x ≡ has_bit (letter_index x) c.bits
unfolding holds
holds_index c x h = rw (of_T (is_event x) h)

pub none_holds : (x : ℕ) → holds none x ≡ false
unfolding holds
none_holds x = ap (λ (t : Bool). is_event x && t) (zero_has (letter_index x)) ∙ and-false (is_event x)

pub every_holds : (x : ℕ) → holds every x ≡ is_event x
unfolding holds
every_holds x = same_test _ _ (λ h. (and_split (is_event x) _ h).0) (λ h.
    and_join (is_event x) _ h (T_of _ (mask_has (letter_index x) 52 ∙ lt-ltb (letter_index x) 52 (letter_index_lem x h).0)))

-- a letter more
pub plus_holds : (c : LetterSet) (b x : ℕ) → T (is_event b) → holds (plus c b) x ≡ (holds c x || eqb x b)
unfolding holds bit_of
plus_holds c b x h = go (is_event x) refl
  where
    bit : has_bit (letter_index x) (bit_or c.bits (cond (is_event b) (2 ^ letter_index b) 0)) ≡ (has_bit (letter_index x) c.bits || has_bit (letter_index x) (2 ^ letter_index b))
    bit = rw (of_T (is_event b) h) (has_or (letter_index x) c.bits (2 ^ letter_index b))

    power : T (is_event x) → has_bit (letter_index x) (2 ^ letter_index b) ≡ eqb x b
    power g = ⊎_elim (λ (e : x ≡ b). ap (λ (y : ℕ). has_bit (letter_index y) (2 ^ letter_index b)) e ∙ power_has (letter_index b) ∙ sym (eq-eqb x b e))
        (λ (n : x ≡ b → ⊥). power_lacks (letter_index b) (letter_index x) (index_apart b x h g n) ∙ sym (ne_eqb x b n)) (same_or_not x b)

    go : (t : Bool) → is_event x ≡ t
        → (is_event x && has_bit (letter_index x) (bit_or c.bits (cond (is_event b) (2 ^ letter_index b) 0)))
        ≡ ((is_event x && has_bit (letter_index x) c.bits) || eqb x b)
    go true e = rw e (bit ∙ ap (λ (t : Bool). has_bit (letter_index x) c.bits || t) (power (T_of (is_event x) e)))
    go false e = rw e (sym (ne_eqb x b (λ (g : x ≡ b). false≢true (sym e ∙ ap is_event g ∙ of_T (is_event b) h))))

-- 02 e): "a single letter as a set of one"
pub single_holds : (b x : ℕ) → T (is_event b) → holds (single b) x ≡ eqb x b
single_holds b x h = plus_holds none b x h ∙ ap (λ (t : Bool). t || eqb x b) (none_holds x)

-- the letters of a text are those that stand in it
pub gathered_holds : (u : List ℕ) (c : LetterSet) (x : ℕ) → Events u → holds (gathered c u) x ≡ (holds c x || is_in x u)
unfolding gathered is_in
gathered_holds [] c x h = sym (or-false (holds c x))
gathered_holds (b ∷ u) c x h =
    gathered_holds u (plus c b) x h.1 ∙ ap (λ (t : Bool). t || is_in x u) (plus_holds c b x h.0) ∙ or_assoc (holds c x) (eqb x b) (is_in x u)

pub letters_hold : (u : List ℕ) (x : ℕ) → Events u → holds (letters_of u) x ≡ is_in x u
letters_hold u x h = gathered_holds u none x h ∙ ap (λ (t : Bool). t || is_in x u) (none_holds x)

-- ---- every set of a text has bits for letters alone
bit_small : (b : ℕ) → bit_of b < 2 ^ 52
unfolding bit_of
bit_small b = choose (λ (n : ℕ). n < 2 ^ 52) (is_event b) (λ e. pow-lt (letter_index_lem b (T_of (is_event b) e)).0) (λ e. lit< tt)

pub plus_small : (c : LetterSet) (b : ℕ) → OnlyLetters c → OnlyLetters (plus c b)
plus_small c b h = or_lt 52 c.bits (bit_of b) h (bit_small b)

pub gathered_small : (u : List ℕ) (c : LetterSet) → OnlyLetters c → OnlyLetters (gathered c u)
unfolding gathered
gathered_small [] c h = h
gathered_small (b ∷ u) c h = gathered_small u (plus c b) (plus_small c b h)

-- ---- the loop that gathers
pub gathered_on : (s : List ℕ) (i : ℕ) (c : LetterSet) → i < length s → gathered c (drop i s) ≡ gathered (plus c (get_or s i 0)) (drop (i + 1) s)
unfolding gathered
gathered_on s i c h = ap (gathered c) (rest_at s i h)

pub gathered_end : (s : List ℕ) (i : ℕ) (c : LetterSet) → length s ≤ i → gathered c (drop i s) ≡ c
unfolding gathered
gathered_end s i c h = ap (gathered c) (drop_of_length-le s h)

-- ---- the next index that a set has
pub next_found : (c : LetterSet) (i x : ℕ) (found : Option ℕ) → i ≤ 52 → x ≡ 2 ^ i - 1 → First c.bits x found → NextIndex c i found
next_found c i x None h e f = λ j l g b. false≢true (sym (ap (has_bit j) e ∙ mask_has j i ∙ le-ltb j i l) ∙ f j g b)
next_found c i x (Some r) h e f =
    record {
      from = ⊎_elim (λ (l : r < i). absurd (early l)) (λ l. l) (below_or_not r i);
      within = f.within;
      there = f.there;
      between = λ j l g b. false≢true (sym (ap (has_bit j) e ∙ mask_has j i ∙ le-ltb j i l) ∙ f.below j g b);
    }
  where
    early : r < i → ⊥
    early l = false≢true (sym f.fresh ∙ ap (has_bit r) e ∙ mask_has r i ∙ lt-ltb r i l)
