-- The entries of a node for the letters of its set, by their indexes. Assumes nothing.
use mathlib.Core.Path.{◌≡◌, sym, ap, ◌∙◌}
use mathlib.Core.Bool.{true}
use mathlib.Core.Logic.{inl, inr, ⊎_elim}
use mathlib.Core.List.{List}
use Prim.Native.Nat.{ℕ, ◌+◌, ◌*◌, ◌/◌, ◌%◌, ◌≤◌, ◌<◌}
use native.Mathlib.Omega.{arith}
use lib.Dec.{T}
use borrow.Author.Tests.{lt-ltb}
use Rattle.std.proofs.lemmas.Bool.{cases_lt}
use Rattle.bits.specs.Bit.{has_bit}
use Rattle.bits.specs.Runs.{Put, Adds}
use Rattle.bits.proofs.Digits.{mask_has}
use Rattle.bits.proofs.Laws.{put_adds, adds_none, adds_then, adds_as}
use Rattle.event.specs.Event.{is_event}
use Rattle.event.specs.LetterSets.{holds, letter_index, every}
use Rattle.event.specs.SetParts.{letter_at, FirstIndex}
use Rattle.event.specs.declared.sets.LetterSet.{LetterSet}
use Rattle.event.proofs.SetLaws.{letter_index_lem, index_letter, holds_event, holds_at, holds_index}
use Rattle.event.proofs.Tests.{T_of}
use Rattle.expression.specs.declared.Kind.TheVariants.{Letter}
use Rattle.moves.specs.Moves.{KindLetter}

-- q is the bit of node i for a letter of the set whose index is below p
pub record LetterBelow (c : LetterSet) (i p q : ℕ) : Type 0 where
  pub bit : KindLetter (Letter c) i q
  pub before : letter_index (q / 128) < p

-- a bit tells its letter and its entry
bit_parts : (x i q : ℕ) → i < 64 → q ≡ 128 * x + 2 * i → (q / 128 ≡ x) × (q % 128 ≡ 2 * i)
bit_parts x i q l e = omega arith

bit_is : (x i q : ℕ) → q / 128 ≡ x → q % 128 ≡ 2 * i → q ≡ 128 * x + 2 * i
bit_is x i q o e = omega arith

module _ (c : LetterSet) where
  -- a letter of the set has an index of the set, and stands at it
  in_set : (x : ℕ) → holds c x ≡ true → T (is_event x)
  in_set x e = holds_event c x (T_of _ e)

  at_index : (x : ℕ) → holds c x ≡ true → has_bit (letter_index x) c.bits ≡ true
  at_index x e = sym (holds_index c x (in_set x e)) ∙ e

  -- with the letter at index p, all letters before index r are in, if p is the only index of the set from f on
  below_with : {a b d : List ℕ} (i f p r : ℕ) → i < 64 → p < 52 → has_bit p c.bits ≡ true → f ≤ p → p < r
      → ((j : ℕ) → f ≤ j → j < r → has_bit j c.bits ≡ true → j ≡ p)
      → Adds a (LetterBelow c i f) b → Put b (128 * letter_at p + 2 * i) d → Adds a (LetterBelow c i r) d
  below_with i f p r l h t m o n g k =
      adds_as
      (λ q.
      ⊎_elim (λ (u : LetterBelow c i f q). record { bit = u.bit; before = omega (arith, u.before) })
      (λ (e : q ≡ 128 * letter_at p + 2 * i).
      let (x, s) = bit_parts (letter_at p) i q l e in
      record {
        bit = record { entry = s; letter = ap (holds c) x ∙ holds_at c p h ∙ t };
        before = rw (x, (index_letter p h).1) o;
      }))
      (λ q u.
      let x = q / 128 in
      ⊎_elim (λ (v : letter_index x < f). inl record { bit = u.bit; before = v })
      (λ (v : f ≤ letter_index x).
      let e = n (letter_index x) v u.before (at_index x u.bit.letter) in
      inr (bit_is (letter_at p) i q (sym (letter_index_lem x (in_set x u.bit.letter)).1 ∙ ap letter_at e) u.bit.entry))
      (cases_lt (letter_index x) f))
      (adds_then g (put_adds k))

  -- so behind the first index from f on
  pub below_turn : {a b d : List ℕ} (i : ℕ) {f p : ℕ} → i < 64 → p < 52 → FirstIndex c f p
      → Adds a (LetterBelow c i f) b → Put b (128 * letter_at p + 2 * i) d → Adds a (LetterBelow c i (p + 1)) d
  below_turn i {f} {p} l h n =
      below_with i f p (p + 1) l h n.there n.from (omega arith)
      (λ j k m e. ⊎_elim (λ (v : j < p). absurd (n.between j k v e)) (λ (v : p ≤ j). omega arith) (cases_lt j p))

  -- where no letter's index is left, every letter of the set is in
  pub below_all : {a b : List ℕ} (i f : ℕ) → ((j : ℕ) → f ≤ j → j < 52 → has_bit j c.bits ≡ true → ⊥)
      → Adds a (LetterBelow c i f) b → Adds a (KindLetter (Letter c) i) b
  below_all i f n =
      adds_as (λ q u. u.bit)
      (λ q u.
      let x = q / 128 in
      ⊎_elim (λ (v : letter_index x < f). record { bit = u; before = v })
      (λ (v : f ≤ letter_index x). absurd (n (letter_index x) v (letter_index_lem x (in_set x u.letter)).0 (at_index x u.letter)))
      (cases_lt (letter_index x) f))

-- before index 0 there is no letter
pub below_none : (c : LetterSet) (a : List ℕ) (i : ℕ) → Adds a (LetterBelow c i 0) a
below_none c a i = adds_none a _ (λ q u. let b = u.before in omega arith)

-- the set of all letters, index by index
pub every_turn : {a b d : List ℕ} (i p : ℕ) → i < 64 → p < 52 → Adds a (LetterBelow every i p) b → Put b (128 * letter_at p + 2 * i) d
    → Adds a (LetterBelow every i (p + 1)) d
every_turn i p l h = below_with every i p p (p + 1) l h (mask_has p 52 ∙ lt-ltb p 52 h) (omega arith) (omega arith) (λ j k m e. omega arith)
