-- The free moves and the entries of a rule, record by record. Assumes nothing.
use mathlib.Core.Path.{◌≡◌, sym, ◌∙◌}
use mathlib.Core.Bool.{true, false, false≢true}
use mathlib.Core.Logic.{◌⊎◌, inl, inr, ⊎_elim}
use mathlib.Core.List.{List}
use Prim.Native.Nat.{ℕ, ◌+◌, ◌*◌, ◌/◌, ◌%◌, ◌≤◌, ◌<◌}
use native.Mathlib.Omega.{arith}
use lib.ListN.{get_or, replicate}
use Rattle.bits.specs.Bit.{bit_at}
use Rattle.bits.specs.Runs.{Put, Adds}
use Rattle.bits.proofs.Digits.{below_or_not, same_or_not}
use Rattle.bits.proofs.Laws.{put_adds, adds_none, adds_then, adds_as, zeros_bit}
use Rattle.expression.specs.declared.Kind.{Kind}
use Rattle.expression.specs.declared.Kind.TheVariants.{Empty, Epsilon, Letter, Union, Intersection, Concatenation, Complement, Star}
use Rattle.expression.specs.declared.Node.{Node}
use Rattle.moves.specs.Moves.{kind_at, special_kind, NotFirst, SidesBefore, KindMove, RecordMove, fits_letter, KindLetter, LetterEntry}
use Rattle.moves.specs.Moves.{KindSpecial, SpecialEntry}
use Rattle.moves.specs.Closing.{LeaveBelow}

-- ---- one node's entries

pub letter_none : (a : List ℕ) (k : Kind) (i : ℕ) → ((x : ℕ) → fits_letter k x ≡ false) → Adds a (KindLetter k i) a
letter_none a k i n = adds_none a _ (λ q u. false≢true (sym (n (q / 128)) ∙ u.letter))

pub special_put : {a b : List ℕ} {k : Kind} (i : ℕ) → special_kind k ≡ true → Put a (2 * i) b → Adds a (KindSpecial k i) b
special_put i s p = adds_as (λ q e. record { entry = e; special = s }) (λ q u. u.entry) (put_adds p)

pub special_none : (a : List ℕ) (k : Kind) (i : ℕ) → special_kind k ≡ false → Adds a (KindSpecial k i) a
special_none a k i n = adds_none a _ (λ q u. false≢true (sym n ∙ u.special))

-- what is added twice is added
pub adds_once : {a b : List ℕ} {P Q : ℕ → Type 0} → Adds a (λ (q : ℕ). P q ⊎ (P q ⊎ Q q)) b → Adds a (λ (q : ℕ). P q ⊎ Q q) b
adds_once h = adds_as (λ q u. ⊎_elim (λ e. inl e) (λ v. v) u) (λ q u. inr u) h

module _ (nodes : List Node) where
  -- ---- moves, node by node

  module _ (lefts : List ℕ) where
    pub moves_none : (a : List ℕ) → Adds a (RecordMove nodes lefts 0) a
    moves_none a = adds_none a _ (λ q u. let w = u.within in omega arith)

    pub moves_turn : {a b c : List ℕ} (i : ℕ)
        → Adds a (RecordMove nodes lefts i) b → Adds b (KindMove (kind_at nodes i) i (get_or lefts i 0)) c
        → Adds a (RecordMove nodes lefts (i + 1)) c
    moves_turn i f g =
        adds_as
        (λ q.
        ⊎_elim (λ (u : RecordMove nodes lefts i q). let w = u.within in record { node = u.node; within = omega arith; move = u.move })
        (λ (u : KindMove (kind_at nodes i) i (get_or lefts i 0) q). record { node = i; within = omega arith; move = u }))
        (λ q u.
        let w = u.within in
        ⊎_elim (λ (e : u.node ≡ i). inr (rw e at u.move))
        (λ (n : u.node ≡ i → ⊥). inl (record { node = u.node; within = omega arith; move = u.move }))
        (same_or_not u.node i))
        (adds_then f g)

  -- ---- letters, node by node

  pub letters_none : (a : List ℕ) → Adds a (LetterEntry nodes 0) a
  letters_none a = adds_none a _ (λ q u. let s = u.small in omega arith)

  pub letters_turn : {a b c : List ℕ} (i : ℕ) → i < 64 → Adds a (LetterEntry nodes i) b → Adds b (KindLetter (kind_at nodes i) i) c
      → Adds a (LetterEntry nodes (i + 1)) c
  letters_turn i l f g =
      adds_as
      (λ q.
      ⊎_elim (λ (u : LetterEntry nodes i q). let s = u.small in record { small = omega arith; even = u.even; letter = u.letter })
      (λ (u : KindLetter (kind_at nodes i) i q).
      let e = u.entry in
      let m : q % 128 / 2 ≡ i = omega arith in
      record { small = omega arith; even = omega arith; letter = rw m u.letter }))
      (λ q u.
      let s = u.small in
      ⊎_elim (λ (h : q % 128 / 2 < i). inl record { small = h; even = u.even; letter = u.letter })
      (λ (h : i ≤ q % 128 / 2).
      let m : q % 128 / 2 ≡ i = omega arith in
      let e = u.even in
      let o : q % 128 % 2 ≡ 0 = omega arith in
      inr record { entry = omega arith; letter = rw m at u.letter })
      (below_or_not (q % 128 / 2) i))
      (adds_then f g)

  -- ---- special nodes, node by node

  pub specials_none : (a : List ℕ) → Adds a (SpecialEntry nodes 0) a
  specials_none a = adds_none a _ (λ q u. let s = u.small in omega arith)

  pub specials_turn : {a b c : List ℕ} (i : ℕ) → Adds a (SpecialEntry nodes i) b → Adds b (KindSpecial (kind_at nodes i) i) c
      → Adds a (SpecialEntry nodes (i + 1)) c
  specials_turn i f g =
      adds_as
      (λ q.
      ⊎_elim (λ (u : SpecialEntry nodes i q). let s = u.small in record { small = omega arith; even = u.even; special = u.special })
      (λ (u : KindSpecial (kind_at nodes i) i q).
      let e = u.entry in
      let m : q / 2 ≡ i = omega arith in
      record { small = omega arith; even = omega arith; special = rw m u.special }))
      (λ q u.
      let s = u.small in
      ⊎_elim (λ (h : q / 2 < i). inl record { small = h; even = u.even; special = u.special })
      (λ (h : i ≤ q / 2).
      let m : q / 2 ≡ i = omega arith in
      let e = u.even in
      inr record { entry = omega arith; special = rw m at u.special })
      (below_or_not (q / 2) i))
      (adds_then f g)

-- ---- which states moves leave

-- the free moves that node i brings leave states up to its exit
kind_low : (k : Kind) (i l s t : ℕ) → i < 64 → l ≤ i → t < 128 → NotFirst k i → KindMove k i l (128 * s + t) → s ≤ 2 * i + 1
kind_low Empty i l s t h o v p u = absurd u
kind_low Epsilon i l s t h o v p u = omega arith
kind_low (Letter c) i l s t h o v p u = absurd u
kind_low Union i l s t h o v p (inl u) = omega arith
kind_low Union i l s t h o v p (inr (inl u)) = omega arith
kind_low Union i l s t h o v p (inr (inr (inl u))) = omega arith
kind_low Union i l s t h o v p (inr (inr (inr u))) = omega arith
kind_low Intersection i l s t h o v p u = absurd u
kind_low Concatenation i l s t h o v p (inl u) = omega arith
kind_low Concatenation i l s t h o v p (inr (inl u)) = omega arith
kind_low Concatenation i l s t h o v p (inr (inr u)) = omega arith
kind_low Complement i l s t h o v p u = absurd u
kind_low Star i l s t h o v p (inl u) = omega arith
kind_low Star i l s t h o v p (inr (inl u)) = omega arith
kind_low Star i l s t h o v p (inr (inr (inl u))) = omega arith
kind_low Star i l s t h o v p (inr (inr (inr u))) = omega arith

pub moves_low : {nodes : List Node} {lefts moves : List ℕ} {m : ℕ} → m ≤ 64
    → SidesBefore nodes lefts m → Adds (replicate 256 0) (RecordMove nodes lefts m) moves → LeaveBelow (2 * m) moves
moves_low {nodes} {lefts} {moves} {m} few sides f s t v e =
    ⊎_elim (λ (z : bit_at (replicate 256 0) (128 * s + t) ≡ true). absurd (false≢true (sym (zeros_bit 256 (128 * s + t)) ∙ z)))
    (λ (u : RecordMove nodes lefts m (128 * s + t)).
    let w = u.within in
    let (o, p) = sides u.node w in
    let h = kind_low (kind_at nodes u.node) u.node (get_or lefts u.node 0) s t (omega arith) o v p u.move in
    omega arith)
    (f.only (128 * s + t) e)
