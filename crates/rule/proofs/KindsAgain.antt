-- The records of a text by way of the numbers of their kinds: none is lost. Assumes nothing.
use Prim.Native.Nat.{ℕ, ◌+◌, ◌%◌, ◌≤◌}
use native.Mathlib.Omega.{arith}
use mathlib.Core.Path.{◌≡◌, refl, ap, ap₂, ◌∙◌}
use mathlib.Core.Bool.{false}
use mathlib.Core.List.{List, [], ◌∷◌, ◌++◌, map, map-append}
use lib.Dec.{eqb, lit<}
use borrow.Author.Tests.{ne_eqb}
use Rattle.event.specs.LetterSets.{none, every, single, letters_of}
use Rattle.event.specs.declared.sets.LetterSet.{LetterSet}
use Rattle.event.specs.SetParts.{OnlyLetters}
use Rattle.event.proofs.SetLaws.{plus_small, gathered_small}
use Rattle.expression.specs.KindNumber.{kind_number}
use Rattle.expression.specs.Tree.{Tree, records, node_record}
use Rattle.expression.specs.Grammar.{Level, Reads, alt_conj, alt_bar, conj_seq, conj_amp, seq_pre, seq_more}
use Rattle.expression.specs.Grammar.{pre_post, pre_bang, post_atom, post_star, atom_letter, atom_any, atom_set, atom_empty, atom_epsilon, atom_group}
use Rattle.expression.specs.declared.Kind.TheVariants.{Letter}
use Rattle.expression.specs.declared.Node.{Node}
use Rattle.rule.specs.KindOf.{kind_of}

-- a record by way of its numbers
abbrev pub again : Node → Node
again x = record { offset = x.offset; kind = kind_of (kind_number x.kind) }

-- a set's number is no other kind's
other : (n k : ℕ) → k ≤ 6 → eqb (9223372036854775808 + n) k ≡ false
other n k h = ne_eqb (9223372036854775808 + n) k (λ e. omega arith)

set_back : (c : LetterSet) → OnlyLetters c → kind_of (kind_number (Letter c)) ≡ Letter c
set_back c h =
    let n = c.bits % 4503599627370496 in
    let m : (9223372036854775808 + n) % 4503599627370496 ≡ c.bits = omega arith in
    simp (
      other n 0 (omega arith),
      other n 1 (omega arith),
      other n 2 (omega arith),
      other n 3 (omega arith),
      other n 4 (omega arith),
      other n 5 (omega arith),
      other n 6 (omega arith),
      m,
    )

two_sides : {x y : List Node} {n : Node} → map again x ≡ x → map again y ≡ y → again n ≡ n
    → map again (x ++ y ++ n ∷ []) ≡ x ++ y ++ n ∷ []
two_sides {x} {y} {n} e f g =
    map-append again (x ++ y) (n ∷ []) ∙ ap₂ ◌++◌ (map-append again x y ∙ ap₂ ◌++◌ e f) (ap (λ (m : Node). m ∷ []) g)

one_side : {x : List Node} {n : Node} → map again x ≡ x → again n ≡ n → map again (x ++ n ∷ []) ≡ x ++ n ∷ []
one_side {x} {n} e g = map-append again x (n ∷ []) ∙ ap₂ ◌++◌ e (ap (λ (m : Node). m ∷ []) g)

-- so the records of a text that the grammar reads are the same again
pub records_again : {l : Level} {o : ℕ} {s : List ℕ} {t : Tree} → Reads l o s t → map again (records t) ≡ records t
unfolding records
records_again (alt_conj r) = records_again r
records_again (alt_bar r q) = two_sides (records_again r) (records_again q) refl
records_again (conj_seq r) = records_again r
records_again (conj_amp r q) = two_sides (records_again r) (records_again q) refl
records_again (seq_pre r) = records_again r
records_again (seq_more r q) = two_sides (records_again r) (records_again q) refl
records_again (pre_post r) = records_again r
records_again (pre_bang r) = one_side (records_again r) refl
records_again (post_atom r) = records_again r
records_again (post_star r) = one_side (records_again r) refl
records_again (atom_letter {o = o} {b = b} h) = ap (node_record o) (set_back (single b) (plus_small none b (lit< tt)))
records_again (atom_any {o = o}) = ap (node_record o) (set_back every (lit< tt))
records_again (atom_set {o = o} u h e) = ap (node_record o) (set_back (letters_of u) (gathered_small u none (lit< tt)))
records_again atom_empty = refl
records_again atom_epsilon = refl
records_again (atom_group r) = records_again r
