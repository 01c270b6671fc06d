-- Facts of the texts that the grammar reads. Assumes nothing.
use Prim.Native.Nat.{ℕ, ◌<◌}
use native.Mathlib.Omega.{arith}
use mathlib.Core.Path.{◌≡◌, refl, sym, ap, subst, ◌∙◌}
use mathlib.Core.List.{List, [], ◌∷◌, ◌++◌, append_assoc, append-nil}
use mathlib.Core.Bool.{true, false, true≢false}
use lib.ListN.{length, get_or}
use lib.Dec.{T, eqb}
use borrow.Author.Tests.{ne_eqb}
use Rattle.event.specs.Event.{is_event}
use Rattle.event.proofs.Tests.{of_T}
use Rattle.event.proofs.EventLaws.{event_not, reserved_foreign}
use Rattle.expression.specs.Bytes.{is_leaf, is_start}
use Rattle.expression.specs.Tree.{Tree}
use Rattle.expression.specs.Grammar.{Level, Reads, alt_conj, alt_bar, conj_seq, conj_amp, seq_pre, seq_more, pre_post, pre_bang, post_atom, post_star}
use Rattle.expression.specs.Grammar.{atom_letter, atom_any, atom_set, atom_empty, atom_epsilon, atom_group}

pub letter_leaf : (b : ℕ) → T (is_event b) → is_leaf b ≡ true
letter_leaf b h = simp (event_not b 48 h tt, event_not b 49 h tt, event_not b 46 h tt, of_T (is_event b) h)

letter_start : (b : ℕ) → T (is_event b) → is_start b ≡ true
letter_start b h = simp (event_not b 33 h tt, event_not b 40 h tt, event_not b 91 h tt, letter_leaf b h)

-- a text that is read begins with a byte that an operand can begin with
pub begins : {l : Level} {o : ℕ} {u : List ℕ} {t : Tree} → Reads l o u t → (rest : List ℕ) → is_start (get_or (u ++ rest) 0 0) ≡ true
begins (alt_conj r) x = begins r x
begins (alt_bar {u = u} {v = v} r q) x = rw (append_assoc u (124 ∷ v) x) (begins r (124 ∷ v ++ x))
begins (conj_seq r) x = begins r x
begins (conj_amp {u = u} {v = v} r q) x = rw (append_assoc u (38 ∷ v) x) (begins r (38 ∷ v ++ x))
begins (seq_pre r) x = begins r x
begins (seq_more {u = u} {v = v} r q) x = rw (append_assoc u v x) (begins r (v ++ x))
begins (pre_post r) x = begins r x
begins (pre_bang r) x = refl
begins (post_atom r) x = begins r x
begins (post_star {u = u} r) x = rw (append_assoc u (42 ∷ []) x) (begins r (42 ∷ x))
begins (atom_letter {b = b} h) x = letter_start b h
begins atom_any x = refl
begins (atom_set u h e) x = refl
begins atom_empty x = refl
begins atom_epsilon x = refl
begins (atom_group r) x = refl

-- a byte with which an operand can begin is no other sign
pub start_not : (b c : ℕ) → is_start b ≡ true → is_start c ≡ false → eqb b c ≡ false
start_not b c h g = ne_eqb b c (λ e. true≢false (sym h ∙ ap is_start e ∙ g))

-- nor does one begin where a text has ended
pub start_some : (s : List ℕ) → is_start (get_or s 0 0) ≡ true → 0 < length s
start_some [] h = absurd (true≢false (sym h ∙ reserved_foreign 0 tt))
start_some (b ∷ s) h = omega arith

-- a text that is read has a byte
pub nonempty : {l : Level} {o : ℕ} {u : List ℕ} {t : Tree} → Reads l o u t → 0 < length u
nonempty {u = u} r = start_some u (subst (λ (s : List ℕ). is_start (get_or s 0 0) ≡ true) (append-nil u) (begins r []))
