-- The bytes of a text that the grammar reads are all in 01's list. Assumes nothing.
use Prim.Native.Nat.{ℕ, zero, suc}
use native.Mathlib.Omega.{arith}
use mathlib.Core.Path.{◌≡◌, refl}
use mathlib.Core.Bool.{true}
use mathlib.Core.List.{List, [], ◌∷◌, ◌++◌}
use lib.Dec.{T}
use lib.ListN.{length}
use Rattle.event.specs.Event.{is_event, Events}
use Rattle.event.proofs.Tests.{of_T}
use Rattle.expression.specs.Tree.{Tree}
use Rattle.expression.specs.Grammar.{Level, Reads, alt_conj, alt_bar, conj_seq, conj_amp, seq_pre, seq_more, pre_post, pre_bang, post_atom, post_star}
use Rattle.expression.specs.Grammar.{atom_letter, atom_any, atom_set, atom_empty, atom_epsilon, atom_group}
use Rattle.rule.specs.RuleAnswer.{is_rule_byte}
use Rattle.rule.specs.RuleMeaning.{Listed}

first : (b : ℕ) (u : List ℕ) → is_rule_byte b ≡ true → Listed u (length u) → Listed (b ∷ u) (length (b ∷ u))
first b u e p zero h = e
first b u e p (suc i) h = p i (omega arith)

joined : (u v : List ℕ) → Listed u (length u) → Listed v (length v) → Listed (u ++ v) (length (u ++ v))
joined [] v p q = q
joined (b ∷ u) v p q = first b (u ++ v) (p 0 (omega arith)) (joined u v (λ i h. p (suc i) (omega arith)) q)

none : Listed [] 0
none i h = absurd (omega arith)

letter : (b : ℕ) → T (is_event b) → is_rule_byte b ≡ true
letter b h = rw (of_T (is_event b) h)

letters : (u : List ℕ) → Events u → Listed u (length u)
letters [] h = none
letters (b ∷ u) h = first b u (letter b h.0) (letters u h.1)

pub read_listed : {l : Level} {o : ℕ} {u : List ℕ} {t : Tree} → Reads l o u t → Listed u (length u)
unfolding is_event
read_listed (alt_conj r) = read_listed r
read_listed (alt_bar {u = u} {v = v} r q) = joined u (124 ∷ v) (read_listed r) (first 124 v refl (read_listed q))
read_listed (conj_seq r) = read_listed r
read_listed (conj_amp {u = u} {v = v} r q) = joined u (38 ∷ v) (read_listed r) (first 38 v refl (read_listed q))
read_listed (seq_pre r) = read_listed r
read_listed (seq_more {u = u} {v = v} r q) = joined u v (read_listed r) (read_listed q)
read_listed (pre_post r) = read_listed r
read_listed (pre_bang {u = u} r) = first 33 u refl (read_listed r)
read_listed (post_atom r) = read_listed r
read_listed (post_star {u = u} r) = joined u (42 ∷ []) (read_listed r) (first 42 [] refl none)
read_listed (atom_letter {b = b} h) = first b [] (letter b h) none
read_listed atom_any = first 46 [] refl none
read_listed (atom_set u h e) = first 91 (u ++ 93 ∷ []) refl (joined u (93 ∷ []) (letters u e) (first 93 [] refl none))
read_listed atom_empty = first 48 [] refl none
read_listed atom_epsilon = first 49 [] refl none
read_listed (atom_group {u = u} r) = first 40 (u ++ 41 ∷ []) refl (joined u (41 ∷ []) (read_listed r) (first 41 [] refl none))
