-- 02 e): "Rules without the new signs give the tables and counts they gave": such a rule has single letters alone, and nothing out of order.
-- Assumes nothing.
use Prim.Native.Nat.{ℕ}
use mathlib.Core.Path.{refl, subst}
use mathlib.Core.List.{List, [], ◌∷◌, ◌++◌}
use Rattle.expression.specs.Tree.{Tree}
use Rattle.expression.specs.Grammar.{Level, Reads, alt_conj, alt_bar, conj_seq, conj_amp, seq_pre, seq_more, pre_post, pre_bang, post_atom, post_star}
use Rattle.expression.specs.Grammar.{atom_letter, atom_any, atom_set, atom_empty, atom_epsilon, atom_group}
use Rattle.expression.specs.Unordered.{Ordered}
use Rattle.expression.specs.Plain.{Plain, SingleLetters}

plain_front : (u v : List ℕ) → Plain (u ++ v) → Plain u
plain_front [] v p = tt
plain_front (b ∷ u) v p = (p.0, p.1, plain_front u v p.2)

plain_rest : (u v : List ℕ) → Plain (u ++ v) → Plain v
plain_rest [] v p = p
plain_rest (b ∷ u) v p = plain_rest u v p.2

pub plain_letters : {l : Level} {o : ℕ} {s : List ℕ} {t : Tree} → Reads l o s t → Plain s → SingleLetters t
plain_letters (alt_conj r) p = plain_letters r p
plain_letters (alt_bar {u = u} {v = v} r q) p = (plain_letters r (plain_front u (124 ∷ v) p), plain_letters q (plain_rest u (124 ∷ v) p).2)
plain_letters (conj_seq r) p = plain_letters r p
plain_letters (conj_amp {u = u} {v = v} r q) p = (plain_letters r (plain_front u (38 ∷ v) p), plain_letters q (plain_rest u (38 ∷ v) p).2)
plain_letters (seq_pre r) p = plain_letters r p
plain_letters (seq_more {u = u} {v = v} r q) p = (plain_letters r (plain_front u v p), plain_letters q (plain_rest u v p))
plain_letters (pre_post r) p = plain_letters r p
plain_letters (pre_bang r) p = plain_letters r p.2
plain_letters (post_atom r) p = plain_letters r p
plain_letters (post_star {u = u} r) p = plain_letters r (plain_front u (42 ∷ []) p)
plain_letters (atom_letter {b = b} h) p = (b, h, refl)
plain_letters atom_any p = absurd (p.1 refl)
plain_letters (atom_set u h e) p = absurd (p.0 refl)
plain_letters atom_empty p = tt
plain_letters atom_epsilon p = tt
plain_letters (atom_group {u = u} r) p = plain_letters r (plain_front u (41 ∷ []) p.2)

-- so 20 never comes of one
pub plain_ordered : (s : List ℕ) → Plain s → Ordered s
plain_ordered s p i u =
    (plain_rest u.before (91 ∷ (u.letters ++ u.last ∷ u.next ∷ u.rest)) (subst Plain u.whole p)).0 refl
