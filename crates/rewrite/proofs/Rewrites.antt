-- The rewritten text of a sentence is a sentence, and its reading can stand for the old one. Assumes nothing.
use Prim.Native.Nat.{ℕ, ◌+◌}
use native.Mathlib.Omega.{arith}
use mathlib.Core.Path.{◌≡◌, refl, sym, ap, subst, ◌∙◌}
use mathlib.Core.Logic.{◌⊎◌, inl, inr}
use mathlib.Core.List.{List, [], ◌∷◌, ◌++◌, append-nil}
use lib.ListN.{length, get_or}
use borrow.Author.Tests.{eqb-false}
use Rattle.event.specs.Event.{is_event, Events}
use Rattle.event.specs.LetterSets.{single, every, letters_of}
use Rattle.event.proofs.EventLaws.{event_apart}
use Rattle.expression.specs.Tree.{Tree, star}
use Rattle.expression.specs.Grammar.{Level, Alt, Post, Atom, Reads, alt_conj, alt_bar, conj_seq, conj_amp, seq_pre, seq_more}
use Rattle.expression.specs.Grammar.{pre_post, pre_bang, post_atom, post_star, atom_letter, atom_any, atom_set, atom_empty, atom_epsilon, atom_group}
use Rattle.expression.proofs.OneReading.{one_reading}
use Rattle.expression.proofs.DoubleLaws.{not_doubled}
use Rattle.expression.proofs.Texts.{begins, start_not}
use Rattle.rewrite.specs.Rewritten.{squeezed_after, rewritten}
use Rattle.rewrite.specs.Same.{SameLang, Same}
use Rattle.rewrite.proofs.StarLaws.{ends, ends_snoc, rewritten_append, rewritten_sign, rewritten_star, rewritten_again, squeezed_any, squeezed_kept}
use Rattle.rewrite.proofs.SameLaws.{same_empty, same_epsilon, same_letter, same_union, same_intersection, same_concatenation}
use Rattle.rewrite.proofs.SameLaws.{same_complement, same_star, same_again}
use Rattle.rewrite.proofs.Counts.{NoMorePlaces, light_leaf, light_union, light_intersection, light_concatenation, light_complement}
use Rattle.rewrite.proofs.Counts.{light_star, light_again}

-- the rewritten text of u, at the offset n, is read at the same level, as a tree that can stand for t
pub record Rewrites (l : Level) (n : ℕ) (u : List ℕ) (t : Tree) : Type 0 where
  pub tree : Tree
  pub reads : Reads l n (rewritten u) tree
  pub same : Same t tree
  pub light : NoMorePlaces t tree  -- no more places

-- a text that is read begins with no star
starless : {l : Level} {o : ℕ} {u : List ℕ} {t : Tree} → Reads l o u t → (x : List ℕ) → get_or (u ++ x) 0 0 ≡ 42 → ⊥
unfolding is_event
starless {u = u} r x = eqb-false (get_or (u ++ x) 0 0) 42 (start_not (get_or (u ++ x) 0 0) 42 (begins r x) refl)

headless : {l : Level} {o : ℕ} {u : List ℕ} {t : Tree} → Reads l o u t → get_or u 0 0 ≡ 42 → ⊥
headless {u = u} r = subst (λ (s : List ℕ). get_or s 0 0 ≡ 42 → ⊥) (append-nil u) (starless r [])

-- ---- a star behind an operand: the first one stays, and one behind a star falls away
abbrev Starred : Tree → Type 0
Starred t = (o : ℕ) × (r : Tree) × (t ≡ star o r)

atom_end : {o : ℕ} {u : List ℕ} {t : Tree} → Reads Atom o u t → ends 0 u ≡ 42 → ⊥
atom_end (atom_letter {b = b} h) e = event_apart b 42 h tt e
atom_end atom_any e = omega arith
atom_end (atom_set u l h) e = let z = ends_snoc 91 u 93 in omega arith
atom_end atom_empty e = omega arith
atom_end atom_epsilon e = omega arith
atom_end (atom_group {u = u} r) e = let z = ends_snoc 40 u 41 in omega arith

post_end : {o : ℕ} {u : List ℕ} {t : Tree} → Reads Post o u t → (ends 0 u ≡ 42 → ⊥) ⊎ ((ends 0 u ≡ 42) × Starred t)
post_end (post_atom r) = inl (atom_end r)
post_end {o = o} (post_star {u = u} {t = t} r) = inr (ends_snoc 0 u 42, (o + length u, t, refl))

one_star : {u : List ℕ} {t : Tree} (o n : ℕ) → (ends 0 u ≡ 42 → ⊥) ⊎ ((ends 0 u ≡ 42) × Starred t) → Rewrites Post n u t
    → Rewrites Post n (u ++ 42 ∷ []) (star o t)
one_star {u} {t} o n (inl h) x =
    record {
      tree = star (n + length (rewritten u)) x.tree;
      reads = subst (λ (s : List ℕ). Reads Post n s (star (n + length (rewritten u)) x.tree)) (sym (rewritten_star u h)) (post_star x.reads);
      same = same_star o (n + length (rewritten u)) x.same;
      light = light_star o (n + length (rewritten u)) x.same x.light;
    }
one_star {u} {t} o n (inr h) x =
    let (q, r, e) = h.1 in
    let y : Same (star q r) x.tree = subst (λ (v : Tree). Same v x.tree) e x.same in
    let z : NoMorePlaces (star q r) x.tree = subst (λ (v : Tree). NoMorePlaces v x.tree) e x.light in
    record {
      tree = x.tree;
      reads = subst (λ (s : List ℕ). Reads Post n s x.tree) (sym (rewritten_again u h.0)) x.reads;
      same = subst (λ (v : Tree). Same (star o v) x.tree) (sym e) (same_again o q r y);
      light = subst (λ (v : Tree). NoMorePlaces (star o v) x.tree) (sym e) (light_again o q r z);
    }

-- ---- the theorem, at every level and offset
-- the same with the text written another way
text : {l : Level} {n : ℕ} {s : List ℕ} {u : List ℕ} {t v : Tree} → rewritten u ≡ s → Reads l n s v → Same t v → NoMorePlaces t v → Rewrites l n u t
text {l} {n} {s} {u} {t} {v} e r q g = record { tree = v; reads = subst (λ (x : List ℕ). Reads l n x v) (sym e) r; same = q; light = g }

byte : (b : ℕ) → (b ≡ 42 → ⊥) → rewritten (b ∷ []) ≡ b ∷ []
unfolding squeezed_after
byte b h = squeezed_kept 0 b [] (not_doubled 0 b h)

letters_kept : (p : ℕ) (u v : List ℕ) → Events u → (get_or v 0 0 ≡ 42 → ⊥) → squeezed_after p (u ++ v) ≡ u ++ squeezed_after 0 v
letters_kept p [] v h n = squeezed_any p 0 v n
letters_kept p (b ∷ u) v h n =
    squeezed_kept p b (u ++ v) (not_doubled p b (event_apart b 42 h.0 tt)) ∙ ap (λ (x : List ℕ). b ∷ x) (letters_kept b u v h.1 n)

set_kept : (u : List ℕ) → Events u → rewritten (91 ∷ u ++ 93 ∷ []) ≡ 91 ∷ u ++ 93 ∷ []
unfolding squeezed_after
set_kept u h =
    squeezed_kept 0 91 (u ++ 93 ∷ []) (not_doubled 0 91 (λ e. omega arith))
    ∙ ap (λ (x : List ℕ). 91 ∷ x) (letters_kept 91 u (93 ∷ []) h (λ e. omega arith))

pub rewrites : {l : Level} {o : ℕ} {u : List ℕ} {t : Tree} → Reads l o u t → (n : ℕ) → Rewrites l n u t
unfolding squeezed_after
rewrites (alt_conj r) n = let x = rewrites r n in record { tree = x.tree; reads = alt_conj x.reads; same = x.same; light = x.light }
rewrites (alt_bar {u = u} {v = v} r q) n =
    let x = rewrites r n in
    let k = n + length (rewritten u) in
    let y = rewrites q (k + 1) in
    text (rewritten_sign 124 u v (λ e. omega arith) (headless q)) (alt_bar x.reads y.reads) (same_union _ k x.same y.same)
    (light_union _ k x.same y.same x.light y.light)
rewrites (conj_seq r) n = let x = rewrites r n in record { tree = x.tree; reads = conj_seq x.reads; same = x.same; light = x.light }
rewrites (conj_amp {u = u} {v = v} r q) n =
    let x = rewrites r n in
    let k = n + length (rewritten u) in
    let y = rewrites q (k + 1) in
    text (rewritten_sign 38 u v (λ e. omega arith) (headless q)) (conj_amp x.reads y.reads) (same_intersection _ k x.same y.same)
    (light_intersection _ k x.same y.same x.light y.light)
rewrites (seq_pre r) n = let x = rewrites r n in record { tree = x.tree; reads = seq_pre x.reads; same = x.same; light = x.light }
rewrites (seq_more {u = u} {v = v} r q) n =
    let x = rewrites r n in
    let k = n + length (rewritten u) in
    let y = rewrites q k in
    text (rewritten_append u v (headless q)) (seq_more x.reads y.reads) (same_concatenation _ k x.same y.same)
    (light_concatenation _ k x.same y.same x.light y.light)
rewrites (pre_post r) n = let x = rewrites r n in record { tree = x.tree; reads = pre_post x.reads; same = x.same; light = x.light }
rewrites (pre_bang {u = u} r) n =
    let x = rewrites r (n + 1) in
    text (rewritten_sign 33 [] u (λ e. omega arith) (headless r)) (pre_bang x.reads) (same_complement _ n x.same)
    (light_complement _ n x.same x.light)
rewrites (post_atom r) n = let x = rewrites r n in record { tree = x.tree; reads = post_atom x.reads; same = x.same; light = x.light }
rewrites (post_star r) n = one_star _ n (post_end r) (rewrites r n)
rewrites (atom_letter {b = b} h) n =
    text (byte b (event_apart b 42 h tt)) (atom_letter h) (same_letter _ n (single b)) (light_leaf _ _ (λ w E. refl) (λ w. refl))
rewrites atom_any n = text (byte 46 (λ e. omega arith)) atom_any (same_letter _ n every) (light_leaf _ _ (λ w E. refl) (λ w. refl))
rewrites (atom_set u l h) n = text (set_kept u h) (atom_set u l h) (same_letter _ n (letters_of u)) (light_leaf _ _ (λ w E. refl) (λ w. refl))
rewrites atom_empty n = text (byte 48 (λ e. omega arith)) atom_empty (same_empty _ n) (light_leaf _ _ (λ w E. refl) (λ w. refl))
rewrites atom_epsilon n = text (byte 49 (λ e. omega arith)) atom_epsilon (same_epsilon _ n) (light_leaf _ _ (λ w E. refl) (λ w. refl))
rewrites (atom_group {u = u} r) n =
    let x = rewrites r (n + 1) in
    let e : rewritten (40 ∷ u ++ 41 ∷ []) ≡ 40 ∷ rewritten (u ++ 41 ∷ []) = rewritten_sign 40 [] (u ++ 41 ∷ []) (λ e. omega arith) (starless r (41 ∷ [])) in
    let f : rewritten (u ++ 41 ∷ []) ≡ rewritten u ++ 41 ∷ [] = rewritten_sign 41 u [] (λ e. omega arith) (λ e. omega arith) in
    text (e ∙ ap (λ (y : List ℕ). 40 ∷ y) f) (atom_group x.reads) x.same x.light

-- ---- of sentences
-- 02 f): "the rewritten rule is shown to have the same language"
pub sentence_rewrites : {s : List ℕ} {t : Tree} → Reads Alt 0 s t → (u : Tree) × Reads Alt 0 (rewritten s) u × SameLang t u
sentence_rewrites r = let x = rewrites r 0 in (x.tree, x.reads, x.same.lang)

-- each text has one reading, so this holds of the readings of the two texts, whatever they are
pub readings_same : {s : List ℕ} {t u : Tree} → Reads Alt 0 s t → Reads Alt 0 (rewritten s) u → Same t u
readings_same {t = t} r q = let x = rewrites r 0 in subst (λ (v : Tree). Same t v) (one_reading x.reads q) x.same
