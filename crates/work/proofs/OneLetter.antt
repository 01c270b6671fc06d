-- What the sets of single letters, of all letters and of bracketed letters mean: in languages, and in the walk. Assumes nothing.
use Prim.Native.Nat.{ℕ}
use mathlib.Core.Path.{◌≡◌, refl, sym, ap, subst, ◌∙◌}
use mathlib.Core.Logic.{◌↔◌}
use mathlib.Core.List.{List, [], ◌∷◌}
use lib.Dec.{T}
use borrow.Author.Tests.{eq-eqb, eqb-true}
use Rattle.event.specs.Event.{is_event, Word, Events}
use Rattle.event.specs.LetterSets.{holds, single, every, letters_of}
use Rattle.event.specs.declared.sets.LetterSet.{LetterSet}
use Rattle.event.specs.SetParts.{is_in, OneOf}
use Rattle.event.proofs.SetLaws.{holds_event, single_holds, every_holds, letters_hold}
use Rattle.event.proofs.Tests.{of_T, T_of}
use Rattle.expression.specs.Tree.{letter}
use Rattle.expression.specs.Lang.{Lang}
use Rattle.work.specs.Walk.{Fits}

-- 02 e): "Rules without the new signs give the tables and counts they gave": the walk moves at a single letter if the next event "is the letter"
pub one_move : (b x : ℕ) → T (is_event b) → Fits (single b) x ↔ (x ≡ b)
one_move b x h = (
  λ f. eqb-true x b (sym (single_holds b x h) ∙ of_T _ f),
  λ e. T_of _ (single_holds b x h ∙ eq-eqb x b e),
)

-- and its language is that letter's, L(σ) = {σ}
pub one_language : (o b : ℕ) (w : Word) → T (is_event b) → Lang (letter o (single b)) w ↔ (w ≡ b ∷ [])
one_language o b w h = (
  λ l. l.1 ∙ ap (◌∷ []) ((one_move b l.0 h).0 l.2),
  λ e. (b, e, (one_move b b h).1 refl),
)

-- 02 e): "`.` one node for all 52"
pub every_language : (o : ℕ) (w : Word) → Lang (letter o every) w ↔ OneOf is_event w
every_language o w = (
  λ l. (l.0, l.1, subst T (every_holds l.0) l.2),
  λ l. (l.0, l.1, subst T (sym (every_holds l.0)) l.2),
)

-- 02 e): "`[abc]` shall be one node that fits any of the letters inside"
pub set_language : (o : ℕ) (u : List ℕ) (w : Word) → Events u → Lang (letter o (letters_of u)) w ↔ OneOf (λ x. is_in x u) w
set_language o u w h = (
  λ l. (l.0, l.1, subst T (letters_hold u l.0 h) l.2),
  λ l. (l.0, l.1, subst T (sym (letters_hold u l.0 h)) l.2),
)

-- 02 e): "section 2.1 takes a set as the union of its letters"
pub set_union : (o : ℕ) (c : LetterSet) (w : Word) → Lang (letter o c) w ↔ ((b : ℕ) × T (holds c b) × Lang (letter o (single b)) w)
set_union o c w = (
  λ l. (l.0, l.2, (one_language o l.0 w (holds_event c l.0 l.2)).1 l.1),
  λ l. (l.0, (one_language o l.0 w (holds_event c l.0 l.1)).0 l.2, l.1),
)
