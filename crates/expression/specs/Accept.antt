-- The language of a rule, decided by computation: `accepts`. That it decides `Lang` is `decides` in proofs/LangDecided. Assumes nothing.
use Rattle.std.specs.Prelude.{[], ◌∷◌, Bool, true, false, not, ◌&&◌, ◌||◌, ℕ, zero, suc, length}
use Rattle.event.specs.Event.{is_event, Word}
use Rattle.event.specs.LetterSets.{holds}
use Rattle.event.specs.declared.sets.LetterSet.{LetterSet}
use Rattle.expression.specs.Tree.{Tree, empty, epsilon, letter, union, intersection, concatenation, complement, star}

-- the word is empty; is one letter of a set; has only events
abbrev pub is_nil : Word → Bool
is_nil [] = true
is_nil (x ∷ w) = false

abbrev pub is_letter : LetterSet → Word → Bool
is_letter c [] = false
is_letter c (x ∷ w) = holds c x && is_nil w

abbrev pub are_events : Word → Bool
are_events [] = true
are_events (x ∷ w) = is_event x && are_events w

-- some cut of the word has its front in f and its rest in g
abbrev pub cut : (Word → Bool) → (Word → Bool) → Word → Bool
cut f g [] = f [] && g []
cut f g (x ∷ w) = (f [] && g (x ∷ w)) || cut (λ u. f (x ∷ u)) g w

-- the word is joined from at most d words of f, none of them empty
abbrev pub joined : (Word → Bool) → ℕ → Word → Bool
joined f zero [] = true
joined f zero (x ∷ w) = false
joined f (suc d) [] = true
joined f (suc d) (x ∷ w) = cut (λ u. f (x ∷ u)) (joined f d) w

unfoldable pub accepts : Tree → Word → Bool
accepts (empty o) w = false
accepts (epsilon o) w = is_nil w
accepts (letter o c) w = is_letter c w
accepts (union o a b) w = accepts a w || accepts b w
accepts (intersection o a b) w = accepts a w && accepts b w
accepts (concatenation o a b) w = cut (accepts a) (accepts b) w
accepts (complement o a) w = are_events w && not (accepts a w)
accepts (star o a) w = joined (accepts a) (length w) w
