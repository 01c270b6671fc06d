-- Rules without the new signs of 02 e), for the theorems that they mean what they meant. Assumes nothing.
use Rattle.std.specs.Prelude.{ℕ, ◌≡◌, List, [], ◌∷◌, T}
use Rattle.event.specs.Event.{is_event}
use Rattle.event.specs.LetterSets.{single}
use Rattle.expression.specs.Tree.{Tree, empty, epsilon, letter, union, intersection, concatenation, complement, star}

-- no byte of the text is `[` or `.`
abbrev pub Plain : List ℕ → Type 0
Plain [] = Unit {0}
Plain (b ∷ s) = (b ≡ 91 → ⊥) × (b ≡ 46 → ⊥) × Plain s

-- every letter of the tree is a single one
abbrev pub SingleLetters : Tree → Type 0
SingleLetters (empty o) = Unit {0}
SingleLetters (epsilon o) = Unit {0}
SingleLetters (letter o c) = (b : ℕ) × T (is_event b) × (c ≡ single b)
SingleLetters (union o a b) = SingleLetters a × SingleLetters b
SingleLetters (intersection o a b) = SingleLetters a × SingleLetters b
SingleLetters (concatenation o a b) = SingleLetters a × SingleLetters b
SingleLetters (complement o a) = SingleLetters a
SingleLetters (star o a) = SingleLetters a
