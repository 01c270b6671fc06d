-- The leaf at the front of a text. Assumes nothing.
use Rattle.std.specs.Prelude.{ℕ, ◌+◌, List, cond, eqb, ltb, length, get_or, take, drop}
use Rattle.event.specs.Event.{is_event}
use Rattle.event.specs.Leading.{leading}
use Rattle.event.specs.LetterSets.{single, every, letters_of}
use Rattle.expression.specs.declared.Kind.{Kind}
use Rattle.expression.specs.declared.Kind.TheVariants.{Empty, Epsilon, Letter}
use Rattle.expression.specs.declared.Leaf.{Leaf}

abbrev pub leaf : ℕ → Kind → Leaf
leaf w k = record { width = w; kind = k }

-- the set that a `[` opens before the text s: k letters, and a byte that closes it where there is one
abbrev pub bracketed : List ℕ → ℕ → Leaf
bracketed s k = leaf (cond (ltb k (length s)) (k + 2) (k + 1)) (Letter (letters_of (take k s)))

-- how many bytes the leaf at the front has, and its kind; of a text that begins with none, one byte
unfoldable pub leaf_at : List ℕ → Leaf
leaf_at s =
    let b = get_or s 0 0 in
    let t = drop 1 s in
    cond (eqb b 48) (leaf 1 Empty)
    (cond (eqb b 49) (leaf 1 Epsilon)
    (cond (eqb b 46) (leaf 1 (Letter every))
    (cond (eqb b 91) (bracketed t (leading is_event t)) (leaf 1 (Letter (single b))))))
