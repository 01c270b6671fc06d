-- The first letter inside brackets that is not above the one before it, found byte after byte.
-- That it is the first one of `Unordered` is `unordered_first` and `ordered_all` in proofs/UnorderedLaws. Assumes nothing.
use Rattle.std.specs.Prelude.{ℕ, suc, Bool, true, false, cond, ◌&&◌, List, [], ◌∷◌, eqb, leb}
use Rattle.event.specs.Event.{is_event}
use Rattle.expression.specs.declared.Noted.{Noted}
use Rattle.expression.specs.declared.Noted.TheVariants.{Outside, Opened, Last}

abbrev pub inside : Noted → Bool
inside Outside = false
inside Opened = true
inside (Last c) = true

-- what is noted of the bytes that have passed: `Outside` outside brackets, `Opened` where a bracket has just been opened, or the letter that
-- came last in it
abbrev pub noted : Noted → ℕ → Noted
noted q b = cond (eqb b 91) Opened (cond (is_event b && inside q) (Last b) Outside)

abbrev pub not_above : Noted → ℕ → Bool
not_above Outside b = false
not_above Opened b = false
not_above (Last c) b = leb b c

-- the byte b is such a letter
abbrev pub falls : Noted → ℕ → Bool
falls q b = is_event b && not_above q b

-- how many bytes stand before the first such letter; all where there is none
unfoldable pub unordered_from : Noted → List ℕ → ℕ
unordered_from q [] = 0
unordered_from q (b ∷ s) = cond (falls q b) 0 (suc (unordered_from (noted q b) s))

abbrev pub unordered_at : List ℕ → ℕ
unordered_at s = unordered_from Outside s
