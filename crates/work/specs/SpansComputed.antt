-- The obeying spans of a word, computed. Assumes nothing.
use Rattle.std.specs.Prelude.{[], ◌∷◌, Bool, cond, ℕ, zero, suc, length}
use Rattle.std.proofs.Math.Seq.{slice}
use Rattle.event.specs.Event.{Word}
use Rattle.expression.specs.Tree.{Tree}
use Rattle.expression.specs.Accept.{accepts}
use Rattle.work.specs.Spans.{Spans}

-- span (i, j) goes in front of the list if it obeys
abbrev pub list_if : Bool → ℕ → ℕ → Spans → Spans
list_if b i j l = cond b ((i, j) ∷ l) l

-- the obeying spans (i, j) to (i, j + d), in front of a list
abbrev pub from_start : Word → Tree → ℕ → ℕ → ℕ → Spans → Spans
from_start w t i zero j l = list_if (accepts t (slice i j w)) i j l
from_start w t i (suc d) j l = let r = from_start w t i d (suc j) l in list_if (accepts t (slice i j w)) i j r

-- those of the starts i to i + d, where i + d is the word's length
abbrev pub from_starts : Word → Tree → ℕ → ℕ → Spans
from_starts w t zero i = from_start w t i zero i []
from_starts w t (suc d) i = from_start w t i (suc d) i (from_starts w t d (suc i))

-- 01, The program: "by rising i and then rising j". That it has exactly the obeying spans, in this order, are `listed` and `listed_order`
-- in proofs/Listed.
unfoldable pub obeying : Word → Tree → Spans
obeying w t = from_starts w t (length w) 0
