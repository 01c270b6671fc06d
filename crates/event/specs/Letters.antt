-- What the law of events (proofs/EventLaws) and its worked case (proofs/Edges) speak of. Assumes nothing.
use Rattle.std.specs.Prelude.{ℕ, zero, suc, List, [], ◌∷◌, ◌++◌, Bool, cond, ◌||◌, leb, eqb}
use Rattle.event.specs.Event.{is_event}

-- numbers that are no events: all up to the digit `9`, among them the kinds of nodes, tab, newline, the digits and most signs of a rule;
-- and `|`, `<`, `>`, `[` and `]`
abbrev pub is_reserved : ℕ → Bool
is_reserved c = leb c 57 || eqb c 124 || eqb c 60 || eqb c 62 || eqb c 91 || eqb c 93

-- the events below a number, rising
unfoldable pub events_below : ℕ → List ℕ
events_below zero = []
events_below (suc b) = events_below b ++ cond (is_event b) (b ∷ []) []
