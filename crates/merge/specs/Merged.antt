-- One day of two: what the events of two days come to, each told with the file that it is of. Assumes nothing.
use Rattle.std.specs.Prelude.{◌≤◌, ◌≡◌, List, [], ◌∷◌, ◌++◌}
use Rattle.day.specs.DayFile.{DayEvent}

-- an event, and which of the two files it is of
pub data FileEvent : Type 0 where
  of_first : DayEvent → FileEvent
  of_second : DayEvent → FileEvent

-- the event alone
abbrev pub event_of : FileEvent → DayEvent
event_of (of_first e) = e
event_of (of_second e) = e

-- 02 g): "Each file's own order is kept, nothing is lost and nothing is added.": l is the events a of the first file and the events b of the
-- second, each once, and each file's in its own order
pub data Interleaving : List DayEvent → List DayEvent → List FileEvent → Type 0 where
  none : Interleaving [] [] []
  from_first : {a b : List DayEvent} {l : List FileEvent} {e : DayEvent} → Interleaving a b l → Interleaving (e ∷ a) b (of_first e ∷ l)
  from_second : {a b : List DayEvent} {l : List FileEvent} {e : DayEvent} → Interleaving a b l → Interleaving a (e ∷ b) (of_second e ∷ l)

-- x stands before y in l
pub record Before (l : List FileEvent) (x y : FileEvent) : Type 0 where
  pub front : List FileEvent
  pub between : List FileEvent
  pub rest : List FileEvent
  pub parted : l ≡ front ++ x ∷ between ++ y ∷ rest

-- 02 g): "Two day files become one": l is the one day of the days a and b
pub record Merged (a b : List DayEvent) (l : List FileEvent) : Type 0 where
  pub interleaved : Interleaving a b l
  -- ".. by rising second."
  pub rising : (x y : FileEvent) → Before l x y → (event_of x).second ≤ (event_of y).second
  -- "At equal seconds the first file's events come first."
  pub first_first : (x y : DayEvent) → Before l (of_second x) (of_first y) → x.second ≡ y.second → ⊥

-- the first file's events, in order: what is left when the second file's are taken away
abbrev pub first_events : List FileEvent → List DayEvent
first_events [] = []
first_events (of_first e ∷ l) = e ∷ first_events l
first_events (of_second e ∷ l) = first_events l

-- the second file's events, in order: what is left when the first file's are taken away
abbrev pub second_events : List FileEvent → List DayEvent
second_events [] = []
second_events (of_first e ∷ l) = second_events l
second_events (of_second e ∷ l) = e ∷ second_events l
