-- The lines of a day file, computed. Assumes nothing.
-- That they are those of `LineAt` and `Lines` is `line_sound`, `line_found` in proofs/LineForm, `good_lines`, `whole_lines` in proofs/Answered.
use Rattle.std.specs.Prelude.{ℕ, zero, suc, ◌+◌, ◌-◌, Bool, cond, not, ◌&&◌, ◌||◌, List, [], ◌∷◌, leb, ltb, eqb, length, get_or, take, drop, Option, Some, None, Result, Ok, Err}
use Rattle.event.specs.Event.{is_event}
use Rattle.event.specs.Leading.{leading}
use Rattle.decimal.specs.Numeral.{is_digit, value_of}
use Rattle.day.specs.DayFile.{last_second, event_tag, DayEvent}
use Rattle.day.specs.declared.Refusal.{Refusal}
use Rattle.day.specs.declared.Refusal.TheVariants as why
use Rattle.day.specs.declared.line.Line.{Line}

-- how many digits stand at the front
abbrev pub digit_count : List ℕ → ℕ
digit_count s = leading is_digit s

-- so many digits, of which this is the first, can be a second
abbrev pub is_second : ℕ → ℕ → Bool
is_second count first = eqb count 1 || (not (eqb first 48) && leb 1 count && leb count 5)

-- the text has the form of a line whose second has d digits
abbrev pub is_line : ℕ → List ℕ → Bool
is_line d s =
    eqb (get_or s 0 0) event_tag && eqb (get_or s 1 0) 9 && is_second d (get_or s 2 0)
    && eqb (get_or s (d + 2) 0) 9 && is_event (get_or s (d + 2 + 1) 0) && eqb (get_or s (d + 2 + 2) 0) 10

-- a line that is read: its second, its letter and its length
abbrev pub line : ℕ → ℕ → ℕ → Line
line second letter size = record { second = second; letter = letter; size = size }

-- the line at the front
abbrev pub line_with : ℕ → List ℕ → Option Line
line_with d s = cond (is_line d s) (Some (line (value_of (take d (drop 2 s))) (get_or s (d + 2 + 1) 0) (d + 2 + 3))) None

unfoldable pub line_of : List ℕ → Option Line
line_of s = line_with (digit_count (drop 2 s)) s

-- what the lines of a file come to: refused at a line, or the events in line order
pub data LinesResult : Type 0 where
  stopped : Refusal → LinesResult
  events : List DayEvent → LinesResult

abbrev pub front : DayEvent → LinesResult → LinesResult
front e (stopped r) = stopped r
front e (events l) = events (e ∷ l)

-- line p at the front of s, after a line of the second y; `next` judges what follows
abbrev pub judged : (ℕ → List ℕ → LinesResult) → ℕ → ℕ → List ℕ → Option Line → LinesResult
judged next p y s None = stopped (why.Malformed p)
judged next p y s (Some l) =
    cond (ltb last_second l.second || ltb l.second y) (stopped (why.WrongSecond p))
    (front (record { second = l.second; letter = l.letter }) (next l.second (drop l.size s)))

-- the lines of s, after a line of the second y; at most so many may still come, of 255 in all
unfoldable pub day_lines : ℕ → ℕ → List ℕ → LinesResult
day_lines zero y [] = events []
day_lines zero y (b ∷ s) = stopped why.ManyLines
day_lines (suc left) y [] = events []
day_lines (suc left) y (b ∷ s) = judged (day_lines left) (255 - left) y (b ∷ s) (line_of (b ∷ s))

-- what the first pass finds where n lines came before
abbrev pub checked : ℕ → LinesResult → Result ℕ Refusal
checked n (stopped r) = Err r
checked n (events l) = Ok (n + length l)

-- the events of the first n lines, as far as they are of the form
abbrev pub with_line : (List ℕ → List DayEvent) → List ℕ → Option Line → List DayEvent
with_line next s None = []
with_line next s (Some l) = record { second = l.second; letter = l.letter } ∷ next (drop l.size s)

unfoldable pub events_of : ℕ → List ℕ → List DayEvent
events_of zero s = []
events_of (suc n) s = with_line (events_of n) s (line_of s)
