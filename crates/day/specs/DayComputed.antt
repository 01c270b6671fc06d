-- What the day reader answers of a file, and what it leaves in the two buffers, computed. Assumes nothing.
-- That `day_events` is what a file comes to is `events_read`, `read_events` and `read_refused` in proofs/Answered, and that `day_answer` is the one
-- answer which has `DayMeaning` is `answer_means` and `answer_is` there.
use Rattle.std.specs.Prelude.{ℕ, cond, ◌||◌, List, ltb, length}
use Rattle.day.specs.DayLines.{LinesResult, stopped, events, day_lines}
use Rattle.day.specs.DayAnswer.{DayAnswer, refusal_verdict, told, acceptance}
use Rattle.day.specs.DayMeaning.{DayRefused, Whole}
use Rattle.day.specs.declared.Refusal.TheVariants as why

-- 01, number 11: "over 2,550 bytes"; then the lines
unfoldable pub day_events : List ℕ → LinesResult
day_events s = cond (ltb 2550 (length s)) (stopped why.LongFile) (day_lines 255 0 s)

-- a file comes to this by the form of its lines: it is refused with that number and place, or is the lines of these events
abbrev pub ComesTo : List ℕ → LinesResult → Type 0
ComesTo s (stopped r) = DayRefused s (refusal_verdict r).number (refusal_verdict r).place
ComesTo s (events l) = Whole s l

-- 01, number 15: "a buffer shorter than n, after all lines"; the others by what the file comes to
abbrev pub answered : LinesResult → List ℕ → List ℕ → DayAnswer
answered (stopped r) ls ss = told (refusal_verdict r) 0 ls ss
answered (events l) ls ss = cond (ltb (length ls) (length l) || ltb (length ss) (length l)) (told (refusal_verdict why.ShortBuffer) 0 ls ss) (acceptance l ls ss)

-- of a file and the two buffers at entry
unfoldable pub day_answer : List ℕ → List ℕ → List ℕ → DayAnswer
day_answer s ls ss = answered (day_events s) ls ss
