-- Edges of 02 g), by computation. Assumes nothing.
use Prim.Native.Nat.{ℕ}
use Prim.Native.String.{String}
use mathlib.Core.Path.{◌≡◌, refl}
use mathlib.Core.List.{List, [], ◌∷◌, map}
use lib.ListN.{replicate}
use Rattle.event.specs.Event.{is_event}
use Rattle.event.specs.Leading.{leading}
use Rattle.event.specs.Text.{bytes}
use Rattle.day.specs.DayFile.{DayEvent}
use Rattle.day.specs.DayLines.{line_of, day_lines}
use Rattle.day.specs.DayAnswer.{DayAnswer, values}
use Rattle.day.specs.DayComputed.{day_events}
use Rattle.merge.specs.Merged.{of_first, of_second}
use Rattle.merge.specs.MergeComputed.{merged, after_both, merge_answer}

abbrev event : ℕ → ℕ → DayEvent
event x c = record { second = x; letter = c }

-- "At equal seconds the first file's events come first. Each file's own order is kept": runs of equal seconds on both sides
ties : merged (event 5 97 ∷ event 5 98 ∷ event 9 99 ∷ []) (event 4 120 ∷ event 5 121 ∷ event 5 122 ∷ event 9 119 ∷ [])
    ≡ of_second (event 4 120) ∷ of_first (event 5 97) ∷ of_first (event 5 98) ∷ of_second (event 5 121) ∷ of_second (event 5 122)
    ∷ of_first (event 9 99) ∷ of_second (event 9 119) ∷ []
unfolding merged
ties = refl

-- what is left of one file when the other has ended
tails : map (λ (p : List DayEvent × List DayEvent). merged p.0 p.1)
    (((event 1 97 ∷ []), (event 2 98 ∷ event 3 99 ∷ [])) ∷ ((event 2 98 ∷ event 3 99 ∷ []), (event 1 97 ∷ [])) ∷ ([], []) ∷ [])
    ≡ (of_first (event 1 97) ∷ of_second (event 2 98) ∷ of_second (event 3 99) ∷ [])
    ∷ (of_second (event 1 97) ∷ of_first (event 2 98) ∷ of_first (event 3 99) ∷ []) ∷ [] ∷ []
unfolding merged
tails = refl

-- the answer of two texts, to buffers of two elements
abbrev answer : String → String → DayAnswer
answer s t = merge_answer (bytes s) (bytes t) (7 ∷ 8 ∷ []) (1 ∷ 2 ∷ [])

abbrev refused : ℕ → ℕ → DayAnswer
refused number place = values number place 0 (7 ∷ 8 ∷ []) (1 ∷ 2 ∷ [])

-- "a refusal of the first file is given before one of the second": a bad line 1 of the second, and a bad line 2 of the first
first_before_second : answer "E\t5\ta\nE\t4\tb\n" "E\tx\ta\n" ≡ refused 13 2
unfolding merge_answer day_events day_lines line_of leading is_event
first_before_second = refl

-- the second file's own line is the place, and its refusal comes before 15
second_line : answer "E\t5\ta\nE\t6\tb\n" "E\t7\ta\nE\tx\tb\n" ≡ refused 12 2
unfolding merge_answer day_events day_lines line_of leading is_event
second_line = refl

-- 15 for the events together, exact room, and room to spare
room : answer "E\t5\ta\nE\t6\tb\n" "E\t5\tc\n" ∷ answer "E\t5\ta\n" "E\t5\tb\n" ∷ answer "" "E\t0\tb\n" ∷ answer "" "" ∷ []
    ≡ refused 15 0 ∷ values 0 0 2 (97 ∷ 98 ∷ []) (5 ∷ 5 ∷ []) ∷ values 0 0 1 (98 ∷ 8 ∷ []) (0 ∷ 2 ∷ []) ∷ values 0 0 0 (7 ∷ 8 ∷ []) (1 ∷ 2 ∷ []) ∷ []
unfolding merge_answer merged day_events day_lines line_of leading is_event
room = refl

-- "22, over 255 events together, after both files and before 15": 255 are none too many, 256 are, whatever the room
together : map (λ (n : ℕ). (after_both (replicate n (event 5 97)) (replicate 128 (event 5 98)) [] []).number) (127 ∷ 128 ∷ []) ≡ 15 ∷ 22 ∷ []
unfolding merged
together = refl
