-- Seconds about the edges that documents 01 and 02 name, seconds that fall, and letters at the ends of the two runs, by computation.
-- Assumes nothing.
use Prim.Native.Nat.{ℕ}
use Prim.Native.String.{String}
use mathlib.Core.Path.{◌≡◌, refl}
use mathlib.Core.List.{[], ◌∷◌, map}
use lib.ListN.{replicate}
use Rattle.event.specs.Event.{is_event}
use Rattle.event.specs.Leading.{leading}
use Rattle.event.specs.Text.{bytes}
use Rattle.day.specs.DayLines.{line_of, day_lines}
use Rattle.day.specs.DayAnswer.{values}
use Rattle.day.specs.DayComputed.{day_events, day_answer}

-- 02 c): "A second may be up to 89,999, so 13 begins at 90,000 and 01's edge moves there"; 01: "100,000 gives 12."
seconds : map (λ (s : String). day_answer (bytes s) (7 ∷ []) (9 ∷ []))
    ("E\t89999\ta\n" ∷ "E\t90000\ta\n" ∷ "E\t99999\ta\n" ∷ "E\t100000\ta\n" ∷ [])
    ≡ values 0 0 1 (97 ∷ []) (89999 ∷ []) ∷ values 13 1 0 (7 ∷ []) (9 ∷ []) ∷ values 13 1 0 (7 ∷ []) (9 ∷ [])
    ∷ values 12 1 0 (7 ∷ []) (9 ∷ []) ∷ []
unfolding day_answer day_events day_lines line_of leading is_event
seconds = refl

-- 02 c): "Seconds still never fall from line to line": not by the hour that the clocks go back, nor within the 25th hour
falling_seconds : map (λ (s : String). day_answer (bytes s) (7 ∷ []) (9 ∷ [])) ("E\t10800\ta\nE\t7200\tb\n" ∷ "E\t86401\ta\nE\t86400\tb\n" ∷ [])
    ≡ replicate 2 (values 13 2 0 (7 ∷ []) (9 ∷ []))
unfolding day_answer day_events day_lines line_of leading is_event
falling_seconds = refl

-- 02 a): "An event is now one of 52 letters, in .. day lines": the ends of the two runs, and `E`, which is a tag by its place alone
letters : map (λ (s : String). day_answer (bytes s) (7 ∷ []) (9 ∷ []))
    ("E\t0\tA\n" ∷ "E\t0\tZ\n" ∷ "E\t0\ta\n" ∷ "E\t0\tz\n" ∷ "E\t0\tE\n" ∷ [])
    ≡ map (λ (c : ℕ). values 0 0 1 (c ∷ []) (0 ∷ [])) (65 ∷ 90 ∷ 97 ∷ 122 ∷ 69 ∷ [])
unfolding day_answer day_events day_lines line_of leading is_event
letters = refl

-- 02 a): 12 reads "the wider alphabet": the bytes beside the two runs
beside_letters : map (λ (s : String). day_answer (bytes s) (7 ∷ []) (9 ∷ []))
    ("E\t0\t@\n" ∷ "E\t0\t[\n" ∷ "E\t0\t`\n" ∷ "E\t0\t{\n" ∷ [])
    ≡ replicate 4 (values 12 1 0 (7 ∷ []) (9 ∷ []))
unfolding day_answer day_events day_lines line_of leading is_event
beside_letters = refl
