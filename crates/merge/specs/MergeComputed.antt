-- The one day of two, and what the merging call answers and leaves in the two buffers, computed. Assumes nothing.
-- That `merged` is the one list which is `Merged` is `merged_means` and `merged_only` in proofs/MergedLaws; that `merge_answer` is the one answer
-- which has `MergeMeaning` is `answer_means` and `answer_is` in proofs/Answered.
use Rattle.std.specs.Prelude.{ℕ, ◌+◌, ◌≤◌, ◌≡◌, Bool, true, false, cond, List, [], ◌∷◌, map, leb, ltb, length}
use Rattle.verdict.specs.Verdicts as verdict
use Rattle.day.specs.DayFile.{DayEvent}
use Rattle.day.specs.DayLines.{LinesResult, stopped, events}
use Rattle.day.specs.DayAnswer.{DayAnswer, refusal_verdict, told}
use Rattle.day.specs.DayComputed.{day_events, answered}
use Rattle.day.specs.declared.Refusal.{Refusal}
use Rattle.merge.specs.Merged.{FileEvent, of_first, of_second, event_of}

-- ---- events
-- the first file's event e among the second file's, which pass it while they are earlier; `next` merges what is left behind it
abbrev pub placed : DayEvent → (List DayEvent → List FileEvent) → List DayEvent → List FileEvent
placed e next [] = of_first e ∷ next []
placed e next (f ∷ b) = cond (leb e.second f.second) (of_first e ∷ next (f ∷ b)) (of_second f ∷ placed e next b)

-- 02 g): ".. by rising second. At equal seconds the first file's events come first. Each file's own order is kept"
unfoldable pub merged : List DayEvent → List DayEvent → List FileEvent
merged [] b = map of_second b
merged (e ∷ a) b = placed e (merged a) b

-- the events of the one day
abbrev pub joined : List DayEvent → List DayEvent → List DayEvent
joined a b = map event_of (merged a b)

-- ---- answers
-- 02 g): "22, over 255 events together, after both files and before 15"; the result "goes to lent buffers .. with its n, as the day reader's"
abbrev pub after_both : List DayEvent → List DayEvent → List ℕ → List ℕ → DayAnswer
after_both a b ls ss =
    cond (ltb 255 (length a + length b)) (told (verdict.refused 22 0) 0 ls ss) (answered (events (joined a b)) ls ss)

-- what the second file comes to, where the first has the events a
abbrev pub after_first : List DayEvent → LinesResult → List ℕ → List ℕ → DayAnswer
after_first a (stopped r) ls ss = told (refusal_verdict r) 0 ls ss
after_first a (events b) ls ss = after_both a b ls ss

-- 02 g): "a refusal of the first file is given before one of the second"
abbrev pub after_files : LinesResult → LinesResult → List ℕ → List ℕ → DayAnswer
after_files (stopped r) y ls ss = told (refusal_verdict r) 0 ls ss
after_files (events a) y ls ss = after_first a y ls ss

-- of two files and the two buffers at entry
unfoldable pub merge_answer : List ℕ → List ℕ → List ℕ → List ℕ → DayAnswer
merge_answer s t ls ss = after_files (day_events s) (day_events t) ls ss

-- ---- what the functions work on
-- the event of a second and a letter
abbrev pub event : ℕ → ℕ → DayEvent
event x c = record { second = x; letter = c }

-- the file is refused, with number and place of this refusal
abbrev pub IsRefused : List ℕ → Refusal → Type 0
IsRefused s r = (w : Refusal) × (day_events s ≡ stopped w) × (refusal_verdict w ≡ refusal_verdict r)

-- the events whose letters and seconds these are, as far as both go
unfoldable pub paired : List ℕ → List ℕ → List DayEvent
paired [] xs = []
paired (c ∷ cs) [] = []
paired (c ∷ cs) (x ∷ xs) = record { second = x; letter = c } ∷ paired cs xs

-- as many letters as seconds, and no more than a day may have
pub record Aligned (cs xs : List ℕ) : Type 0 where
  pub few : length cs ≤ 255
  pub as_many : length cs ≡ length xs

-- the next event is the first file's, where these seconds are left of each file
abbrev pub first_is_next : List ℕ → List ℕ → Bool
first_is_next [] ys = false
first_is_next (x ∷ xs) [] = true
first_is_next (x ∷ xs) (y ∷ ys) = leb x y
