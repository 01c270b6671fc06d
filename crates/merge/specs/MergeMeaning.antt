-- What the merging call's answer says of two day files, by the form of their lines and the order of their events: document 02 g).
-- Assumes nothing.
-- That `merge_answer` is the one answer which says so is `answer_means` and `answer_is` in proofs/Answered.
use Rattle.std.specs.Prelude.{ℕ, ◌+◌, ◌≤◌, ◌<◌, ◌⊎◌, List, map, length}
use Rattle.day.specs.DayFile.{DayEvent}
use Rattle.day.specs.DayAnswer.{DayAnswer, refusal, acceptance}
use Rattle.day.specs.DayMeaning.{DayRefused, Whole}
use Rattle.merge.specs.Merged.{FileEvent, event_of, Merged}

-- both files pass the day file's row: their events are a and b
pub record BothWhole (s t : List ℕ) (a b : List DayEvent) : Type 0 where
  pub first_whole : Whole s a
  pub second_whole : Whole t b

-- both files pass, and their events, at most 255 together, are l in the order of the one day
pub record OneDay (s t : List ℕ) (l : List FileEvent) : Type 0 where
  pub a : List DayEvent
  pub b : List DayEvent
  pub whole : BothWhole s t a b
  pub few : length a + length b ≤ 255
  pub in_order : Merged a b l

-- what holds of the files s and t and of the buffers ls and ss at entry, and the whole answer
pub data MergeMeaning (s t ls ss : List ℕ) : DayAnswer → Type 0 where
  -- "a refusal of the first file is given before one of the second": 11 to 14, by the first file's own lines
  first_refused : {number place : ℕ} → DayRefused s number place → MergeMeaning s t ls ss (refusal number place ls ss)
  -- 11 to 14, by the second file's own lines
  second_refused : {a : List DayEvent} {number place : ℕ} → Whole s a → DayRefused t number place
      → MergeMeaning s t ls ss (refusal number place ls ss)
  -- "22, over 255 events together, after both files and before 15"
  many_events : {a b : List DayEvent} → BothWhole s t a b → 255 < length a + length b → MergeMeaning s t ls ss (refusal 22 0 ls ss)
  -- 15: a buffer is shorter than the events together
  short_buffer : {l : List FileEvent} → OneDay s t l → (length ls < length l) ⊎ (length ss < length l)
      → MergeMeaning s t ls ss (refusal 15 0 ls ss)
  -- "The result goes to lent buffers of its own, with its n, as the day reader's"
  accepted : {l : List FileEvent} → OneDay s t l → length l ≤ length ls → length l ≤ length ss
      → MergeMeaning s t ls ss (acceptance (map event_of l) ls ss)
