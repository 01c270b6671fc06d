-- What the day reader's answer says of a file, by the form of its lines: document 01's row "Day file". Assumes nothing.
-- That `day_answer` is the one answer which says so is `answer_means` and `answer_is` in proofs/Answered.
use Rattle.std.specs.Prelude.{ℕ, suc, ◌≤◌, ◌<◌, ◌≡◌, ◌⊎◌, List, [], length}
use Rattle.day.specs.DayFile.{last_second, DayEvent, LineAt, Lines, second_after}
use Rattle.day.specs.DayAnswer.{DayAnswer, refusal, acceptance}

-- the file s begins with the good lines l, and rest follows, which is not empty; `Lines 0`, since no line comes before the first
pub record Until (s : List ℕ) (l : List DayEvent) (rest : List ℕ) : Type 0 where
  pub fits : length s ≤ 2550
  pub good : Lines 0 s l rest
  pub begun : 1 ≤ length rest

-- the file s is the good lines l and nothing else, at most 255
pub record Whole (s : List ℕ) (l : List DayEvent) : Type 0 where
  pub fits : length s ≤ 2550
  pub good : Lines 0 s l []
  pub few : length l ≤ 255

-- the file s is refused for what stands in it, with this number and place: one constructor for each number
pub data DayRefused (s : List ℕ) : ℕ → ℕ → Type 0 where
  -- "11: over 2,550 bytes."
  long_file : 2550 < length s → DayRefused s 11 0
  -- "14: a 256th line has begun, its form unseen; place 256."
  many_lines : {l : List DayEvent} {rest : List ℕ} → Until s l rest → length l ≡ 255 → DayRefused s 14 256
  -- "12: line not of the form, its newline included; place is the day's line, from 1."
  malformed_line : {l : List DayEvent} {rest : List ℕ} → Until s l rest → length l < 255
      → ((e : DayEvent) (after : List ℕ) → LineAt rest e after → ⊥) → DayRefused s 12 (suc (length l))
  -- "13: second over .. or below the line before; place is the line.", where 02 c) gives the last second (`last_second`)
  wrong_second : {l : List DayEvent} {rest after : List ℕ} {e : DayEvent} → Until s l rest → length l < 255 → LineAt rest e after
      → (last_second < e.second) ⊎ (e.second < second_after 0 l) → DayRefused s 13 (suc (length l))

-- what holds of the file s and of the buffers ls and ss at entry, and the whole answer
pub data DayMeaning (s ls ss : List ℕ) : DayAnswer → Type 0 where
  -- 11 to 14
  file_refused : {number place : ℕ} → DayRefused s number place → DayMeaning s ls ss (refusal number place ls ss)
  -- "15: a buffer shorter than n, after all lines"
  short_buffer : {l : List DayEvent} → Whole s l → (length ls < length l) ⊎ (length ss < length l) → DayMeaning s ls ss (refusal 15 0 ls ss)
  -- accepted
  accepted : {l : List DayEvent} → Whole s l → length l ≤ length ls → length l ≤ length ss → DayMeaning s ls ss (acceptance l ls ss)
