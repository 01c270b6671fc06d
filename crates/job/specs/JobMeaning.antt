-- What the answer to a job says, by the form of its first line, the grammar, the lines of the day, the language and the collection of
-- reached places. Assumes nothing.
-- That `job_answer` is the one answer which says so is `answer_means` in proofs/Answered and `answer_is` in proofs/Determined.
use Rattle.std.specs.Prelude.{ℕ, ◌≤◌, ◌<◌, ◌≡◌, ◌↔◌, length, get_or}
use mathlib.Core.List.{List, ◌∷◌, ◌++◌, map, Memᴰ}
use Rattle.event.specs.Event.{Word}
use Rattle.expression.specs.Tree.{Tree, size, specials}
use Rattle.rule.specs.RuleAnswer as reader
use Rattle.rule.specs.RuleMeaning.{Passed, RuleMeaning}
use Rattle.day.specs.DayFile.{DayEvent, letter_of}
use Rattle.day.specs.DayMeaning.{DayRefused, Whole}
use Rattle.work.specs.Span.{Obeys}
use Rattle.work.specs.Spans.{Spans, InOrder}
use Rattle.work.specs.SizeOf.{SizeOf}
use Rattle.work.specs.Walk.{Collection}
use Rattle.listing.specs.Lines.{head_line, span_lines, refusal_line}
use Rattle.job.specs.JobAnswer.{JobAnswer, refusal, acceptance}

-- 01: "A job is one line `R`, tab, rule, newline, and then the day."; the line ends at its first newline
pub record Parted (s rule file : List ℕ) : Type 0 where
  pub text : s ≡ 82 ∷ 9 ∷ rule ++ 10 ∷ file
  pub line : (i : ℕ) → i < length rule → get_or rule i 0 ≡ 10 → ⊥

-- the rule and the day pass their rows: the grammar reads the rule as t, and w is the day's events
pub record BothPassed (s : List ℕ) (t : Tree) (w : Word) : Type 0 where
  pub rule : List ℕ
  pub file : List ℕ
  pub parted : Parted s rule file
  pub passed : Passed rule t
  pub events : List DayEvent
  pub whole : Whole file events
  pub word : w ≡ map letter_of events

-- 01, The program: the text lists exactly the spans that obey, "by rising i and then rising j"; found is their number, and the count is the
-- size of the collection
pub record Lists (w : Word) (t : Tree) (found count : ℕ) (text : List ℕ) : Type 0 where
  pub spans : Spans
  pub order : InOrder spans
  pub each : (p : ℕ × ℕ) → Memᴰ p spans ↔ Obeys w t p.0 p.1
  pub found_is : found ≡ length spans
  pub count_is : SizeOf (Collection w t) count
  pub text_is : text ≡ head_line (record { n = length w; m = size t; k = specials t; found = found; count = count }) ++ span_lines spans

-- the job s is refused before its day is judged, with this number and place: one constructor for each row
pub data JobRefused (s : List ℕ) : ℕ → ℕ → Type 0 where
  -- "16: not `R`, tab, then bytes up to a newline"
  no_rule_line : ((rule file : List ℕ) → Parted s rule file → ⊥) → JobRefused s 16 0
  -- 1 to 6, 20 and 21: the rule text's row
  rule_refused : {rule file : List ℕ} {n p : ℕ} → Parted s rule file → RuleMeaning rule (reader.refusal n p) → JobRefused s n p
  -- 11 to 14: the day file's row, in which 15 does not come: no buffer is shorter than a day may be
  day_refused : {rule file : List ℕ} {t : Tree} {n p : ℕ} → Parted s rule file → Passed rule t → DayRefused file n p → JobRefused s n p

-- what holds of the job s and of the buffer at entry, and the whole answer. None has 7, 8, 9 or 10.
pub data JobMeaning (s old : List ℕ) : JobAnswer → Type 0 where
  row_refused : {n p : ℕ} → JobRefused s n p → JobMeaning s old (refusal n p old)
  -- 15, last: the buffer is shorter than the text
  short_buffer : {t : Tree} {w : Word} {f c : ℕ} {text : List ℕ} → BothPassed s t w → Lists w t f c text → length old < length text
      → JobMeaning s old (refusal 15 0 old)
  accepted : {t : Tree} {w : Word} {f c : ℕ} {text : List ℕ} → BothPassed s t w → Lists w t f c text → length text ≤ length old
      → JobMeaning s old (acceptance f c text old)

-- what the program writes for the job s: the listing, or "Refused: one line `X`, number, place."
-- That `job_text` is the one text which is so written is `text_writes` and `writes_is` in proofs/Results.
pub data Writes (s : List ℕ) : List ℕ → Type 0 where
  writes_list : {t : Tree} {w : Word} {f c : ℕ} {text : List ℕ} → BothPassed s t w → Lists w t f c text → Writes s text
  writes_refusal : {n p : ℕ} → JobRefused s n p → Writes s (refusal_line n p)
