-- The day file: what a line is, and what good lines are. Assumes nothing.
use Rattle.std.specs.Prelude.{ℕ, ◌≤◌, ◌≡◌, List, [], ◌∷◌, ◌++◌, T, length}
use Rattle.event.specs.Event.{is_event}
use Rattle.decimal.specs.Numeral.{Numeral}

-- 02 c): "A second may be up to 89,999, so 13 begins at 90,000"
abbrev pub last_second : ℕ
last_second = 89999

-- 01: "`E`", the first field of an event's line
abbrev pub event_tag : ℕ
event_tag = 69

-- one record of a day file: its second and its letter; 02 c): "readers now count on from the day's first midnight"
pub record DayEvent : Type 0 where
  pub second : ℕ
  pub letter : ℕ

abbrev pub second_of : DayEvent → ℕ
second_of e = e.second

abbrev pub letter_of : DayEvent → ℕ
letter_of e = e.letter

-- 01: "The second has 1 to 5 digits, no leading zero except `0` itself"
pub record SecondNumeral (ds : List ℕ) (x : ℕ) : Type 0 where
  pub numeral : Numeral ds x
  pub few : length ds ≤ 5

-- 01: "One record a line, fields parted by one tab, each line ended by a newline (byte 10): `E`, the second of the day in decimal,
-- the event letter."
abbrev pub line_text : List ℕ → ℕ → List ℕ
line_text ds c = event_tag ∷ 9 ∷ ds ++ 9 ∷ c ∷ 10 ∷ []

-- the text s begins with a line of the form, that of the event e, and rest follows
pub record LineAt (s : List ℕ) (e : DayEvent) (rest : List ℕ) : Type 0 where
  pub digits : List ℕ
  pub decimal : SecondNumeral digits e.second
  pub event : T (is_event e.letter)
  pub text : s ≡ line_text digits e.letter ++ rest

-- the text s begins with good lines, those of the events l, and rest follows; y is the second of the line before them.
-- 01: the second is "never below the line before; equal seconds are fine"; 02 c): "Seconds still never fall from line to line."
pub data Lines : ℕ → List ℕ → List DayEvent → List ℕ → Type 0 where
  done : {y : ℕ} {s : List ℕ} → Lines y s [] s
  more : {y : ℕ} {s mid rest : List ℕ} {e : DayEvent} {l : List DayEvent} → LineAt s e mid → y ≤ e.second → e.second ≤ last_second
      → Lines e.second mid l rest → Lines y s (e ∷ l) rest

-- the second that a line after l may not fall below: that of l's last line, or y where l has none
abbrev pub second_after : ℕ → List DayEvent → ℕ
second_after y [] = y
second_after y (e ∷ l) = second_after e.second l
