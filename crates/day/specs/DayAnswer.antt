-- The values of the day reader's answers, with what stands in the two buffers, by document 01. Assumes nothing.
use Rattle.std.specs.Prelude.{ℕ, List, ◌++◌, map, length, drop, Result, Ok, Err}
use Rattle.std.specs.Result.{result_unwrap_or}
use Rattle.day.specs.DayFile.{DayEvent, letter_of, second_of}
use Rattle.verdict.specs.Verdicts as verdict
use Rattle.verdict.specs.declared.Verdict.{Verdict}
use Rattle.day.specs.declared.Refusal.{Refusal}
use Rattle.day.specs.declared.Refusal.TheVariants as why

-- 01: "An answer carries number (0 if accepted), place, found and count; .. the day reader's also n", with both buffers at exit
pub record DayAnswer : Type 0 where
  pub number : ℕ
  pub place : ℕ
  pub found : ℕ
  pub count : ℕ
  pub n : ℕ
  pub letters : List ℕ
  pub seconds : List ℕ

-- 01: "The two readers' found and count are always 0."
abbrev pub values : ℕ → ℕ → ℕ → List ℕ → List ℕ → DayAnswer
values number place n ls ss = record { number = number; place = place; found = 0; count = 0; n = n; letters = ls; seconds = ss }

-- 01: n is "0 or absent on refusal"; "On every refusal but 10 .. no lent buffer changes"
abbrev pub refusal : ℕ → ℕ → List ℕ → List ℕ → DayAnswer
refusal number place ls ss = values number place 0 ls ss

-- 01: "fills two lent buffers, letters as bytes and seconds as 32-bit numbers, in line order, and leaves everything after the n-th"
abbrev pub acceptance : List DayEvent → List ℕ → List ℕ → DayAnswer
acceptance l ls ss = values 0 0 (length l) (map letter_of l ++ drop (length l) ls) (map second_of l ++ drop (length l) ss)

-- 01: number and place of each refusal of the row "Day file"
abbrev pub refusal_verdict : Refusal → Verdict
refusal_verdict why.LongFile = verdict.refused 11 0
refusal_verdict (why.Malformed p) = verdict.refused 12 p
refusal_verdict (why.WrongSecond p) = verdict.refused 13 p
refusal_verdict why.ManyLines = verdict.refused 14 256
refusal_verdict why.ShortBuffer = verdict.refused 15 0

-- number, place, found and count of what the code answers
abbrev pub outcome_verdict : Result ℕ Refusal → Verdict
outcome_verdict (Ok n) = verdict.accepted 0 0
outcome_verdict (Err r) = refusal_verdict r

-- a verdict, with n and the two buffers
abbrev pub told : Verdict → ℕ → List ℕ → List ℕ → DayAnswer
told v n ls ss =
    record { number = v.number; place = v.place; found = v.found; count = v.count; n = n; letters = ls; seconds = ss }

-- n of what the code answers
abbrev pub event_count : Result ℕ Refusal → ℕ
event_count o = result_unwrap_or o 0

-- the values of what the code answers, with the two buffers at exit
abbrev pub day_values : Result ℕ Refusal → List ℕ → List ℕ → DayAnswer
day_values o ls ss = told (outcome_verdict o) (event_count o) ls ss
