-- The values of the judge's answers, with what stands in the table, by document 01. Assumes nothing.
use Rattle.std.specs.Prelude.{ℕ, List, Result, Ok, Err}
use Rattle.verdict.specs.Verdicts as verdict
use Rattle.verdict.specs.declared.Judged.{Judged}
use Rattle.verdict.specs.declared.Verdict.{Verdict}
use Rattle.matcher.specs.declared.Refusal.{Refusal}
use Rattle.matcher.specs.declared.Refusal.TheVariants as why

-- 01: "An answer carries number (0 if accepted), place, found and count"; and the whole table at exit
pub record MatchAnswer : Type 0 where
  pub number : ℕ
  pub place : ℕ
  pub found : ℕ
  pub count : ℕ
  pub table : List ℕ

-- an answer by its number, place, found, count and table
abbrev pub values : ℕ → ℕ → ℕ → ℕ → List ℕ → MatchAnswer
values n p f c b = record { number = n; place = p; found = f; count = c; table = b }

-- 01: "on refusal found and count are 0 unless said", "On every refusal but 10 .. no lent buffer changes"
abbrev pub refusal : ℕ → ℕ → List ℕ → MatchAnswer
refusal n p old = values n p 0 0 old

-- 01: number and place of each refusal of the row "Judge"; on 10 "the reported count is the limit"
abbrev pub refusal_verdict : Refusal → Verdict
refusal_verdict why.LongWord = verdict.refused 7 0
refusal_verdict (why.ForeignEvent p) = verdict.refused 8 p
refusal_verdict why.ShortTable = verdict.refused 9 0
refusal_verdict (why.Spent limit) = record { number = 10; place = 0; found = 0; count = limit }

-- a verdict, with the table
abbrev pub told : Verdict → List ℕ → MatchAnswer
told v b = values v.number v.place v.found v.count b

-- number, place, found and count of what the code answers
abbrev pub outcome_verdict : Result Judged Refusal → Verdict
outcome_verdict (Ok j) = verdict.accepted j.found j.count
outcome_verdict (Err r) = refusal_verdict r

-- the values of what the code answers, with the table at exit
abbrev pub match_values : Result Judged Refusal → List ℕ → MatchAnswer
match_values o b = told (outcome_verdict o) b
