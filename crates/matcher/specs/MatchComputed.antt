-- What the judge answers of a rule that was read, a word and a limit, and what it leaves in the table, computed. Assumes nothing.
-- That it is the one answer which has `MatchMeaning` is `answer_means` in proofs/Answered and `answer_is` in proofs/Determined.
use Rattle.std.specs.Prelude.{ℕ, List, Result, Ok, Err, ◌++◌, cond, eqb, ltb, length, drop, replicate}
use Rattle.event.specs.Event.{Word, is_event}
use Rattle.event.specs.Leading.{leading}
use Rattle.expression.specs.Tree.{Tree, specials}
use Rattle.work.specs.Count.{full_count}
use Rattle.work.specs.Table.{need_of}
use Rattle.work.specs.TableComputed.{table, found}
use Rattle.verdict.specs.Verdicts.{accepted}
use Rattle.verdict.specs.declared.Verdict.{Verdict}
use Rattle.matcher.specs.MatchAnswer.{MatchAnswer, values, told, refusal_verdict}
use Rattle.matcher.specs.declared.Refusal.TheVariants as why
use Rattle.matcher.specs.declared.Refusal.{Refusal}

-- ---- the first step
-- the offset of the first byte that is no event; the length where there is none
abbrev pub foreign_at : Word → ℕ
foreign_at w = leading is_event w

-- 01, Judge: "7: word over 255. 8: a byte outside a to z; place is the first one's offset. 9: table too short."; 02 a): 8 reads
-- "the wider alphabet".
-- Of a rule's k, a word and the table at entry; accepted where nothing refuses them.
unfoldable pub fit_answer : ℕ → Word → List ℕ → Verdict
fit_answer k w old =
    cond (ltb 255 (length w)) (refusal_verdict why.LongWord)
    (cond (ltb (foreign_at w) (length w)) (refusal_verdict (why.ForeignEvent (foreign_at w)))
    (cond (ltb (length old) (need_of k (length w))) (refusal_verdict why.ShortTable) (accepted 0 0)))

-- the same of what the code answers
abbrev pub fit_values : Result (Unit {0}) Refusal → Verdict
fit_values (Ok _) = accepted 0 0
fit_values (Err r) = refusal_verdict r

-- ---- the second step
-- 01: "On 10 the needed numbers of the table are all 0 and the reported count is the limit"; "those beyond are never touched"
abbrev pub spent : ℕ → ℕ → List ℕ → MatchAnswer
spent need limit old = told (refusal_verdict (why.Spent limit)) (replicate need 0 ++ drop need old)

-- the blocks of the rule t, and what lay beyond them
abbrev pub acceptance : Tree → Word → List ℕ → MatchAnswer
acceptance t w old = values 0 0 (found w t) (full_count w t) (table w t ++ drop (need_of (specials t) (length w)) old)

-- 01, Judge: "10: the count is above the limit"
abbrev pub limited : Tree → Word → ℕ → List ℕ → MatchAnswer
limited t w limit old = cond (ltb limit (full_count w t)) (spent (need_of (specials t) (length w)) limit old) (acceptance t w old)

-- ---- both
-- what follows where word and table fit
abbrev pub after_fit : Verdict → List ℕ → MatchAnswer → MatchAnswer
after_fit v old a = cond (eqb v.number 0) a (told v old)

-- of a rule, a word, a limit and the table at entry
unfoldable pub match_answer : Tree → Word → ℕ → List ℕ → MatchAnswer
match_answer t w limit old = after_fit (fit_answer (specials t) w old) old (limited t w limit old)
