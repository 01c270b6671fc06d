-- What a job comes to, what the call that runs it answers and leaves in its buffer, and what the program writes, computed. Assumes nothing.
-- That `job_answer` is the one answer which has `JobMeaning` is `answer_means` in proofs/Answered and `answer_is` in proofs/Determined;
-- `job_text` is tied to it by `call_text` in proofs/Results.
use Rattle.std.specs.Prelude.{ℕ, suc, ◌+◌, ◌*◌, Bool, cond, ◌&&◌, List, [], eqb, ltb, length, get_or, take, drop, replicate}
use Rattle.event.specs.Leading.{leading}
use Rattle.event.specs.Text.{not_newline}
use Rattle.rule.specs.RuleAnswer.{RuleAnswer}
use Rattle.rule.specs.RuleComputed.{rule_answer}
use Rattle.day.specs.DayAnswer.{DayAnswer}
use Rattle.day.specs.DayComputed.{day_answer}
use Rattle.work.specs.Table.{block_length}
use Rattle.judge.specs.JudgeAnswer.{JudgeAnswer}
use Rattle.judge.specs.JudgeComputed.{judge_answer}
use Rattle.listing.specs.declared.Heading.{Heading}
use Rattle.listing.specs.Lines.{refusal_line}
use Rattle.listing.specs.Marked.{listing}
use Rattle.job.specs.JobAnswer.{JobAnswer, refusal, acceptance}

-- ---- the job's first line
-- how many bytes stand between the first two and the newline
abbrev pub rule_length : List ℕ → ℕ
rule_length s = leading not_newline (drop 2 s)

-- 01: "16: not `R`, tab, then bytes up to a newline"
abbrev pub is_job : List ℕ → Bool
is_job s = eqb (get_or s 0 0) 82 && eqb (get_or s 1 0) 9 && ltb (rule_length s) (length (drop 2 s))

-- 01: "A job is one line `R`, tab, rule, newline, and then the day."
abbrev pub rule_of : List ℕ → List ℕ
rule_of s = take (rule_length s) (drop 2 s)

abbrev pub day_of : List ℕ → List ℕ
day_of s = drop (suc (rule_length s)) (drop 2 s)

-- ---- what a job comes to
-- number, place, found, count, and the text where it is accepted
pub record JobResult : Type 0 where
  pub number : ℕ
  pub place : ℕ
  pub found : ℕ
  pub count : ℕ
  pub text : List ℕ

-- 01: "on refusal found and count are 0 unless said"
abbrev pub refused : ℕ → ℕ → JobResult
refused number place = record { number = number; place = place; found = 0; count = 0; text = [] }

-- 01, The program: "lends the judge a limit of m × (n + 1) × (n + 2)"
abbrev pub limit_of : ℕ → ℕ → ℕ
limit_of m n = m * ((n + 1) * (n + 2))

-- 01, The program: "Accepted: a line `H`, n, m, k, found, count; then for each span whose bit is 1 in the first block `S`, i, j"
abbrev pub listed : Heading → List ℕ → JobResult
listed h block = record { number = 0; place = 0; found = h.found; count = h.count; text = listing h block }

-- the judge's answer for n events: the first block is listed
abbrev pub after_judge : JudgeAnswer → ℕ → ℕ → ℕ → JobResult
after_judge j n m k =
    cond (eqb j.number 0)
    (listed (record { n = n; m = m; k = k; found = j.found; count = j.count }) (take (block_length n) j.table))
    (refused j.number j.place)

-- the day's answer: its events go to the judge, with a table that is long enough for every job, 8,192 numbers, all 0
abbrev pub after_day : List ℕ → ℕ → ℕ → DayAnswer → JobResult
after_day s m k d =
    cond (eqb d.number 0)
    (after_judge (judge_answer s (take d.n d.letters) (limit_of m d.n) (replicate 8192 0)) d.n m k)
    (refused d.number d.place)

-- the rule's answer: the day goes to its reader, with buffers that are long enough for every day, 255 elements, all 0
abbrev pub after_rule : List ℕ → List ℕ → RuleAnswer → JobResult
after_rule s file r =
    cond (eqb r.number 0) (after_day s r.m r.k (day_answer file (replicate 255 0) (replicate 255 0))) (refused r.number r.place)

-- 01: "A job passes the rows in the table's order."
unfoldable pub job_result : List ℕ → JobResult
job_result s = cond (is_job s) (after_rule (rule_of s) (day_of s) (rule_answer (rule_of s))) (refused 16 0)

-- ---- the call
-- 01: ".. and gives 15, last, where its buffer is shorter."
abbrev pub written : JobResult → List ℕ → JobAnswer
written r old =
    cond (eqb r.number 0)
    (cond (ltb (length old) (length r.text)) (refusal 15 0 old) (acceptance r.found r.count r.text old))
    (refusal r.number r.place old)

-- of a job and the buffer at entry
unfoldable pub job_answer : List ℕ → List ℕ → JobAnswer
job_answer s old = written (job_result s) old

-- ---- the program
-- 01, The program: "Refused: one line `X`, number, place."
abbrev pub text_of : JobResult → List ℕ
text_of r = cond (eqb r.number 0) r.text (refusal_line r.number r.place)

-- what the program writes for a job
unfoldable pub job_text : List ℕ → List ℕ
job_text s = text_of (job_result s)
