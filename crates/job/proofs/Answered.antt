-- The answer to a job means what it says, by the grammar, the lines of the day, the language and the collection. Assumes nothing.
use Prim.Native.Nat.{ℕ, ◌≤◌, ◌<◌}
use native.Mathlib.Omega.{arith}
use mathlib.Core.Path.{◌≡◌, sym, ap, subst}
use mathlib.Core.Logic.{⊎_elim}
use mathlib.Core.List.{List}
use lib.ListN.{length, length-map}
use borrow.Author.Tests.{lt-ltb, le-ltb}
use Rattle.bits.proofs.Digits.{below_or_not}
use Rattle.event.specs.Event.{Word}
use Rattle.expression.specs.Tree.{Tree}
use Rattle.day.specs.DayFile.{letter_of}
use Rattle.work.specs.Count.{full_count}
use Rattle.work.specs.TableComputed.{found}
use Rattle.job.proofs.Rows.{Comes, at_row, at_judge, comes, result_refused, refused_above, result_judged}
use Rattle.job.specs.JobAnswer.{JobAnswer, refusal, acceptance}
use Rattle.job.specs.JobComputed.{refused, job_result, job_answer}
use Rattle.job.specs.JobMeaning.{BothPassed, JobMeaning, row_refused, short_buffer, accepted}
use Rattle.job.specs.FirstBlock.{text}
use Rattle.job.proofs.Listed.{lists_text}
use Rattle.job.proofs.Steps.{refused_written}

-- the events of a day that passes are few
pub judged_short : {s : List ℕ} {t : Tree} {w : Word} → BothPassed s t w → length w ≤ 255
judged_short {w = w} j = let e = ap length j.word in omega (arith, j.whole.few, length-map j.events letter_of)

-- ---- the computed answer, once the row is known
module _ (s old : List ℕ) where
  pub at_refusal : {n p : ℕ} → job_result s ≡ refused n p → (n ≡ 0 → ⊥) → refusal n p old ≡ job_answer s old
  unfolding job_answer
  at_refusal {n} {p} e h = refused_written (job_result s) n p old e h

  module _ {t : Tree} {w : Word} (j : BothPassed s t w) where
    pub at_short : length old < length (text w t) → refusal 15 0 old ≡ job_answer s old
    unfolding job_answer
    at_short h = rw (result_judged j) (simp (lt-ltb (length old) (length (text w t)) h))

    pub at_text : length (text w t) ≤ length old → acceptance (found w t) (full_count w t) (text w t) old ≡ job_answer s old
    unfolding job_answer
    at_text h = rw (result_judged j) (simp (le-ltb (length old) (length (text w t)) h))

-- ---- its meaning
means : (s old : List ℕ) → Comes s → JobMeaning s old (job_answer s old)
means s old (at_row r) = subst (JobMeaning s old) (at_refusal s old (result_refused r) (refused_above r)) (row_refused r)
means s old (at_judge {t = t} {w = w} j) =
    let l = lists_text w t (judged_short j) in
    ⊎_elim
    (λ (h : length old < length (text w t)). subst (JobMeaning s old) (at_short s old j h) (short_buffer j l h))
    (λ (h : length (text w t) ≤ length old). subst (JobMeaning s old) (at_text s old j h) (accepted j l h))
    (below_or_not (length old) (length (text w t)))

pub answer_means : (s old : List ℕ) → JobMeaning s old (job_answer s old)
answer_means s old = means s old (comes s)

-- the two clauses of the contract, from the first
pub with_meaning : {s old : List ℕ} {a : JobAnswer} → a ≡ job_answer s old → (a ≡ job_answer s old) × JobMeaning s old a
with_meaning {s} {old} e = (e, subst (JobMeaning s old) (sym e) (answer_means s old))
