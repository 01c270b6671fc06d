-- No answer but `job_answer` means what `JobMeaning` asks. Assumes nothing.
use Prim.Native.Nat.{ℕ, ◌≤◌, ◌<◌}
use mathlib.Core.Path.{◌≡◌, ap, ap₂, subst, ◌∙◌}
use mathlib.Core.List.{List}
use lib.ListN.{length}
use Rattle.job.specs.JobAnswer.{JobAnswer, acceptance}
use Rattle.job.specs.JobComputed.{job_answer}
use Rattle.job.specs.JobMeaning.{JobMeaning, row_refused, short_buffer, accepted}
use Rattle.job.proofs.Answered.{judged_short, at_refusal, at_short, at_text}
use Rattle.job.specs.FirstBlock.{text}
use Rattle.job.proofs.Listed.{one_found, one_count, one_text}
use Rattle.job.proofs.Rows.{result_refused, refused_above}

pub answer_is : {s old : List ℕ} {a : JobAnswer} → JobMeaning s old a → a ≡ job_answer s old
answer_is {s} {old} (row_refused r) = at_refusal s old (result_refused r) (refused_above r)
answer_is {s} {old} (short_buffer {t = t} {w = w} {text = x} j l h) =
    at_short s old j (subst (λ (y : List ℕ). length old < length y) (one_text w t (judged_short j) l) h)
answer_is {s} {old} (accepted {t = t} {w = w} {f = f} {c = c} {text = x} j l h) =
    let e = one_text w t (judged_short j) l in
    ap (λ (y : List ℕ). acceptance f c y old) e
    ∙ ap₂ (λ (y z : ℕ). acceptance y z (text w t) old) (one_found w t (judged_short j) l) (one_count w t (judged_short j) l)
    ∙ at_text s old j (subst (λ (y : List ℕ). length y ≤ length old) e h)
