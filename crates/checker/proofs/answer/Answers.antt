-- `answer` puts `job_text` into its buffer: the listing, or the line of the refusal. Assumes nothing.
use Rattle.std.proofs.Common.{ℕ, ◌≡◌, ◌-◌, ◌≤◌, ◌++◌, replicate, length, take, sym, ap, ap₂, subst, ◌∙◌, arith}
use Rattle.std.proofs.lemmas.List.{take_at}
use Rattle.verdict.specs.declared.Verdict.{Verdict}
use Rattle.listing.specs.declared.Line.{Line}
use Rattle.listing.specs.Lines.{refusal_line}
use Rattle.job.specs.JobMeaning.{Writes}
use Rattle.job.proofs.Results.{refusal_most, text_listed, text_stopped, text_within, text_writes}
use Rattle.checker.proofs.answer.Goals as goal

-- what is known of the line of a refusal
module _ (n p : ℕ) (l : Line)
    (e : (l.bytes ≡ refusal_line n p ++ replicate (44 - length (refusal_line n p)) 0) × (l.len ≡ length (refusal_line n p))) where
  line_short : l.len ≤ 44
  line_short = omega (arith, e.1, refusal_most n p)

  line_text : take l.len l.bytes ≡ refusal_line n p
  line_text =
      ap (take l.len) e.0 ∙ take_at (refusal_line n p) (replicate (44 - length (refusal_line n p)) 0) l.len (sym e.1)

-- the call's own text
pub returns-in-Ok : goal.returns-in-Ok
returns-in-Ok c =
    let b = c.run.new.out in
    let listed = text_listed c.args.job.now c.args.out.now c.requires b c.in-Ok.accepted c.in-Ok.ensures.value in
    record {
      value = (listed, text_within c.args.job.now c.args.out.now c.requires b c.in-Ok.accepted c.in-Ok.ensures.value);
      meaning = subst (Writes c.args.job.now) (sym listed) (text_writes c.args.job.now);
    }

-- the line of the refusal
pub returns-in-Err-clause-value : goal.returns-in-Err-clause-value
returns-in-Err-clause-value c =
    let l = c.refusal in
    let v = c.from-told in
    let short = line_short _ _ l.result l.ensures in (
      c.put_line.ensures.1 ∙ line_text _ _ l.result l.ensures
          ∙ ap₂ refusal_line (ap (λ (x : Verdict). x.number) v.ensures) (ap (λ (x : Verdict). x.place) v.ensures)
          ∙ text_stopped c.args.job.now c.args.out.now c.requires c.run.new.out c.in-Err.refusal c.in-Err.ensures.value,
      omega (arith, c.requires, c.put_line.ensures.0, c.put_line.auto.out, c.run.auto.out),
    )

pub returns-in-Err-clause-meaning : goal.returns-in-Err-clause-meaning
returns-in-Err-clause-meaning c =
    subst (Writes c.args.job.now) (sym (returns-in-Err-clause-value c).0) (text_writes c.args.job.now)
