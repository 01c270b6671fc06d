-- `read` meets its contract. Assumes nothing.
use Rattle.std.proofs.Common.{◌∙◌, sym, ap, inl, inr, ⊎_elim, Err}
use Rattle.std.proofs.lemmas.Result.{err_from_is_err_and}
use Rattle.day.proofs.Results.{too_long, bad_line, short, all_formed, filled}
use Rattle.day.proofs.read.Goals as goal

pub returns-then-file-gt-MOST_BYTES : goal.returns-then-file-gt-MOST_BYTES
returns-then-file-gt-MOST_BYTES c =
    let both = too_long _ _ _ c.if-file-gt-MOST_BYTES.true in
    record { value = both.0; meaning = both.1 }

pub returns-in_err-n : goal.returns-in_err-n
returns-in_err-n c =
    let p = err_from_is_err_and c.from_residual.result c.from_residual.ensures.1 in
    let both = bad_line c.args.file.now c.args.letters.now c.args.seconds.now _ p.0 c.if-file-gt-MOST_BYTES.false c.check_lines.ensures (c.in_err-n.was ∙ ap Err (sym p.2)) in
    rw p.1 (record { value = both.0; meaning = both.1 })

pub returns-then-letters-n : goal.returns-then-letters-n
returns-then-letters-n c =
    let both = short c.args.file.now _ _ c.check_lines.ensures c.in_ok-n.was
    _ _ c.if-file-gt-MOST_BYTES.false (⊎_elim (λ h. inl h) (λ h. inr h.1) c.then-letters-n.either) in
    record { value = both.0; meaning = both.1 }

pub fill-requires : goal.fill-requires
fill-requires c = (
  c.if-letters-n.false,
  c.if-seconds-n.false,
  all_formed c.args.file.now _ _ c.check_lines.ensures c.in_ok-n.was,
)

pub returns : goal.returns
returns c =
    let both = filled c.args.file.now _ _ c.check_lines.ensures c.in_ok-n.was
    _ _ _ _ c.if-file-gt-MOST_BYTES.false c.if-letters-n.false c.if-seconds-n.false c.fill.ensures.letters_after c.fill.ensures.seconds_after in
    record { value = both.0; meaning = both.1 }
