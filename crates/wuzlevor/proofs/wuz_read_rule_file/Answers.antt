-- `wuz_read_rule_file` writes the answer of the reader of rule files, and each line's m, k and records. Assumes nothing.
use mathlib.Core.Logic.{inl, inr, ⊎_elim}
use Rattle.wuzlevor.proofs.ExportLaws.{file_returns, file_accepted, file_refused}
use Rattle.wuzlevor.proofs.wuz_read_rule_file.Goals as goal

pub returns-then-answer-lt-FILE_ANSWER : goal.returns-then-answer-lt-FILE_ANSWER
returns-then-answer-lt-FILE_ANSWER c =
    let both = file_returns (⊎_elim (λ h. inl h) (λ r. inr (⊎_elim (λ h. inl h.1) (λ h. inr h.2) r)) c.then-answer-lt-FILE_ANSWER.either) in
    record { value = both.0; meaning = both.1 }

pub returns-in-Ok : goal.returns-in-Ok
returns-in-Ok c =
    let both = file_accepted c.if-answer-lt-FILE_ANSWER.false c.if-lines-lt-LINES.false c.if-nodes-lt-FILE_NODES.false c.in-Ok.read
    c.in-Ok.ensures.value c.in-Ok.ensures.meaning c.acceptance.ensures c.records.ensures c.records-in-Ok.ensures
    c.write_row.ensures c.write_lines.ensures c.write_line_nodes.ensures in
    record { value = both.0; meaning = both.1 }

pub returns-in-Err : goal.returns-in-Err
returns-in-Err c =
    let both = file_refused c.if-answer-lt-FILE_ANSWER.false c.if-lines-lt-LINES.false c.if-nodes-lt-FILE_NODES.false c.in-Err.refused
    c.in-Err.ensures.value c.in-Err.ensures.meaning c.from-said.ensures c.write_row-in-Err.ensures in
    record { value = both.0; meaning = both.1 }
