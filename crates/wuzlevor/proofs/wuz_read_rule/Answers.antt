-- `wuz_read_rule` writes the answer of the rule reader, and its records. Assumes nothing.
use Prim.Native.Nat.{◌<◌, ◌≤◌}
use native.Mathlib.Omega.{arith}
use mathlib.Core.Logic.{◌⊎◌, inl, inr, ⊎_elim}
use lib.ListN.{length, length-take}
use Rattle.wuzlevor.proofs.ExportLaws.{rule_returns, rule_writes, none_told}
use mathlib.Core.Path.{ap, ◌∙◌}
use Rattle.rule.specs.RuleAnswer.{told, unused}
use Rattle.verdict.specs.declared.Verdict.{Verdict}
use Rattle.wuzlevor.proofs.wuz_read_rule.Goals as goal

pub returns-then-answer-lt-RULE_ANSWER : goal.returns-then-answer-lt-RULE_ANSWER
returns-then-answer-lt-RULE_ANSWER c =
    let a = c.args in
    let h : (length a.answer.now < 6) ⊎ (length a.nodes.now < 128) =
    ⊎_elim (λ l. inl (omega arith)) (λ l. inr (omega arith)) c.then-answer-lt-RULE_ANSWER.either in
    let both = rule_returns h in
    record { value = both.0; meaning = both.1 }

pub write_nodes-requires : goal.write_nodes-requires
write_nodes-requires c =
    let l : 128 ≤ length c.args.nodes.now = omega arith in
    (omega (arith, c.in-Ok.records.m_bound, length-take c.in-Ok.records.m c.in-Ok.records.nodes), l)

pub returns-in-Ok : goal.returns-in-Ok
returns-in-Ok c =
    let r = c.in-Ok.records in
    let v = c.acceptance-said in
    let both = rule_writes v.result r.m r.k r.nodes c.if-answer-lt-RULE_ANSWER.false c.if-nodes-lt-NODES.false
    (ap (λ (v : Verdict). told v r.m r.k r.nodes) v.ensures ∙ c.in-Ok.ensures.value) c.write_row.ensures c.write_nodes.ensures in
    record { value = both.0; meaning = both.1 }

pub returns-in-Err : goal.returns-in-Err
returns-in-Err c =
    let v = c.from-said in
    let both = rule_writes v.result 0 0 (unused 64) c.if-answer-lt-RULE_ANSWER.false c.if-nodes-lt-NODES.false
    (ap (λ (v : Verdict). told v 0 0 (unused 64)) v.ensures ∙ c.in-Err.ensures.value)
    c.write_row-in-Err.ensures (none_told (unused 64) c.args.nodes.now) in
    record { value = both.0; meaning = both.1 }
