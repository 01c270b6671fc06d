-- `read` answers as `rule_answer`, and so by the grammar. Assumes nothing.
use mathlib.Core.Path.{◌≡◌, sym, ap, ◌∙◌}
use mathlib.Core.List.{List}
use Rattle.std.proofs.lemmas.Result.{err_from_is_err_and}
use Rattle.expression.specs.declared.Node.{Node}
use Rattle.rule.specs.RuleAnswer.{rule_values, values}
use Rattle.rule.specs.RuleComputed.{rule_answer}
use Rattle.rule.proofs.Answered.{answered, rule_readable, with_meaning}
use Rattle.rule.proofs.read.Goals as goal

refused_value : (c : goal.After-from_residual) → rule_values c.from_residual.result ≡ rule_answer c.args.text.now
refused_value c =
    let p = err_from_is_err_and c.from_residual.result c.from_residual.ensures.1 in
    rw (p.1, p.2) (answered c.args.text.now (sym c.check_rule.ensures ∙ c.in_err-m.was))

pub returns-in_err-m-clause-value : goal.returns-in_err-m-clause-value
returns-in_err-m-clause-value c = refused_value c

pub returns-in_err-m-clause-meaning : goal.returns-in_err-m-clause-meaning
returns-in_err-m-clause-meaning c = with_meaning (refused_value c)

pub read_text-requires : goal.read_text-requires
read_text-requires c = rule_readable c.args.text.now (sym c.check_rule.ensures ∙ c.in_ok-m.was)

pub returns-clause-value : goal.returns-clause-value
returns-clause-value c =
    ap (λ (ns : List Node). values 0 0 c.in_ok-m.field-0.m c.in_ok-m.field-0.k ns) c.read_text.ensures
    ∙ answered c.args.text.now (sym c.check_rule.ensures ∙ c.in_ok-m.was)

pub returns-clause-meaning : goal.returns-clause-meaning
returns-clause-meaning c = with_meaning (
    ap (λ (ns : List Node). values 0 0 c.in_ok-m.field-0.m c.in_ok-m.field-0.k ns) c.read_text.ensures
    ∙ answered c.args.text.now (sym c.check_rule.ensures ∙ c.in_ok-m.was))
