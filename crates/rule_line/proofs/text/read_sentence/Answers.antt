-- `read_sentence` judges the nodes after replacement, and writes their records. Assumes nothing.
use native.Mathlib.Omega.{arith}
use mathlib.Core.Path.{refl, ap}
use Rattle.rule_line.specs.declared.graft.Grafting.{Grafting}
use Rattle.rule_line.proofs.SentenceLaws.{sums_fit, readable, graftable, passes, sentence_says}
use Rattle.rule_line.proofs.text.read_sentence.Goals as goal

pub overflow_add-replaced_m : goal.overflow_add-replaced_m
overflow_add-replaced_m c =
    let w = c.sum_pieces-w in
    omega (arith, (sums_fit c.requires c.bytes-bytes.ensures c.origins-origins.ensures w.ensures w.array_long).0)

pub overflow_add-replaced_k : goal.overflow_add-replaced_k
overflow_add-replaced_k c =
    let w = c.sum_pieces-w in
    omega (arith, (sums_fit c.requires c.bytes-bytes.ensures c.origins-origins.ensures w.ensures w.array_long).1)

pub read_text-source-requires : goal.read_text-source-requires
read_text-source-requires c =
    let w = c.sum_pieces-w in
    readable c.requires c.bytes-bytes.ensures c.origins-origins.ensures w.ensures w.array_long c.if-replaced_m-gt-MOST_NODES.false

pub graft-g-requires : goal.graft-g-requires
graft-g-requires c =
    let w = c.sum_pieces-w in
    graftable c.requires c.bytes-bytes.ensures c.origins-origins.ensures w.ensures w.array_long c.if-replaced_m-gt-MOST_NODES.false _ c.read_text-source.ensures

pub invariant_of-result-2 : goal.invariant_of-result-2
invariant_of-result-2 c =
    let w = c.sum_pieces-w in
    let p = passes c.requires c.bytes-bytes.ensures c.origins-origins.ensures w.ensures w.array_long c.if-replaced_m-gt-MOST_NODES.false _ c.read_text-source.ensures _
    (ap (λ (g : Grafting). g.nodes) c.graft-g.ensures) in
    record { length_bound = p.0; specials_bound = omega arith; some_node = p.1; nodes_long = omega arith; offsets_bound = p.2 }

pub returns : goal.returns
returns c =
    let w = c.sum_pieces-w in
    sentence_says c.requires c.bytes-bytes.ensures c.origins-origins.ensures w.ensures w.array_long c.if-replaced_m-gt-MOST_NODES.false _ c.read_text-source.ensures _
    (ap (λ (g : Grafting). g.nodes) c.graft-g.ensures) c.if-replaced_k-gt-MOST_SPECIALS.false _ refl refl refl refl
