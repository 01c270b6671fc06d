-- `ends_there` looks for special nodes, and for nodes that fit the next event. Assumes nothing.
use mathlib.Core.Path.{◌≡◌, sym, ◌∙◌}
use mathlib.Core.Bool.{true, false≢true}
use mathlib.Core.Logic.{⊎_elim}
use lib.ListN.{replicate}
use Rattle.bits.specs.Bit.{bit_at}
use Rattle.bits.proofs.Laws.{zeros_bit}
use borrow.Author.Rules.{rules}
use Rattle.marks.proofs.ends.ends_there.Goals as goal

pub returns : goal.returns
returns c =
    let n = c.next_states.ensures in
    let e = c.is_empty.ensures in (
      λ r. (
        c.if-target.false,
        record {
          plain = c.enters_special.ensures.0 c.if-enters_special.false;
          silent = λ _ t z. e.0 r t (n.new t z);
        },
      ),
      λ z. e.1 (λ s b.
          ⊎_elim (λ (k : bit_at (replicate 2 0) s ≡ true). false≢true (sym (zeros_bit 2 s) ∙ k)) (z.1.silent (search rules) s) (n.only s b)),
    )
