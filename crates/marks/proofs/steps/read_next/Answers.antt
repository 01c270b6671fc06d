-- `read_next` reads an event, or leaves the marks at the word's end. Assumes nothing.
use mathlib.Core.Path.{◌≡◌, sym, ◌∙◌}
use mathlib.Core.Bool.{true, false≢true}
use mathlib.Core.Logic.{⊎_elim}
use Prim.Native.Nat.{◌%◌}
use lib.ListN.{replicate}
use Rattle.bits.specs.Bit.{bit_at}
use Rattle.bits.proofs.Laws.{adds_as, zeros_bit}
use Rattle.marks.proofs.steps.read_next.Goals as goal

pub returns-then-j-word : goal.returns-then-j-word
returns-then-j-word c =
    let n = c.next_states-next.ensures in
    adds_as
    (λ q u. record {
      within = c.if-j-word.true;
      number = u.number;
      exit = ⊎_elim (λ (z : bit_at (replicate 2 0) (q % 128) ≡ true). absurd (false≢true (sym (zeros_bit 2 (q % 128)) ∙ z))) (λ z. z)
          (n.only (q % 128) u.there);
    })
    (λ q u. record { number = u.number; there = n.new (q % 128) u.exit })
    c.mark.ensures
