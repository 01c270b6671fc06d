-- What all turns leave: the blocks of a rule in their places, which may be the whole span table. Assumes nothing.
use mathlib.Core.Path.{◌≡◌, sym, ap, ap₂, ◌∙◌}
use mathlib.Core.Bool.{Bool, false}
use mathlib.Core.List.{List, ◌++◌}
use Prim.Native.Nat.{ℕ, ◌*◌}
use native.Mathlib.Omega.{arith}
use lib.ListN.{length, take, drop, length-drop, take-append-drop}
use lib.Seq.{take_all}
use Rattle.bits.specs.Runs.{Small}
use Rattle.event.specs.Event.{Word}
use Rattle.expression.specs.declared.Node.{Node}
use Rattle.expression.specs.Tree.{Tree, empty, specials}
use Rattle.table.proofs.LayoutLaws.{number_part, number_same, held_numbers, held_blocks}
use Rattle.work.specs.Table.{block_length, need_of}
use Rattle.work.specs.TableComputed.{special_parts, table}
use Rattle.work.proofs.TableLaws.{parts_length}
use Rattle.owners.specs.Filling.{Fillable, Placed}
use Rattle.owners.specs.Blocks.{FirstNumbers}
use Rattle.owners.specs.Turns.{AllTurned}
use Rattle.owners.proofs.BlockLaws.{off_blocks, blocks_held}

-- the blocks that the turns leave stand where they are to
module _ {t : Tree} {nodes : List Node} {m : ℕ} {w : Word} {whole special : ℕ} {firsts lent b : List ℕ}
    (f : Fillable t nodes m w (length lent) whole special) (first : FirstNumbers nodes m (length w) special firsts)
    (before : Small lent) (small : Small b) (long : length b ≡ length lent) where
  pub all_placed : {limit c : ℕ} {spent : Bool} → AllTurned t w firsts whole limit lent b c spent → spent ≡ false
      → Placed w t whole special lent b
  all_placed g e =
      let k : length (special_parts t) * block_length (length w) ≡ specials t * block_length (length w) =
      ap (◌* block_length (length w)) (parts_length t) in
      let i = f.rule_fits in
      let j = f.parts_fit in
      record {
        rule = held_numbers w b f.short small t whole (omega arith) (g.rule e);
        parts = ap (λ (n : ℕ). take n (drop special b)) (sym k)
            ∙ held_blocks w b f.short small (special_parts t) (empty 0) special (omega arith)
            (blocks_held f.rising f.recorded first (g.done e));
        elsewhere = λ q h o.
            number_same b lent q q (small q) (before q)
            (λ s l. g.outside e _ (number_part h l) (off_blocks f.rising f.recorded first o l));
        long = long;
      }

-- where a table has just the numbers that are needed, and the special nodes' blocks follow that of the whole rule, it is the span table
pub placed_table : {t : Tree} {w : Word} {lent b : List ℕ} → Placed w t 0 (block_length (length w)) lent b
    → length lent ≡ need_of (specials t) (length w) → b ≡ table w t
unfolding table
placed_table {t} {w} {lent} {b} p e =
    let k = p.long in
    sym (take-append-drop (block_length (length w)) b)
    ∙ ap₂ ◌++◌ p.rule
    (sym (take_all (specials t * block_length (length w)) (drop (block_length (length w)) b) (simp length-drop (omega arith))) ∙ p.parts)
