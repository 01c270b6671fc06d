-- A filled table, or a spent limit, as the answer. Assumes nothing.
use Prim.Native.Nat.{ℕ, ◌≤◌, ◌<◌}
use mathlib.Core.Path.{◌≡◌, sym, ap, ◌∙◌}
use mathlib.Core.Bool.{Bool, false, false≢true}
use mathlib.Core.Logic.{⊎_elim}
use mathlib.Core.List.{List, ◌++◌, append_assoc}
use lib.ListN.{length, drop, take}
use lib.Seq.{take_at}
use Rattle.bits.specs.Bit.{ones_of}
use Rattle.bits.proofs.Digits.{below_or_not}
use Rattle.event.specs.Event.{Word}
use Rattle.expression.specs.Tree.{Tree, specials}
use Rattle.work.specs.Count.{full_count}
use Rattle.work.specs.Table.{block_length, need_of}
use Rattle.work.specs.TableComputed.{block, blocks, special_parts, table, found}
use Rattle.work.proofs.TableLaws.{block_length_lem}
use Rattle.owners.specs.Filling.{FilledTable}
use Rattle.owners.proofs.Tables.{placed_table}
use Rattle.matcher.specs.MatchAnswer.{values}
use Rattle.matcher.specs.MatchComputed.{limited}
use Rattle.matcher.proofs.Tested.{at_acceptance}

-- the ones of the first block, counted in the whole table
pub found_counted : (w : Word) (t : Tree) (rest : List ℕ) → ones_of (take (block_length (length w)) (table w t ++ rest)) ≡ found w t
unfolding table found
found_counted w t rest =
    ap (λ (l : List ℕ). ones_of (take (block_length (length w)) l)) (append_assoc (block w t) (blocks w (special_parts t)) rest)
    ∙ ap ones_of (take_at (block w t) (blocks w (special_parts t) ++ rest) (block_length (length w)) (block_length_lem w t))

module _ (t : Tree) (w : Word) (limit need special : ℕ) (lent b old : List ℕ) (count : ℕ) {spent : Bool}
    (f : FilledTable t w limit 0 special lent b count spent) (e : need ≡ need_of (specials t) (length w)) (l : length lent ≡ need)
    (s : special ≡ block_length (length w)) where
  pub limit_kept : spent ≡ false
      → values 0 0 (ones_of (take special (b ++ drop need old))) count (b ++ drop need old) ≡ limited t w limit old
  limit_kept d =
      ⊎_elim (λ (h : limit < full_count w t). absurd (false≢true (sym d ∙ (f.over h).0)))
      (λ (h : full_count w t ≤ limit).
      let p : b ≡ table w t = placed_table (rw s at (f.within h).2) (l ∙ e) in
      rw (at_acceptance t w limit old h)
      (simp (e, p, s, (f.within h).1, found_counted w t (drop (need_of (specials t) (length w)) old))))
      (below_or_not limit (full_count w t))
