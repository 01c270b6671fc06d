-- The walk of one start. Assumes nothing.
use mathlib.Core.Path.{◌≡◌, sym, ◌∙◌}
use mathlib.Core.Bool.{Bool, true, false, false≢true}
use mathlib.Core.Logic.{⊎_elim}
use mathlib.Core.List.{List}
use Prim.Native.Nat.{ℕ, ◌+◌, ◌-◌, ◌*◌, ◌/◌, ◌<◌}
use native.Mathlib.Omega.{arith}
use lib.ListN.{length, replicate}
use Rattle.bits.specs.Bit.{bit_at}
use Rattle.bits.specs.Runs.{Adds}
use Rattle.bits.proofs.Laws.{zeros_bit}
use Rattle.moves.specs.Reached.{start}
use Rattle.moves.proofs.Paths.{reached_from}
use Rattle.table.specs.Layout.{RowSpan}
use Rattle.marks.specs.declared.target.Target.{Target}
use Rattle.walk.specs.Course.{Course}
use Rattle.walk.specs.Filled.{block_of}
use Rattle.walk.specs.Walks.{Walked}
use Rattle.walk.specs.Starts.{Started}
use Rattle.marks.specs.Marks.{StartsAt}
use Rattle.marks.specs.Rows.{row_of}

starts_only : {a : List ℕ} (o : Target) (i : ℕ) → Adds (replicate 512 0) (StartsAt o i) a → (q : ℕ) → bit_at a q ≡ true → StartsAt o i q
starts_only o i h q e =
    ⊎_elim (λ (z : bit_at (replicate 512 0) q ≡ true). absurd (false≢true (sym (zeros_bit 512 q) ∙ z))) (λ (b : StartsAt o i q). b)
    (h.only q e)

-- the marks of a start stand at its number
pub starts_at : {a : List ℕ} (o : Target) (i : ℕ) → Adds (replicate 512 0) (StartsAt o i) a → (q : ℕ) → bit_at a q ≡ true → q / 128 ≡ i
starts_at o i h q u =
    let l = o.left_bound in
    let r = o.right_bound in
    ⊎_elim (λ (e : q ≡ 128 * i + (o.left - 1)). omega arith) (λ (e : q ≡ 128 * i + (o.right - 1)). omega arith) (starts_only o i h q u)

-- done is what the start's function answers
pub started : {t : Course} {a m b : List ℕ} {count limit c : ℕ} {spent done : Bool} (o : Target) (i : ℕ)
    → Adds (replicate 512 0) (StartsAt o i) a → Walked t count limit a m c spent → spent ≡ done
    → (done ≡ false → (r : List ℕ) × ((k : ℕ) → k < 256 → bit_at r k ≡ row_of m o i (length t.word) k)
    × Adds t.table (RowSpan (block_of t o) i r) b)
    → (done ≡ true → b ≡ t.table) → Started t o i count limit b c done
started {m = m} o i h w d f k = record {
  marks = m;
  only = λ q e. reached_from (λ p z. start (starts_only o i h p z)) (w.only q e);
  all = λ s q z. w.all (d ∙ s) q (reached_from (λ p u. start (h.new p u)) z);
  counted = λ s. w.counted (d ∙ s);
  over = λ s. w.over (d ∙ s);
  spends = λ s. w.spends (d ∙ s);
  bounded = w.bounded;
  row = f;
  kept = k;
}
