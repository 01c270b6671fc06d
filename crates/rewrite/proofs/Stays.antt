-- Where one reading can stand for another, the spans that obey, their list and the whole span table are the same. Assumes nothing.
use Prim.Native.Nat.{ℕ, zero, suc}
use mathlib.Core.Path.{◌≡◌, refl, ap, ap₂, fun_ext}
use mathlib.Core.Logic.{◌↔◌}
use mathlib.Core.Bool.{Bool, ◌&&◌}
use mathlib.Core.List.{List, [], ◌∷◌, ◌++◌}
use lib.Dec.{leb}
use lib.ListN.{length}
use lib.Seq.{slice}
use Rattle.bits.specs.Bit.{ones_of}
use Rattle.bits.specs.Runs.{packed_run}
use Rattle.event.specs.Event.{Word}
use Rattle.event.proofs.Tests.{same_test}
use Rattle.expression.specs.Tree.{Tree}
use Rattle.expression.specs.Accept.{accepts}
use Rattle.expression.proofs.LangDecided.{decides}
use Rattle.work.specs.Span.{Obeys}
use Rattle.work.specs.Spans.{Spans}
use Rattle.work.specs.SpansComputed.{list_if, from_start, from_starts, obeying}
use Rattle.work.specs.Table.{block_length}
use Rattle.work.specs.TableComputed.{obeys, start_of, end_of, block, blocks, table, found, special_parts}
use Rattle.rewrite.specs.Same.{SameLang, SameParts, Same}

module _ (t u : Tree) (p : SameLang t u) where
  pub accepts_same : (w : Word) → accepts t w ≡ accepts u w
  accepts_same w =
      same_test (accepts t w) (accepts u w) (λ h. (decides u w).1 ((p w).0 ((decides t w).0 h))) (λ h. (decides t w).1 ((p w).1 ((decides u w).0 h)))

  -- every span obeys the one exactly if it obeys the other
  pub obeys_both : (w : Word) (i j : ℕ) → Obeys w t i j ↔ Obeys w u i j
  obeys_both w i j = (
    λ o. record { order = o.order; inside = o.inside; word = (p (slice i j w)).0 o.word },
    λ o. record { order = o.order; inside = o.inside; word = (p (slice i j w)).1 o.word },
  )

  start_same : (w : Word) (i d j : ℕ) (l k : Spans) → l ≡ k → from_start w t i d j l ≡ from_start w u i d j k
  start_same w i zero j l k e = ap₂ (λ (b : Bool) (x : Spans). list_if b i j x) (accepts_same (slice i j w)) e
  start_same w i (suc d) j l k e = ap₂ (λ (b : Bool) (x : Spans). list_if b i j x) (accepts_same (slice i j w)) (start_same w i d (suc j) l k e)

  starts_same : (w : Word) (d i : ℕ) → from_starts w t d i ≡ from_starts w u d i
  starts_same w zero i = start_same w i 0 i [] [] refl
  starts_same w (suc d) i = start_same w i (suc d) i (from_starts w t d (suc i)) (from_starts w u d (suc i)) (starts_same w d (suc i))

  -- the list of the spans that obey, and so a job's `S` lines
  pub obeying_same : (w : Word) → obeying w t ≡ obeying w u
  unfolding obeying
  obeying_same w = starts_same w (length w) 0

  -- a block of the table, and found
  pub block_same : (w : Word) → block w t ≡ block w u
  unfolding block obeys
  block_same w =
      ap (λ (f : Word → Bool). packed_run (block_length (length w))
      (λ n. leb (start_of n) (end_of n) && leb (end_of n) (length w) && f (slice (start_of n) (end_of n) w))) (fun_ext accepts_same)

  pub found_same : (w : Word) → found w t ≡ found w u
  unfolding found
  found_same w = ap ones_of (block_same w)

blocks_same : (w : Word) (l k : List Tree) → SameParts l k → blocks w l ≡ blocks w k
blocks_same w [] [] p = refl
blocks_same w [] (u ∷ k) p = absurd p
blocks_same w (t ∷ l) [] p = absurd p
blocks_same w (t ∷ l) (u ∷ k) p = ap₂ ◌++◌ (block_same t u p.0 w) (blocks_same w l k p.1)

-- the whole span table
pub table_same : (t u : Tree) → Same t u → (w : Word) → table w t ≡ table w u
unfolding table
table_same t u p w = blocks_same w (t ∷ special_parts t) (u ∷ special_parts u) (p.lang, p.parts)
