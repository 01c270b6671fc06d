-- The ones of the first block are as many as the spans that obey. Assumes nothing.
use mathlib.Core.Path.{◌≡◌, sym, ap, subst, ◌∙◌}
use mathlib.Core.List.{[]}
use mathlib.Core.Bool.{Bool, true, false}
use Prim.Native.Nat.{ℕ, zero, suc, ◌+◌, ◌*◌, ◌-◌, ◌/◌, ◌%◌, ◌≤◌}
use native.Mathlib.Omega.{arith}
use lib.ListN.{length}
use lib.Seq.{slice}
use Rattle.bits.specs.Runs.{indicator, tally_below}
use Rattle.bits.proofs.Tally.{tally_same, tally_none, tally_add}
use Rattle.bits.proofs.Packed.{run_ones}
use Rattle.event.specs.Event.{Word}
use Rattle.event.proofs.Tests.{same_test}
use Rattle.expression.specs.Tree.{Tree}
use Rattle.expression.specs.Accept.{accepts}
use Rattle.expression.proofs.LangDecided.{decides}
use Rattle.work.specs.Span.{Obeys}
use Rattle.work.specs.SizeOf.{SizeOf}
use Rattle.work.specs.Spans.{Spans}
use Rattle.work.specs.SpansComputed.{list_if, from_start, from_starts, obeying}
use Rattle.work.specs.Table.{block_length}
use Rattle.work.specs.TableComputed.{obeys, start_of, end_of, block, found}
use Rattle.work.proofs.Listed.{listed_size}
use Rattle.work.proofs.TableLaws.{obeys_eq}

module _ (w : Word) (t : Tree) where
  -- of row i only the ends from i to n count
  row_tally : (i d : ℕ) → i + d ≡ length w → length w ≤ 255
      → tally_below 256 (obeys w t i) ≡ tally_below (suc d) (λ e. accepts t (slice i (i + e) w))
  row_tally i d e h =
      let r = 255 - length w in
      let s : 256 ≡ i + (suc d + r) = omega arith in
      ap (λ n. tally_below n (obeys w t i)) s
      ∙ omega (
        arith,
        tally_add i (suc d + r) (obeys w t i),
        tally_add (suc d) r (λ k. obeys w t i (i + k)),
        tally_none i (obeys w t i) (λ j l. same_test (obeys w t i j) false (λ p. let o = (obeys_eq w t i j).0 p in omega (arith, o.order))
            (λ z. absurd z)),
        tally_none r (λ k. obeys w t i (i + (suc d + k)))
            (λ k l. same_test (obeys w t i (i + (suc d + k))) false
            (λ p. let o = (obeys_eq w t i (i + (suc d + k))).0 p in omega (arith, o.inside)) (λ z. absurd z)),
        tally_same (suc d) (λ k. obeys w t i (i + k)) (λ k. accepts t (slice i (i + k) w))
            (λ k l. same_test (obeys w t i (i + k)) (accepts t (slice i (i + k) w))
            (λ p. (decides t (slice i (i + k) w)).1 ((obeys_eq w t i (i + k)).0 p).word)
            (λ p. (obeys_eq w t i (i + k)).1
            (record { order = omega arith; inside = omega arith; word = (decides t (slice i (i + k) w)).0 p }))),
      )

  list_length : (b : Bool) (i j : ℕ) (l : Spans) → length (list_if b i j l) ≡ indicator b + length l
  list_length true i j l = omega arith
  list_length false i j l = omega arith

  plus_zero : (i j : ℕ) → indicator (accepts t (slice i (j + 0) w)) ≡ indicator (accepts t (slice i j w))
  plus_zero i j = let e : j + 0 ≡ j = omega arith in ap (λ n. indicator (accepts t (slice i n w))) e

  start_length : (d i j : ℕ) (l : Spans)
      → length (from_start w t i d j l) ≡ tally_below (suc d) (λ e. accepts t (slice i (j + e) w)) + length l
  unfolding tally_below
  start_length zero i j l = omega (arith, list_length (accepts t (slice i j w)) i j l, plus_zero i j)
  start_length (suc d) i j l =
      omega (
        arith,
        list_length (accepts t (slice i j w)) i j (from_start w t i d (suc j) l),
        start_length d i (suc j) l,
        plus_zero i j,
        tally_same (suc d) (λ e. accepts t (slice i (suc j + e) w)) (λ e. accepts t (slice i (j + suc e) w))
            (λ r k. let e : suc j + r ≡ j + suc r = omega arith in ap (λ n. accepts t (slice i n w)) e),
      )

  -- the rows from i on
  abbrev From : ℕ → ℕ → Bool
  From i p = obeys w t (i + p / 256) (p % 256)

  first_row : (i : ℕ) → tally_below 256 (From i) ≡ tally_below 256 (obeys w t i)
  first_row i = tally_same 256 (From i) (obeys w t i) (λ p l.
      let a : i + p / 256 ≡ i = omega arith in
      let b : p % 256 ≡ p = omega arith in
      ap (λ n. obeys w t n (p % 256)) a ∙ ap (obeys w t i) b)

  next_rows : (d i : ℕ) → tally_below (256 * d) (λ p. From i (256 + p)) ≡ tally_below (256 * d) (From (suc i))
  next_rows d i = tally_same (256 * d) (λ p. From i (256 + p)) (From (suc i)) (λ p l.
      let a : i + (256 + p) / 256 ≡ suc i + p / 256 = omega arith in
      let b : (256 + p) % 256 ≡ p % 256 = omega arith in
      ap (λ n. obeys w t n ((256 + p) % 256)) a ∙ ap (obeys w t (suc i + p / 256)) b)

  rows_tally : (d i : ℕ) → i + d ≡ length w → length w ≤ 255 → tally_below (256 * suc d) (From i) ≡ length (from_starts w t d i)
  rows_tally zero i e h =
      let s : 256 * 1 ≡ 256 = omega arith in
      ap (λ n. tally_below n (From i)) s ∙ omega (arith, first_row i, row_tally i 0 e h, start_length 0 i i [])
  rows_tally (suc d) i e h =
      let s : 256 * suc (suc d) ≡ 256 + 256 * suc d = omega arith in
      ap (λ n. tally_below n (From i)) s
      ∙ omega (
        arith,
        tally_add 256 (256 * suc d) (From i),
        first_row i,
        row_tally i (suc d) e h,
        next_rows (suc d) i,
        rows_tally d (suc i) (omega arith) h,
        start_length (suc d) i i (from_starts w t d (suc i)),
      )

  pub found_listed : length w ≤ 255 → found w t ≡ length (obeying w t)
  unfolding found block obeying
  found_listed h =
      let s : 64 * block_length (length w) ≡ 256 * suc (length w) = omega arith in
      run_ones (block_length (length w)) (λ p. obeys w t (start_of p) (end_of p))
      ∙ ap (λ n. tally_below n (λ p. obeys w t (start_of p) (end_of p))) s
      ∙ tally_same (256 * suc (length w)) (λ p. obeys w t (start_of p) (end_of p)) (From 0)
      (λ p l. let a : p / 256 ≡ 0 + p / 256 = omega arith in ap (λ n. obeys w t n (p % 256)) a)
      ∙ rows_tally (length w) 0 (omega arith) h

  -- found is the number of spans that obey
  pub found_size : length w ≤ 255 → SizeOf (λ (p : ℕ × ℕ). Obeys w t p.0 p.1) (found w t)
  found_size h = subst (SizeOf (λ (p : ℕ × ℕ). Obeys w t p.0 p.1)) (sym (found_listed h)) (listed_size w t)
