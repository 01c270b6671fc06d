-- The listing of the first block lists exactly the spans that obey, and no other text does. Assumes nothing.
use Prim.Native.Nat.{ℕ, ◌≤◌}
use mathlib.Core.Path.{◌≡◌, sym, ap, ap₂, ◌∙◌}
use mathlib.Core.List.{List, ◌++◌, append_assoc, Memᴰ}
use lib.ListN.{length, take}
use lib.Seq.{take_at}
use Rattle.event.specs.Event.{Word}
use Rattle.event.proofs.Tests.{T_of, of_T}
use Rattle.expression.specs.Tree.{Tree, size, specials}
use Rattle.work.specs.Count.{full_count}
use Rattle.work.specs.Span.{Obeys}
use Rattle.work.specs.Spans.{Spans}
use Rattle.work.specs.SpansComputed.{obeying}
use Rattle.work.specs.Table.{block_length}
use Rattle.work.specs.TableComputed.{obeys, block, blocks, special_parts, table, found}
use Rattle.work.specs.Walk.{Collection}
use Rattle.work.proofs.Found.{found_listed}
use Rattle.work.proofs.Listed.{listed, listed_order}
use Rattle.work.proofs.Sizes.{size_unique}
use Rattle.work.proofs.TableLaws.{obeys_eq, block_length_lem}
use Rattle.work.proofs.WorkSize.{collection_size}
use Rattle.table.proofs.LayoutLaws.{block_span}
use Rattle.listing.specs.Lines.{head_line, span_lines}
use Rattle.listing.specs.Marked.{marked, listing}
use Rattle.listing.proofs.ListingLaws.{marked_has, marked_order, order_one}
use Rattle.job.specs.FirstBlock.{heading, text}
use Rattle.job.specs.JobMeaning.{Lists}

-- the first block of a table
pub first_block : (w : Word) (t : Tree) (rest : List ℕ) → take (block_length (length w)) (table w t ++ rest) ≡ block w t
unfolding table
first_block w t rest =
    ap (take (block_length (length w))) (append_assoc (block w t) (blocks w (special_parts t)) rest)
    ∙ take_at (block w t) (blocks w (special_parts t) ++ rest) (block_length (length w)) (block_length_lem w t)

module _ (w : Word) (t : Tree) (short : length w ≤ 255) where
  marks_obey : (p : ℕ × ℕ) → Memᴰ p (marked (length w) (block w t)) → Obeys w t p.0 p.1
  marks_obey p m =
      let (h, k, e) = (marked_has (length w) (block w t) p).0 m in
      (obeys_eq w t p.0 p.1).0 (T_of (obeys w t p.0 p.1) (sym (block_span w t short p.0 p.1 h k) ∙ e))

  obey_marks : (p : ℕ × ℕ) → Obeys w t p.0 p.1 → Memᴰ p (marked (length w) (block w t))
  obey_marks p o =
      let e = of_T (obeys w t p.0 p.1) ((obeys_eq w t p.0 p.1).1 o) in
      (marked_has (length w) (block w t) p).1 (o.order, o.inside, block_span w t short p.0 p.1 o.order o.inside ∙ e)

  -- 01, The program: "each span whose bit is 1 in the first block .. by rising i and then rising j": the spans that obey, in order
  pub listed_marked : marked (length w) (block w t) ≡ obeying w t
  listed_marked =
      order_one (marked (length w) (block w t)) (obeying w t) (marked_order (length w) (block w t)) (listed_order w t) (λ p. (
        λ m. (listed w t p.0 p.1).1 (marks_obey p m),
        λ m. obey_marks p ((listed w t p.0 p.1).0 m),
      ))

  pub text_obeying : text w t ≡ head_line (heading w t) ++ span_lines (obeying w t)
  unfolding listing
  text_obeying = ap (λ (l : Spans). head_line (heading w t) ++ span_lines l) listed_marked

  pub lists_text : Lists w t (found w t) (full_count w t) (text w t)
  lists_text = record {
    spans = obeying w t;
    order = listed_order w t;
    each = λ p. listed w t p.0 p.1;
    found_is = found_listed w t short;
    count_is = collection_size w t;
    text_is = text_obeying;
  }

  -- no other found, count and text
  module _ {f c : ℕ} {x : List ℕ} (h : Lists w t f c x) where
    pub same_spans : h.spans ≡ obeying w t
    same_spans =
        order_one h.spans (obeying w t) h.order (listed_order w t) (λ p. (
          λ m. (listed w t p.0 p.1).1 ((h.each p).0 m),
          λ m. (h.each p).1 ((listed w t p.0 p.1).0 m),
        ))

    pub one_found : f ≡ found w t
    one_found = h.found_is ∙ ap length same_spans ∙ sym (found_listed w t short)

    pub one_count : c ≡ full_count w t
    one_count = size_unique (Collection w t) c (full_count w t) h.count_is (collection_size w t)

    pub one_text : x ≡ text w t
    one_text =
        h.text_is
        ∙ ap (λ (l : Spans). head_line (record { n = length w; m = size t; k = specials t; found = f; count = c }) ++ span_lines l) same_spans
        ∙ ap₂ (λ (y z : ℕ). head_line (record { n = length w; m = size t; k = specials t; found = y; count = z }) ++ span_lines (obeying w t))
        one_found one_count
        ∙ sym text_obeying
