-- The reading of a replaced text from that of its shape, as the code takes it. Assumes nothing.
use Prim.Native.Nat.{ℕ, ◌+◌}
use mathlib.Core.Path.{◌≡◌, sym, ap, subst, ◌∙◌}
use mathlib.Core.Bool.{true}
use mathlib.Core.List.{List}
use lib.ListN.{length}
use Rattle.event.proofs.Tests.{T_of}
use Rattle.expression.specs.Tree.{size, specials, records}
use Rattle.expression.specs.Grammar.{Alt, Reads}
use Rattle.expression.specs.Scan.{scanned, is_sentence, counted}
use Rattle.expression.specs.TreeOf.{tree_of}
use Rattle.expression.proofs.OneReading.{tree_is, sentence_reads}
use Rattle.expression.proofs.ScanAccepts.{same_counts, sentence_found}
use Rattle.replacement.specs.Pieces.{pieces, shape}
use Rattle.replacement.specs.Graft.{graft_nodes, place, total, operand_at, grafted, more_nodes, more_specials}
use Rattle.replacement.proofs.ShapeLaws.{counts_add}
use Rattle.replacement.proofs.Grafted.{filled_length, grafts}
use Rattle.replacement.proofs.GraftRecords.{graft_records}
use Rattle.rule_line.specs.Lines.{Line}
use Rattle.rule_line.specs.LineComputed.{text_of, tree_named, knows, replaced_by}
use Rattle.rule_line.specs.Keeping.{Sound}
use Rattle.rule_line.proofs.LineNames.{known_reads}

module _ (ls : List Line) (s : List ℕ) (d : Sound ls) (y : is_sentence (shape s) ≡ true) (k : knows ls (pieces s) ≡ true) where
  shape_reads : Reads Alt 0 (shape s) (tree_of (shape s))
  shape_reads = sentence_reads (shape s) (T_of (is_sentence (shape s)) y)

  -- the replaced text is read as the tree grafted from the shape's, and no other
  pub by_shape : Reads Alt 0 (replaced_by ls s) (grafted (text_of ls) (tree_named ls) (pieces s) (tree_of (shape s)))
  by_shape = grafts (text_of ls) (tree_named ls) (pieces s) (known_reads d (pieces s) k) shape_reads

  pub tree_by_shape : tree_of (replaced_by ls s) ≡ grafted (text_of ls) (tree_named ls) (pieces s) (tree_of (shape s))
  tree_by_shape = tree_is by_shape

  -- its records, record by record
  pub records_by_shape : records (tree_of (replaced_by ls s))
      ≡ graft_nodes (place (text_of ls) (tree_named ls) (pieces s))
      (λ (o : ℕ). records (operand_at (text_of ls) (tree_named ls) (place (text_of ls) (tree_named ls) (pieces s) o) (pieces s) o))
      (records (tree_of (shape s)))
  records_by_shape =
      ap records tree_by_shape
      ∙ graft_records (place (text_of ls) (tree_named ls) (pieces s))
      (λ (o : ℕ). operand_at (text_of ls) (tree_named ls) (place (text_of ls) (tree_named ls) (pieces s) o) (pieces s) o) (tree_of (shape s))

  -- its nodes and special nodes
  pub nodes_by_shape : {m c : ℕ} → scanned (shape s) ≡ counted m c
      → (size (tree_of (replaced_by ls s)) ≡ m + more_nodes (tree_named ls) (pieces s))
      × (specials (tree_of (replaced_by ls s)) ≡ c + more_specials (tree_named ls) (pieces s))
  nodes_by_shape {m} {c} e =
      let r : Reads Alt 0 (replaced_by ls s) (tree_of (replaced_by ls s)) = subst (Reads Alt 0 (replaced_by ls s)) (sym tree_by_shape) by_shape in
      same_counts (sym (sentence_found r) ∙ counts_add (text_of ls) (tree_named ls) (pieces s) (known_reads d (pieces s) k) e)

  -- its length
  pub length_by_shape : length (replaced_by ls s) ≡ total (text_of ls) (tree_named ls) (pieces s)
  length_by_shape = filled_length (text_of ls) (tree_named ls) (pieces s)
