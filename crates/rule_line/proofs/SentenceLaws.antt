-- A rule whose shape is a sentence and whose names are all known: what the functions that write its records need and give. Assumes nothing.
use Prim.Native.Nat.{ℕ, ◌+◌, ◌-◌, ◌≤◌, ◌<◌}
use native.Mathlib.Omega.{arith}
use native.Mathlib.Decide.{dec_lt}
use mathlib.Core.Path.{◌≡◌, refl, sym, ap, ap₂, subst, subst₂, ◌∙◌}
use mathlib.Core.List.{List, [], ◌∷◌, ◌++◌}
use lib.ListN.{length, get_or, take, drop, length-replicate, get_or-eq_default, replicate-append-replicate}
use lib.Seq.{sets, sets-eq, drop_at, get_or-take, length-take-le, take-append_seam}
use Rattle.std.specs.Prelude.{Ok}
use Rattle.expression.specs.Tree.{size, specials, records}
use Rattle.expression.specs.Grammar.{Alt, Reads}
use Rattle.expression.specs.TreeOf.{tree_of}
use Rattle.expression.specs.declared.Node.{Node}
use Rattle.expression.proofs.RecordLaws.{records_length}
use Rattle.rule.specs.RuleAnswer.{unused}
use Rattle.rule.specs.Reader.{Readable, nodes_read}
use Rattle.rule.proofs.Answered.{complete}
use Rattle.replacement.proofs.Lengths.{nodes_most, specials_most}
use Rattle.rule_line.specs.Offsets.{no_node, OffsetsWithin}
use Rattle.rule_line.specs.Coding.{InShape, grafted_nodes, Graftable, grown, no_nodes}
use Rattle.rule_line.specs.Summing.{SmallSums, no_sums, Summed}
use Rattle.rule_line.specs.Keeping.{sums_of, origins_in, nodes_in, Fitting, Sentence, SentenceSays}
use Rattle.rule_line.specs.Passed.{PassedLine}
use Rattle.rule_line.specs.declared.PassedRule.{PassedRule}
use Rattle.rule_line.specs.declared.shape.Origin.{Origin}
use Rattle.rule_line.specs.declared.shape.Shape.{Shape}
use Rattle.rule_line.specs.declared.sums.Sums.{Sums}
use Rattle.rule_line.proofs.GraftWritten.{Below, offsets_below}
use Rattle.rule_line.proofs.StoredLines.{within_unused}
use Rattle.rule_line.proofs.SumLaws.{small_sums, small_more}

in_shape : (n : ℕ) (origins : List Origin) (places : List ℕ) → n ≤ length origins → n ≤ length places → (ns : List Node) → Below n ns → InShape ns origins places
in_shape n origins places h g [] b = tt
in_shape n origins places h g (x ∷ ns) b = ((omega (arith, b.0), omega (arith, b.0)), in_shape n origins places h g ns b.1)

-- 64 records, of which the first are these
pub stored_first : (vs : List Node) → length vs ≤ 64 → sets (unused 64) 0 vs ≡ vs ++ unused (64 - length vs)
stored_first vs h =
    let n = length vs in
    let e : 64 ≡ n + (64 - n) = omega arith in
    let z : 0 + n ≡ n = omega arith in
    sets-eq vs (unused 64) 0 (omega arith)
    ∙ ap (λ (x : List Node). vs ++ x) (ap (λ (i : ℕ). drop i (unused 64)) z ∙ ap (λ (i : ℕ). drop n (unused i)) e
    ∙ ap (drop n) (sym (replicate-append-replicate n (64 - n) no_node)) ∙ drop_at (unused n) (unused (64 - n)) n (length-replicate n no_node))

module _ {lines : List PassedLine} {shape : Shape} {m k : ℕ} (z : Sentence lines shape m k) where
  abbrev n : ℕ
  n = shape.n

  abbrev bytes : List ℕ
  bytes = take n shape.bytes

  abbrev origins : List Origin
  origins = origins_in shape

  abbrev sums : Sums
  sums = sums_of lines origins

  read : Reads Alt 0 bytes (tree_of bytes) × (m ≡ size (tree_of bytes)) × (k ≡ specials (tree_of bytes))
  read = complete z.scan

  bytes_long : length bytes ≡ n
  bytes_long = length-take-le n shape.bytes (omega (arith, z.few, z.bytes_long))

  pub origins_long : length origins ≡ n
  origins_long = length-take-le n shape.origins (omega (arith, z.few, z.origins_long))

  none_small : SmallSums no_sums 0
  none_small = record { length_most = omega arith; nodes_most = omega arith; specials_most = omega arith }

  small_to : (os : List Origin) → length os ≤ 255 → SmallSums (sums_of lines os) 255
  small_to os h = small_more (sums_of lines os) (0 + length os) 255 (omega arith) (small_sums lines no_sums os 0 none_small)

  -- of the shape's bytes and origins, as they are lent
  module _ {bs : List ℕ} {os : List Origin} (b : bs ≡ bytes) (o : os ≡ origins) {places : List ℕ} {w : Sums} (v' : Summed lines os places w)
      (long : length places ≡ 255) where
    v : Summed lines origins places w
    v = subst (λ (x : List Origin). Summed lines x places w) o v'

    places_long : length (take n places) ≡ n
    places_long = length-take-le n places (omega (arith, z.few))

    placed : Summed lines origins (take n places) sums
    placed = record { sums = refl; placed = λ j h. get_or-take n places j 0 (omega (arith, origins_long)) ∙ v.placed j h }

    near : (o : ℕ) → get_or (take n places) o 0 < 1000000000
    near o = go (dec_lt o n)
      where
        go : Dec (o < n) → get_or (take n places) o 0 < 1000000000
        go (yes h) =
            let l : length (take o origins) ≤ 255
            = omega (arith, length-take-le o origins (omega (arith, origins_long)), z.few) in
            omega (arith, placed.placed o (omega (arith, origins_long)), (small_to (take o origins) l).length_most)
        go (no h) =
            let l : length (take n places) ≤ o = omega (arith, places_long) in
            omega (arith, get_or-eq_default (take n places) 0 l)

    nodes_is : w.nodes ≡ sums.nodes
    nodes_is = ap (λ (x : Sums). x.nodes) v.sums

    special_is : w.specials ≡ sums.specials
    special_is = ap (λ (x : Sums). x.specials) v.sums

    pub sums_fit : (m + w.nodes ≤ 1000000000) × (k + w.specials ≤ 1000000000)
    sums_fit =
        let r = read in
        let a = nodes_most r.0 in
        let b = specials_most (tree_of bytes) in
        let s = small_to origins (omega (arith, origins_long, z.few)) in
        let l = bytes_long in
        let f = z.few in
        (omega (arith, r.1, s.nodes_most, nodes_is), omega (arith, r.1, r.2, s.specials_most, special_is))

    pub readable : m + w.nodes ≤ 64 → (length bs ≤ 255) × Readable bs
    readable h =
        let r = read in
        subst (λ (x : List ℕ). (length x ≤ 255) × Readable x) (sym b)
        (omega (arith, bytes_long, z.few), record { sentence = r.0; few = omega (arith, r.1) })

    module _ (h : m + w.nodes ≤ 64) where
      fitting : Fitting lines shape (take n places)
      fitting = z.fitting (take n places) placed (omega (arith, nodes_is))

      module _ (ns : List Node) (e : ns ≡ nodes_read bs) where
        first : take m ns ≡ records (tree_of bytes)
        first =
            let t = tree_of bytes in
            ap (take m) (e ∙ ap nodes_read b) ∙ ap (λ (i : ℕ). take i (nodes_read bytes)) (read.1 ∙ sym (records_length t)) ∙ take-append_seam (records t) (unused (64 - size t))

        pub graftable : Graftable (take m ns) os (take n places) lines
        graftable =
            subst₂ (λ (x : List Node) (y : List Origin). Graftable x y (take n places) lines) (sym first) (sym o)
            (record {
              fits = fitting.fits;
              inside = in_shape n origins (take n places) (omega (arith, origins_long)) (omega (arith, places_long)) (records (tree_of bytes))
                  (subst (λ (i : ℕ). Below i (records (tree_of bytes))) (omega (arith, bytes_long)) (offsets_below read.0));
              near = near;
            })

        -- the records that are written
        module _ (written : List Node) (f : written ≡ (grown no_nodes (grafted_nodes os (take n places) lines (take m ns))).nodes) where
          written_is : written ≡ sets (unused 64) 0 (nodes_in lines shape (take n places))
          written_is = f ∙ ap₂ (λ (x : List Node) (y : List Origin). sets (unused 64) 0 (grafted_nodes y (take n places) lines x)) first o

          pub passes : (w.length ≤ 1000000) × (1 ≤ m + w.nodes) × OffsetsWithin 1000000 written
          passes =
              let g = fitting in
              let l = ap (λ (x : Sums). x.length) v.sums in (
                omega (arith, g.short),
                omega (arith, read.1),
                subst (OffsetsWithin 1000000) (sym (written_is ∙ stored_first (nodes_in lines shape (take n places)) g.fits))
                    (within_unused 1000000 (64 - length (nodes_in lines shape (take n places))) (nodes_in lines shape (take n places)) g.near),
              )

          pub sentence_says : k + w.specials ≤ 7 → (q : PassedRule) → q.records.m ≡ m + w.nodes → q.records.k ≡ k + w.specials → q.text_length ≡ w.length
              → q.records.nodes ≡ written → SentenceSays lines shape m k (Ok q)
          sentence_says few q a b c d =
              record {
                places = take n places;
                summed = placed;
                says = record {
                  m_is = omega (arith, nodes_is);
                  k_is = omega (arith, special_is);
                  few_special = omega (arith, special_is);
                  long = c ∙ ap (λ (x : Sums). x.length) v.sums;
                  nodes = d ∙ written_is;
                };
              }
