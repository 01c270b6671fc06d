-- The rule of a line, below lines of which the reader keeps what it keeps: what the code finds is `judged`. Assumes nothing.
use Prim.Native.Nat.{ℕ, zero, suc, ◌+◌, ◌-◌, ◌*◌, ◌≤◌, ◌<◌}
use native.Mathlib.Omega.{arith}
use mathlib.Core.Path.{◌≡◌, refl, sym, ap, ap₂, subst, subst₂, ◌∙◌}
use mathlib.Core.Bool.{Bool, true, false, cond, ◌&&◌}
use mathlib.Core.List.{List, [], ◌∷◌, ◌++◌}
use lib.Dec.{eqb, ltb}
use lib.ListN.{length, get_or, take}
use lib.Seq.{sets}
use borrow.Author.Tests.{eqb-false, lt-ltb, le-ltb}
use Rattle.std.specs.Prelude.{Some, None, Result, Ok, Err}
use Rattle.std.specs.List.{list_all}
use Rattle.expression.specs.Tree.{Tree, size, specials, records}
use Rattle.expression.specs.Grammar.{Alt, Reads}
use Rattle.expression.specs.Scan.{scanned, finds, is_sentence, counted}
use Rattle.expression.specs.TreeOf.{tree_of}
use Rattle.expression.specs.OrderComputed.{unordered_at}
use Rattle.expression.specs.StarsComputed.{double_at}
use Rattle.expression.specs.declared.Node.{Node}
use Rattle.std.proofs.Common.{Err}
use Rattle.expression.proofs.RecordLaws.{records_length}
use Rattle.rule.specs.RuleAnswer.{unused}
use Rattle.rule.specs.RuleMeaning.{FitsLength}
use Rattle.rule.proofs.Answered.{complete}
use Rattle.replacement.specs.Pieces.{pieces, shape}
use Rattle.replacement.specs.Graft.{more_nodes}
use Rattle.replacement.proofs.NameLaws.{both}
use Rattle.replacement.proofs.Lengths.{replaced_length}
use Rattle.rule_line.specs.Lines.{Line, refusal_number}
use Rattle.rule_line.specs.LineMeaning.{is_written, LegalText}
use Rattle.rule_line.specs.LineComputed.{has, text_of, tree_named, knows, bad, good, sized, ordered, no_double, judged, replaced_by}
use Rattle.rule_line.specs.Coding.{origin_of, is_known, Cut}
use Rattle.rule_line.specs.Summing.{no_sums, summed, Summed}
use Rattle.rule_line.specs.Keeping.{Bounded, Kept, sums_of, origins_in, nodes_in, Sentence, SentenceSays, RuleSays}
use Rattle.rule_line.specs.Passed.{PassedLine}
use Rattle.rule_line.specs.declared.PassedRule.{PassedRule}
use Rattle.rule_line.specs.declared.Refusal.{Refusal}
use Rattle.rule_line.specs.declared.Refusal.TheVariants.{ManyNodes, ManySpecials}
use Rattle.rule_line.specs.declared.shape.Origin.{Origin}
use Rattle.rule_line.specs.declared.shape.Shape.{Shape}
use Rattle.rule_line.specs.declared.sums.Sums.{Sums}
use Rattle.rule_line.proofs.ByName.{known_is, found, Told, summed_is, place_is}
use Rattle.rule_line.proofs.ByShape.{by_shape, tree_by_shape, nodes_by_shape, length_by_shape}
use Rattle.rule_line.proofs.GraftWritten.{offsets_below, origins_length, graft_writes}
use Rattle.rule_line.proofs.JudgedLaws.{judged_foreign, past_bytes, in_order, all_no_double}
use Rattle.rule_line.proofs.LineNames.{knows_all}
use Rattle.rule_line.proofs.SentenceLaws.{stored_first}
use Rattle.rule_line.proofs.StoredLines.{told, text_bound, below_within}

-- ---- the tests for 1, 2 and 3
fits : (s : List ℕ) → false ≡ eqb (length s) 0 → length s ≤ 255 → FitsLength s
fits s e h = let n = eqb-false (length s) 0 (sym e) in (omega arith, h)

written_each : (s : List ℕ) → list_all is_written s ≡ true → (i : ℕ) → i < length s → is_written (get_or s i 0) ≡ true
written_each [] e i h = absurd (omega arith)
written_each (b ∷ s) e zero h = (both (is_written b) (list_all is_written s) e).0
written_each (b ∷ s) e (suc i) h = written_each s (both (is_written b) (list_all is_written s) e).1 i (omega arith)

-- what they leave
pub legal_found : (s : List ℕ) → false ≡ eqb (length s) 0 → length s ≤ 255 → list_all is_written s ≡ true → LegalText s
legal_found s e h w = record { fits = fits s e h; listed = written_each s w }

foreign_in : (s : List ℕ) → list_all is_written s ≡ false → (i : ℕ) × (i < length s) × (is_written (get_or s i 0) ≡ false)
foreign_in [] e = absurd (let n : ◌≡◌ {A = ℕ} 0 1 = cc in omega arith)
foreign_in (b ∷ s) e = go (is_written b) refl e (foreign_in s)
  where
    go : (t : Bool) → is_written b ≡ t → (t && list_all is_written s) ≡ false
        → (list_all is_written s ≡ false → (i : ℕ) × (i < length s) × (is_written (get_or s i 0) ≡ false))
        → (i : ℕ) × (i < suc (length s)) × (is_written (get_or (b ∷ s) i 0) ≡ false)
    go false f g ih = (0, omega arith, f)
    go true f g ih = let r = ih g in (suc r.0, omega (arith, r.1), r.2)

pub foreign_found : (ls : List Line) (s : List ℕ) → false ≡ eqb (length s) 0 → length s ≤ 255 → list_all is_written s ≡ false → judged ls s ≡ bad 3
foreign_found ls s e h w = let f = foreign_in s w in judged_foreign ls s (fits s e h) f.1 f.2

-- ---- what has been found of the rule s: legal, and cut into its shape
module _ {lines : List PassedLine} {ls : List Line} (k : Kept lines ls) {s : List ℕ} (legal : LegalText s) {shape' : Shape} (c : Cut lines s shape') where
  abbrev bytes : List ℕ
  bytes = take shape'.n shape'.bytes

  abbrev origins : List Origin
  origins = origins_in shape'

  pub few : shape'.n ≤ 255
  few = omega (arith, c.few, legal.fits.1)

  shape_found : is_sentence (shape s) ≡ finds (scanned bytes)
  shape_found = ap (λ (x : List ℕ). finds (scanned x)) (sym c.bytes)

  known_found : knows ls (pieces s) ≡ list_all is_known origins
  known_found = sym (ap (list_all is_known) c.originated ∙ known_is lines ls k.each (pieces s))

  -- of the bytes as they are lent
  module _ {bs : List ℕ} (b : bs ≡ bytes) where
    -- 4
    pub judged_broken : {i : ℕ} → scanned bs ≡ Err i → judged ls s ≡ bad 4
    judged_broken h = past_bytes ls s legal (rw (shape_found ∙ ap finds (ap scanned (sym b) ∙ h)))

    module _ {m c₀ : ℕ} (h : scanned bs ≡ counted m c₀) {os : List Origin} (o : os ≡ origins) where
      scan : scanned bytes ≡ counted m c₀
      scan = ap scanned (sym b) ∙ h

      y : is_sentence (shape s) ≡ true
      y = shape_found ∙ ap finds scan

      -- 17
      pub judged_unknown : list_all is_known os ≡ false → judged ls s ≡ bad 17
      judged_unknown g = past_bytes ls s legal (rw (y, known_found ∙ ap (list_all is_known) (sym o) ∙ g))

      module _ (g : list_all is_known os ≡ true) where
        z : knows ls (pieces s) ≡ true
        z = known_found ∙ ap (list_all is_known) (sym o) ∙ g

        -- 20
        pub judged_unordered : {f : ℕ} → f ≡ unordered_at s → f < length s → judged ls s ≡ bad 20
        judged_unordered {f} e l = past_bytes ls s legal (rw (y, z, lt-ltb (unordered_at s) (length s) (omega arith)))

        -- 21
        pub judged_double : {f d : ℕ} → f ≡ unordered_at s → length s ≤ f → d ≡ double_at s → d < length s → judged ls s ≡ bad 21
        judged_double {f} {d} e l e' l' =
            past_bytes ls s legal (rw (y, z, le-ltb (unordered_at s) (length s) (omega arith), lt-ltb (double_at s) (length s) (omega arith)))

        abbrev sums : Sums
        sums = sums_of lines origins

        abbrev replaced : List ℕ
        replaced = replaced_by ls s

        abbrev tree : Tree
        tree = tree_of replaced

        of_each : (x : List ℕ) → has ls x ≡ true → Told lines (text_of ls) (tree_named ls) x
        of_each x h = told lines ls k.each x h

        same : judged ls s ≡ ordered s (no_double s (sized replaced tree))
        same = past_bytes ls s legal (rw (y, z))

        reads : Reads Alt 0 replaced tree
        reads = subst (Reads Alt 0 replaced) (sym (tree_by_shape ls s k.sound y z)) (by_shape ls s k.sound y z)

        by_sums : (length replaced ≡ sums.length) × (size tree ≡ m + sums.nodes) × (specials tree ≡ c₀ + sums.specials)
        by_sums =
            let a = knows_all ls (Told lines (text_of ls) (tree_named ls)) of_each (pieces s) z in
            let q = summed_is lines (text_of ls) (tree_named ls) (pieces s) a no_sums in
            let b = nodes_by_shape ls s k.sound y z (ap scanned (sym c.bytes) ∙ scan) in
            let u = ap (summed lines no_sums) c.originated in (
              omega (arith, length_by_shape ls s k.sound y z, q.0, ap (λ (x : Sums). x.length) u),
              omega (arith, b.0, q.1, ap (λ (x : Sums). x.nodes) u),
              omega (arith, b.1, q.2, ap (λ (x : Sums). x.specials) u),
            )

        -- the records that are written
        nodes_are : (places : List ℕ) → Summed lines origins places sums → nodes_in lines shape' places ≡ records tree
        nodes_are places w =
            let a = knows_all ls (Told lines (text_of ls) (tree_named ls)) of_each (pieces s) z in
            let n : length origins ≡ length (pieces s) = ap length c.originated ∙ origins_length lines (pieces s) in
            ap (λ (x : List ℕ). nodes_in' x places) c.bytes
            ∙ graft_writes lines ls s places origins k.sound y z c.originated of_each
            (λ o i. w.placed o (omega arith) ∙ ap (λ (x : List Origin). (summed lines no_sums (take o x)).length) c.originated
            ∙ place_is lines (text_of ls) (tree_named ls) (pieces s) a o)
          where
            nodes_in' : List ℕ → List ℕ → List Node
            nodes_in' x places = Rattle.rule_line.specs.Coding.grafted_nodes origins places lines (records (tree_of x))

        -- how long the replaced text is
        bound : length replaced ≤ 255 * suc (length ls) * size tree
        bound =
            let c₁ = 255 * length ls in
            let t₀ = tree_of (shape s) in
            let x = complete (ap scanned (sym c.bytes) ∙ scan) in
            let a = knows_all ls (λ (x : List ℕ). length (text_of ls x) ≤ c₁ * size (tree_named ls x)) named_bound (pieces s) z in
            let l = replaced_length (text_of ls) (tree_named ls) c₁ s legal.fits.1 x.0 a in
            let q = nodes_by_shape ls s k.sound y z (ap scanned (sym c.bytes) ∙ scan) in
            let e : size t₀ + more_nodes (tree_named ls) (pieces s) ≡ size tree = omega (arith, q.0, x.1) in
            let f : c₁ + 255 ≡ 255 * suc (length ls) = omega arith in
            let p : (c₁ + 255) * (size t₀ + more_nodes (tree_named ls) (pieces s)) ≡ 255 * suc (length ls) * size tree
            = ap₂ (λ (i j : ℕ). i * j) f e in
            omega (arith, l, p, length_by_shape ls s k.sound y z)
          where
            named_bound : (x : List ℕ) → has ls x ≡ true → length (text_of ls x) ≤ 255 * length ls * size (tree_named ls x)
            named_bound x i =
                let r = found lines ls k.each (Bounded (length ls)) k.bounded x i in
                subst₂ (λ (u : List ℕ) (t : Tree). length u ≤ 255 * length ls * size t) (sym r.text) (sym r.tree) r.holds.1

        short : size tree ≤ 64 → length replaced ≤ 1000000
        short h = omega (arith, text_bound (suc (length ls)) (size tree) (length replaced) h bound, k.few)

        pub sentence : Sentence lines shape' m c₀
        sentence =
            record {
              few = few;
              bytes_long = c.bytes_long;
              origins_long = c.origins_long;
              scan = scan;
              fitting = λ places w l.
                  let e = nodes_are places w in
                  let n = by_sums in
                  let h : size tree ≤ 64 = omega (arith, n.1) in
                  record {
                    fits = omega (arith, ap length e, records_length tree);
                    near = subst (Rattle.rule_line.specs.Offsets.OffsetsWithin 1000000) (sym e)
                        (below_within (0 + length replaced) 1000000 (omega (arith, short h)) (records tree) (offsets_below reads));
                    short = omega (arith, n.0, short h);
                  };
            }

        -- 5, 6, or the line has passed
        pub says : {i d : ℕ} → i ≡ unordered_at s → length s ≤ i → d ≡ double_at s → length s ≤ d → (r : Result PassedRule Refusal)
            → SentenceSays lines shape' m c₀ r → RuleSays ls s r
        says {i} {d} u l v l' (Err x) a =
            let n = by_sums in
            same ∙ in_order s (omega arith) ∙ all_no_double s (omega arith)
            ∙ ap₂ (λ (i j : ℕ). cond (ltb 64 i) (bad 5) (cond (ltb 7 j) (bad 6) (good replaced tree))) n.1 n.2
            ∙ refused (ltb 64 (m + sums.nodes)) (ltb 7 (c₀ + sums.specials)) a.says
          where
            refused : (p q : Bool) → cond p (Some ManyNodes) (cond q (Some ManySpecials) None) ≡ Some x
                → cond p (bad 5) (cond q (bad 6) (good replaced tree)) ≡ bad (refusal_number x)
            refused true q e = let z : ManyNodes ≡ x = cc in ap (λ (x : Refusal). bad (refusal_number x)) z
            refused false true e = let z : ManySpecials ≡ x = cc in ap (λ (x : Refusal). bad (refusal_number x)) z
            refused false false e = absurd (let n : ◌≡◌ {A = ℕ} 0 1 = cc in omega arith)
        says {i} {d} u l v l' (Ok q) a =
            let n = by_sums in
            let w = a.says in
            let few = q.records.m_bound in
            let h : size tree ≤ 64 = omega (arith, n.1, w.m_is) in
            let g : specials tree ≤ 7 = omega (arith, n.2, w.few_special) in
            let e = nodes_are a.places a.summed in
            let mi : q.records.m ≡ size tree = w.m_is ∙ sym n.1 in
            let ki : q.records.k ≡ specials tree = w.k_is ∙ sym n.2 in
            let ni : q.records.nodes ≡ records tree ++ unused (64 - size tree)
            = w.nodes ∙ ap (sets (unused 64) 0) e ∙ stored_first (records tree) (omega (arith, records_length tree))
            ∙ ap (λ (i : ℕ). records tree ++ unused (64 - i)) (records_length tree) in
            record {
              text = replaced;
              tree = tree;
              same = same ∙ in_order s (omega arith) ∙ all_no_double s (omega arith) ∙ rw (le-ltb 64 (size tree) h, le-ltb 7 (specials tree) g);
              stored = cc;
              long = w.long ∙ sym n.0;
              reads = reads;
              few = h;
              few_special = g;
              bound = bound;
            }
