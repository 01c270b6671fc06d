-- `rule_answer` is the one answer that says what `RuleMeaning` asks. Assumes nothing.
use Prim.Native.Nat.{ℕ, ◌≤◌, ◌<◌}
use native.Mathlib.Omega.{arith}
use native.Mathlib.Decide.{dec_lt}
use mathlib.Core.Path.{◌≡◌, refl, sym, ap, subst, subst₂, ◌∙◌}
use mathlib.Core.List.{List}
use mathlib.Core.Bool.{false}
use lib.ListN.{length}
use lib.Dec.{eqb, ltb}
use borrow.Author.Tests.{eqb-true, eqb-false, ltb-true, ltb-false, eq-eqb, ne_eqb, lt-ltb, le-ltb}
use Rattle.expression.specs.Tree.{Tree, size, specials}
use Rattle.expression.specs.Grammar.{Alt, Reads, Sentence, Longest}
use Rattle.expression.specs.Scan.{ScanResult, counted, scanned, Means, SentenceOf}
use Rattle.expression.specs.TreeOf.{tree_of}
use Rattle.expression.specs.declared.Size.{Size}
use Rattle.std.proofs.Common.{Ok, Err}
use Rattle.expression.proofs.ScanAccepts.{sentence_found}
use Rattle.event.proofs.LeadingLaws.{leading_found, leading_is}
use Rattle.event.proofs.Tests.{choose}
use Rattle.expression.proofs.ScanDecides.{scan_right}
use Rattle.expression.specs.Stars.{NoDouble}
use Rattle.expression.specs.StarsComputed.{double_at}
use Rattle.expression.specs.OrderComputed.{unordered_at}
use Rattle.expression.proofs.DoubleLaws.{first_double, no_double_lem, none_is, double_inside}
use Rattle.expression.proofs.DoubleLaws.{first_is as double-is}
use Rattle.expression.proofs.OneReading.{tree_is}
use Rattle.expression.proofs.UnorderedLaws.{unordered_first, ordered_all, first_is, ordered_is, inside_text}
use Rattle.verdict.specs.Verdicts.{refused}
use Rattle.verdict.specs.declared.Verdict.{Verdict}
use Rattle.rule.specs.RuleAnswer.{RuleAnswer, is_rule_byte, refusal, acceptance, values, nodes_for, refusal_verdict, unused, told}
use Rattle.rule.specs.RuleComputed.{foreign_at, ordered, after_scan, sentence_outcome, no_double, size_outcome, sized, rule_outcome, Outcome, answer_to, rule_answer}
use Rattle.rule.specs.RuleMeaning.{FitsLength, Legal, WellFormed, IllFormed, empty_text, long_text, foreign_byte, no_sentence, unordered_set}
use Rattle.rule.specs.RuleMeaning.{RuleMeaning, ill_formed, double_star, many_nodes, many_specials, accepted}
use Rattle.rule.specs.Reader.{Readable}
use Rattle.rule.specs.declared.Refusal.{Refusal}
use Rattle.rule.specs.declared.Refusal.TheVariants.{EmptyText, LongText, ForeignByte, NoSentence, UnorderedSet, DoubleStar, ManyNodes, ManySpecials}

-- ---- the checks 1 to 4 and 20
-- m and k are those of the tree that the text is read as
pub record WellFormedOf (s : List ℕ) (m k : ℕ) : Type 0 where
  pub tree : Tree
  pub formed : WellFormed s tree
  pub nodes : m ≡ size tree
  pub special : k ≡ specials tree

-- what an outcome says of the text
abbrev pub Says : List ℕ → Outcome → Type 0
Says s (Ok z) = WellFormedOf s z.m z.k
Says s (Err r) = IllFormed s (refusal_verdict r).number (refusal_verdict r).place

ordered_says : (s : List ℕ) → Legal s → (m k : ℕ) → SentenceOf s m k → Says s (ordered s m k)
ordered_says s a m k w =
    choose (Says s) (ltb (unordered_at s) (length s)) (λ e. unordered_set a w.reads (unordered_first s (ltb-true _ _ e)))
    (λ e. record {
      tree = w.tree;
      formed = record { legal = a; reads = w.reads; ordered = ordered_all s (ltb-false _ _ e) };
      nodes = w.nodes;
      special = w.special;
    })

scan_says : (s : List ℕ) → Legal s → (x : ScanResult) → Means s x → Says s (after_scan s x)
scan_says s a (Ok z) w = ordered_says s a z.m z.k w
scan_says s a (Err n) w = no_sentence a w.none_such w.place

legal : (s : List ℕ) → FitsLength s → length s ≤ foreign_at s → Legal s
legal s a h =
    let x = leading_found is_rule_byte s in
    record { fits = a; listed = λ i l. x.before i (omega arith) }

pub sentence_says : (s : List ℕ) → Says s (sentence_outcome s)
unfolding sentence_outcome
sentence_says s =
    let Q = Says s in
    choose Q (eqb (length s) 0) (λ e. empty_text (eqb-true _ _ e))
    (λ e. choose Q (ltb 255 (length s)) (λ l. long_text (ltb-true _ _ l))
    (λ l. let a : FitsLength s = fits e l in
    choose Q (ltb (foreign_at s) (length s))
    (λ f. let h = ltb-true _ _ f in foreign_byte a h (leading_found is_rule_byte s).before ((leading_found is_rule_byte s).there h))
    (λ f. scan_says s (legal s a (ltb-false _ _ f)) (scanned s) (scan_right s))))
  where
    fits : eqb (length s) 0 ≡ false → ltb 255 (length s) ≡ false → FitsLength s
    fits e l =
        let n = eqb-false (length s) 0 e in
        let h = ltb-false 255 (length s) l in
        (omega arith, omega arith)

-- at each of the first three tests, and past them
pub at_empty : (s : List ℕ) → length s ≡ 0 → sentence_outcome s ≡ Err EmptyText
unfolding sentence_outcome
at_empty s e = simp (eq-eqb (length s) 0 e)

pub at_long : (s : List ℕ) → 255 < length s → sentence_outcome s ≡ Err LongText
unfolding sentence_outcome
at_long s h =
    let n : length s ≡ 0 → ⊥ = λ e. omega arith in
    simp (ne_eqb (length s) 0 n, lt-ltb 255 (length s) h)

pub at_foreign : (s : List ℕ) → FitsLength s → foreign_at s < length s → sentence_outcome s ≡ Err (ForeignByte (foreign_at s))
unfolding sentence_outcome
at_foreign s a h =
    let n : length s ≡ 0 → ⊥ = λ e. omega arith in
    simp (ne_eqb (length s) 0 n, le-ltb 255 (length s) a.1, lt-ltb (foreign_at s) (length s) h)

pub past_foreign : (s : List ℕ) → FitsLength s → length s ≤ foreign_at s → sentence_outcome s ≡ after_scan s (scanned s)
unfolding sentence_outcome
past_foreign s a h =
    let n : length s ≡ 0 → ⊥ = λ e. omega arith in
    simp (ne_eqb (length s) 0 n, le-ltb 255 (length s) a.1, le-ltb (foreign_at s) (length s) h)

past : (s : List ℕ) → Legal s → sentence_outcome s ≡ after_scan s (scanned s)
past s a =
    let f = leading_is is_rule_byte s (length s) (record { within = omega arith; before = a.listed; there = λ h. absurd (omega arith) }) in
    past_foreign s a.fits (omega arith)

of_reading : {s : List ℕ} {t : Tree} → Legal s → Reads Alt 0 s t → sentence_outcome s ≡ ordered s (size t) (specials t)
of_reading {s} a r = past s a ∙ ap (after_scan s) (sentence_found r)

at_most : (s : List ℕ) (m n : ℕ) → Longest s m → Longest s n → m ≤ n
at_most s m n a b = go (dec_lt n m)
  where
    go : Dec (n < m) → m ≤ n
    go (yes h) = absurd (b.longest m h a.within a.viable)
    go (no h) = omega arith

broken_is : (s : List ℕ) (n : ℕ) → (Sentence s → ⊥) → Longest s n → (x : ScanResult) → Means s x → after_scan s x ≡ Err (NoSentence n)
broken_is s n none l (Ok z) w = absurd (none (w.tree, w.reads))
broken_is s n none l (Err j) w =
    let a = at_most s j n w.place l in
    let b = at_most s n j l w.place in
    let e : j ≡ n = omega arith in
    ap (λ (i : ℕ). Err (NoSentence i)) e

-- a text that fits is accepted
pub well_formed_is : {s : List ℕ} {t : Tree} → WellFormed s t → sentence_outcome s ≡ counted (size t) (specials t)
well_formed_is {s} f = of_reading f.legal f.reads ∙ simp (le-ltb (unordered_at s) (length s) (ordered_is f.ordered))

-- and one that does not is refused with its number and place
pub record RefusedAs (s : List ℕ) (n p : ℕ) : Type 0 where
  pub why : Refusal
  pub outcome : sentence_outcome s ≡ Err why
  pub verdict : refusal_verdict why ≡ refused n p

pub ill_formed_is : {s : List ℕ} {n p : ℕ} → IllFormed s n p → RefusedAs s n p
ill_formed_is {s} (empty_text e) = record { why = EmptyText; outcome = at_empty s e; verdict = refl }
ill_formed_is {s} (long_text h) = record { why = LongText; outcome = at_long s h; verdict = refl }
ill_formed_is {s} (foreign_byte {n = n} a h l b) =
    let f = leading_is is_rule_byte s n (record { within = omega arith; before = l; there = λ h. b }) in
    record { why = ForeignByte n; outcome = at_foreign s a (omega arith) ∙ ap (λ (i : ℕ). Err (ForeignByte i)) f; verdict = refl }
ill_formed_is {s} (no_sentence {n = n} a none l) =
    record { why = NoSentence n; outcome = past s a ∙ broken_is s n none l (scanned s) (scan_right s); verdict = refl }
ill_formed_is {s} (unordered_set {n = n} a r f) =
    let l = lt-ltb (unordered_at s) (length s) (omega (arith, first_is f, inside_text s n f.there)) in
    record { why = UnorderedSet n; outcome = of_reading a r ∙ simp l (ap (λ (i : ℕ). Err (UnorderedSet i)) (first_is f)); verdict = refl }

-- ---- the answer means what it says
refused_values : (r : Refusal) → told (refusal_verdict r) 0 0 (unused 64) ≡ refusal (refusal_verdict r).number (refusal_verdict r).place
refused_values EmptyText = refl
refused_values LongText = refl
refused_values (ForeignByte n) = refl
refused_values (NoSentence n) = refl
refused_values (UnorderedSet n) = refl
refused_values (DoubleStar n) = refl
refused_values ManyNodes = refl
refused_values ManySpecials = refl

accepted_answer : {s : List ℕ} {t : Tree} → Reads Alt 0 s t → answer_to s (counted (size t) (specials t)) ≡ acceptance t
accepted_answer {t = t} r = ap (λ (x : Tree). values 0 0 (size t) (specials t) (nodes_for x)) (tree_is r)

size_means : (s : List ℕ) (t : Tree) → WellFormed s t → NoDouble s → RuleMeaning s (answer_to s (size_outcome (size t) (specials t)))
size_means s t f d =
    let Q : Outcome → Type 0 = λ o. RuleMeaning s (answer_to s o) in
    choose Q (ltb 64 (size t)) (λ e. many_nodes f d (ltb-true _ _ e))
    (λ e. choose Q (ltb 7 (specials t)) (λ g. many_specials f d (ltb-false _ _ e) (ltb-true _ _ g))
    (λ g. subst (RuleMeaning s) (sym (accepted_answer f.reads))
    (accepted (record {
      legal = f.legal;
      reads = f.reads;
      ordered = f.ordered;
      no_double_lem = d;
      nodes = ltb-false _ _ e;
      special = ltb-false _ _ g;
    }))))

no_double_means : (s : List ℕ) (t : Tree) → WellFormed s t → RuleMeaning s (answer_to s (sized (no_double s (counted (size t) (specials t)))))
no_double_means s t f =
    choose (λ (o : Outcome). RuleMeaning s (answer_to s (sized o))) (ltb (double_at s) (length s)) (λ e. double_star f (first_double s (ltb-true _ _ e)))
    (λ e. size_means s t f (no_double_lem s (ltb-false _ _ e)))

outcome_means : (s : List ℕ) (o : Outcome) → Says s o → RuleMeaning s (answer_to s (sized (no_double s o)))
outcome_means s (Ok z) w =
    subst₂ (λ (i j : ℕ). RuleMeaning s (answer_to s (sized (no_double s (counted i j))))) (sym w.nodes) (sym w.special)
    (no_double_means s w.tree w.formed)
outcome_means s (Err r) w = subst (RuleMeaning s) (sym (refused_values r)) (ill_formed w)

pub answer_means : (s : List ℕ) → RuleMeaning s (rule_answer s)
unfolding rule_answer
answer_means s = outcome_means s (sentence_outcome s) (sentence_says s)

-- ---- and no other answer does
-- what the answer is, once the outcome of the first checks is known
pub answer_after : (s : List ℕ) {o : Outcome} → sentence_outcome s ≡ o → rule_answer s ≡ answer_to s (sized (no_double s o))
unfolding rule_answer
answer_after s e = ap (λ (o : Outcome). answer_to s (sized (no_double s o))) e

of_no_double : {s : List ℕ} {t : Tree} → WellFormed s t → NoDouble s → rule_answer s ≡ answer_to s (size_outcome (size t) (specials t))
of_no_double {s} f d = answer_after s (well_formed_is f) ∙ simp (le-ltb (double_at s) (length s) (none_is s d))

pub answer_is : {s : List ℕ} {a : RuleAnswer} → RuleMeaning s a → a ≡ rule_answer s
answer_is {s} (ill_formed u) =
    let x = ill_formed_is u in
    sym (answer_after s x.outcome ∙ ap (λ (v : Verdict). told v 0 0 (unused 64)) x.verdict)
answer_is {s} (double_star {n = n} f d) =
    let e = double-is d in
    sym (answer_after s (well_formed_is f) ∙ simp (lt-ltb (double_at s) (length s) (omega (arith, double_inside s n d.there))) (ap (refusal 21) e))
answer_is {s} (many_nodes {t = t} f d h) = sym (of_no_double f d ∙ simp (lt-ltb 64 (size t) h))
answer_is {s} (many_specials {t = t} f d h g) = sym (of_no_double f d ∙ simp (le-ltb 64 (size t) h, lt-ltb 7 (specials t) g))
answer_is {s} (accepted {t = t} p) =
    let f : WellFormed s t = record { legal = p.legal; reads = p.reads; ordered = p.ordered } in
    sym (of_no_double f p.no_double_lem ∙ simp (le-ltb 64 (size t) p.nodes, le-ltb 7 (specials t) p.special) (accepted_answer p.reads))

-- ---- what the proofs of the functions cite
-- what the size check accepts
size_passed : (y : Size) {z : Size} → size_outcome y.m y.k ≡ Ok z → (◌≡◌ {A = Outcome} (Ok y) (Ok z)) × (z.m ≤ 64) × (z.k ≤ 7)
size_passed y {z} =
    let Q : Outcome → Type 0 = λ o. o ≡ Ok z → (◌≡◌ {A = Outcome} (Ok y) (Ok z)) × (z.m ≤ 64) × (z.k ≤ 7) in
    choose Q (ltb 64 y.m) (λ e f. absurd (cc))
    (λ e. choose Q (ltb 7 y.k) (λ g f. absurd (cc))
    (λ g f. let q : y ≡ z = cc in let b = subst (λ (u : Size). (u.m ≤ 64) × (u.k ≤ 7)) q (ltb-false _ _ e, ltb-false _ _ g) in (f, b.0, b.1)))

-- what all checks accept
passed_all : (s : List ℕ) (o : Outcome) {z : Size} → sized (no_double s o) ≡ Ok z → (o ≡ Ok z) × (z.m ≤ 64) × (z.k ≤ 7)
passed_all s (Ok y) {z} f =
    let Q : Outcome → Type 0 = λ o. sized o ≡ Ok z → (◌≡◌ {A = Outcome} (Ok y) (Ok z)) × (z.m ≤ 64) × (z.k ≤ 7) in
    choose Q (ltb (double_at s) (length s)) (λ e f. absurd (cc)) (λ e f. size_passed y f) f
passed_all s (Err r) {z} f = absurd (cc)

pub rule_sizes : (s : List ℕ) {z : Size} → rule_outcome s ≡ Ok z → (z.m ≤ 64) × (z.k ≤ 7)
rule_sizes s e = let p = passed_all s (sentence_outcome s) e in (p.1, p.2)

-- a sentence of few nodes can be read
sentence_readable : (s : List ℕ) {z : Size} → sentence_outcome s ≡ Ok z → z.m ≤ 64 → (length s ≤ 255) × Readable s
sentence_readable s e h =
    let w = subst (Says s) e (sentence_says s) in
    let t = tree_is w.formed.reads in
    (w.formed.legal.fits.1, record { sentence = subst (Reads Alt 0 s) (sym t) w.formed.reads; few = omega (arith, w.nodes, ap (λ (x : Tree). size x) t) })

-- so can a text that the first checks and the size check accept, whatever stars it has
pub readable : {s : List ℕ} {y z : Size} → sentence_outcome s ≡ Ok y → size_outcome y.m y.k ≡ Ok z → (length s ≤ 255) × Readable s
readable {s} {y} e f = let p = size_passed y f in sentence_readable s (e ∙ p.0) p.1

-- and one that all checks accept
pub rule_readable : (s : List ℕ) {z : Size} → rule_outcome s ≡ Ok z → (length s ≤ 255) × Readable s
rule_readable s e = let p = passed_all s (sentence_outcome s) e in sentence_readable s p.0 p.1

-- the answer on a text that the first checks accept, and no star of which stands directly after a star
pub past_stars : (s : List ℕ) {y : Size} {o : Outcome} → sentence_outcome s ≡ Ok y → length s ≤ double_at s → size_outcome y.m y.k ≡ o
    → rule_answer s ≡ answer_to s o
past_stars s e h f = answer_after s e ∙ simp (le-ltb (double_at s) (length s) h) (ap (answer_to s) f)

-- the code's answer, by the outcome of the checks
pub answered : (s : List ℕ) {o : Outcome} → rule_outcome s ≡ o → answer_to s o ≡ rule_answer s
unfolding rule_answer
answered s e = sym (ap (answer_to s) e)

pub with_meaning : {s : List ℕ} {a : RuleAnswer} → a ≡ rule_answer s → RuleMeaning s a
with_meaning {s} e = subst (RuleMeaning s) (sym e) (answer_means s)

-- a text that the scan finds to be a sentence, with the tree that is computed
pub complete : {s : List ℕ} {m k : ℕ} → scanned s ≡ counted m k
    → Reads Alt 0 s (tree_of s) × (m ≡ size (tree_of s)) × (k ≡ specials (tree_of s))
complete {s} {m} {k} e =
    let w : SentenceOf s m k = subst (Means s) e (scan_right s) in
    let f = sym (tree_is w.reads) in
    (subst (Reads Alt 0 s) f w.reads, w.nodes ∙ ap (λ (t : Tree). size t) f, w.special ∙ ap (λ (t : Tree). specials t) f)
