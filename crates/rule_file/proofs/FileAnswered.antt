-- `file_answer` is the one answer that says what `FileMeaning` asks. Assumes nothing.
use Prim.Native.Nat.{ℕ, zero, suc, ◌+◌, ◌-◌, ◌≤◌}
use native.Mathlib.Omega.{arith}
use mathlib.Core.Path.{◌≡◌, refl, sym, ap, subst, ◌∙◌}
use mathlib.Core.Bool.{true, false, cond}
use mathlib.Core.List.{List, [], ◌∷◌, ◌++◌}
use lib.Dec.{eqb, ltb}
use lib.ListN.{length, take, drop, length-append}
use borrow.Author.Tests.{eqb-true, eqb-false, ltb-true, ltb-false, eq-eqb, ne_eqb, lt-ltb, le-ltb}
use Rattle.event.specs.Leading.{leading}
use Rattle.event.proofs.LeadingLaws.{leading_found}
use Rattle.event.proofs.Tests.{choose, T_of}
use Rattle.expression.specs.Tree.{Tree, size, specials}
use Rattle.expression.specs.Scan.{is_sentence}
use Rattle.expression.specs.TreeOf.{tree_of}
use Rattle.expression.specs.Unordered.{Ordered}
use Rattle.expression.specs.OrderComputed.{unordered_at}
use Rattle.expression.specs.Stars.{NoDouble}
use Rattle.expression.specs.StarsComputed.{double_at}
use Rattle.expression.proofs.OneReading.{sentence_reads}
use Rattle.expression.proofs.UnorderedLaws.{unordered_first, ordered_all}
use Rattle.expression.proofs.DoubleLaws.{first_double, no_double_lem}
use Rattle.rule.specs.RuleMeaning.{FitsLength}
use Rattle.replacement.specs.Pieces.{pieces, shape}
use Rattle.replacement.proofs.PieceLaws.{replaced_by_pieces}
use Rattle.replacement.proofs.ShapeLaws.{shape_tells, is_sentence_lem, sentence_is, shape_plain, formed_shape, shape_formed}
use Rattle.rule_line.specs.Lines.{Line}
use Rattle.rule_line.specs.LineMeaning.{Begins, StandsFor, HasName, AtRule, is_written, LegalText, ReadsAs}
use Rattle.rule_line.specs.LineComputed.{has, text_of, knows, is_line, name_of, body_of, rule_of, Judged, bad, good, sized, ordered, no_double, replaced_by, judged}
use Rattle.rule_line.specs.Keeping.{Sound}
use Rattle.rule_line.proofs.LineNames.{unlike, has_name, has_stands, stands_has, lacks, stands_sentence, knows_all, sound_none, sound_more}
use Rattle.rule_line.proofs.LineLaws.{line_found, line_split}
use Rattle.rule_line.proofs.UsesLaws.{Unknown, unknown_used}
use Rattle.rule_line.proofs.JudgedLaws.{legal, judged_empty, judged_long, judged_foreign, judged_broken, judged_unknown, judged_unordered, judged_double, judged_reads, sized_good}
use Rattle.rule_file.specs.FileAnswer.{FileAnswer, refusal, acceptance}
use Rattle.rule_file.specs.FileMeaning.{Passed, start, next, at, FileMeaning}
use Rattle.rule_file.specs.FileMeaning.{many_lines, empty_file, other_form, name_taken, empty_text, long_text, foreign_byte, no_sentence}
use Rattle.rule_file.specs.FileMeaning.{unknown_name, unordered_set, double_star, many_nodes, many_specials, accepted}
use Rattle.rule_file.specs.FileComputed.{onward, FileRead, refused, passed, file_from, file_read, answered, file_answer}

pub passed_sound : {file : List ℕ} {ls : List Line} {text : List ℕ} → Passed file ls text → Sound ls
passed_sound start = sound_none
passed_sound (next {n = n} {u = u} {t = t} p a r o d h g) =
    sound_more (record { name = n; text = u; tree = t }) (passed_sound p) a.free r.reads

-- ---- the answer means what it says: the rule of a line
abbrev Says : List ℕ → List Line → List ℕ → Judged → Type 0
Says file ls s (bad k) = FileMeaning file (refusal k (at ls))
Says file ls s (good u t) = ReadsAs ls s u t × Ordered s × NoDouble s × (size t ≤ 64) × (specials t ≤ 7)

module _ (file : List ℕ) (ls : List Line) (text n s more : List ℕ) (p : Passed file ls text) (a : AtRule ls text n s more) where
  sized_says : (u : List ℕ) (t : Tree) → ReadsAs ls s u t → Ordered s → NoDouble s → Says file ls s (sized u t)
  sized_says u t r o d =
      let Q = Says file ls s in
      choose Q (ltb 64 (size t)) (λ e. many_nodes p a r o d (ltb-true _ _ e))
      (λ e. choose Q (ltb 7 (specials t)) (λ f. many_specials p a r o d (ltb-false _ _ e) (ltb-true _ _ f))
      (λ f. (r, o, d, ltb-false _ _ e, ltb-false _ _ f)))

  no_double_says : (u : List ℕ) (t : Tree) → ReadsAs ls s u t → Ordered s → Says file ls s (no_double s (sized u t))
  no_double_says u t r o =
      choose (Says file ls s) (ltb (double_at s) (length s))
      (λ e. double_star (double_at s) p a r o (first_double s (ltb-true _ _ e)).there)
      (λ e. sized_says u t r o (no_double_lem s (ltb-false _ _ e)))

  ordered_says : (u : List ℕ) (t : Tree) → ReadsAs ls s u t → Says file ls s (ordered s (no_double s (sized u t)))
  ordered_says u t r =
      choose (Says file ls s) (ltb (unordered_at s) (length s)) (λ e. unordered_set p a r (unordered_first s (ltb-true _ _ e)).there)
      (λ e. no_double_says u t r (ordered_all s (ltb-false _ _ e)))

  reads_as : LegalText s → is_sentence (shape s) ≡ true → knows ls (pieces s) ≡ true → ReadsAs ls s (replaced_by ls s) (tree_of (replaced_by ls s))
  reads_as l e k =
      let d = passed_sound p in
      let r = replaced_by_pieces (StandsFor ls) (text_of ls) s (shape_plain s (sentence_is (shape s) e))
      (knows_all ls (λ (n : List ℕ). StandsFor ls n (text_of ls n)) (has_stands ls) (pieces s) k) in
      record {
        legal = l;
        replaced = r;
        reads = sentence_reads (replaced_by ls s) (T_of (is_sentence (replaced_by ls s)) (shape_tells (stands_sentence d) r ∙ e));
      }

  unknown_says : LegalText s → is_sentence (shape s) ≡ true → Unknown ls s → FileMeaning file (refusal 17 (at ls))
  unknown_says l e k = unknown_name p a l (shape_formed s (sentence_is (shape s) e)) k.uses (λ h. unlike (has_name ls k.name h) k.lacking)

  fits : eqb (length s) 0 ≡ false → ltb 255 (length s) ≡ false → FitsLength s
  fits e l =
      let n = eqb-false (length s) 0 e in
      let h = ltb-false 255 (length s) l in
      (omega arith, omega arith)

  judged_says : Says file ls s (judged ls s)
  unfolding judged
  judged_says =
      let Q = Says file ls s in
      choose Q (eqb (length s) 0) (λ e. empty_text p a (eqb-true _ _ e))
      (λ e. choose Q (ltb 255 (length s)) (λ l. long_text p a (ltb-true _ _ l))
      (λ l. choose Q (ltb (leading is_written s) (length s))
      (λ f. let h = ltb-true _ _ f in foreign_byte p a (fits e l) h ((leading_found is_written s).there h))
      (λ f. let g = legal s (fits e l) (ltb-false _ _ f) in
      choose Q (is_sentence (shape s))
      (λ y. choose Q (knows ls (pieces s)) (λ k. ordered_says (replaced_by ls s) (tree_of (replaced_by ls s)) (reads_as g y k))
      (λ k. unknown_says g y (unknown_used ls s k)))
      (λ y. no_sentence p a g (λ z. unlike (is_sentence_lem (formed_shape z)) y)))))

-- ---- the lines
none_passed : {file : List ℕ} {ls : List Line} {text : List ℕ} → Passed file ls text → length ls ≡ 0 → text ≡ file
none_passed start e = refl
none_passed (next {ls = ls} {n = n} {u = u} {t = t} p a r o d h g) e =
    absurd (omega (arith, length-append ls (record { name = n; text = u; tree = t } ∷ [])))

empty_is : (s : List ℕ) → length s ≡ 0 → s ≡ []
empty_is [] e = refl
empty_is (b ∷ s) e = absurd (omega arith)

module _ (file : List ℕ) where
  ended : (ls : List Line) (text : List ℕ) → Passed file ls text → eqb (length text) 0 ≡ true → 1 ≤ length ls → FileMeaning file (acceptance ls)
  ended ls text p e h = accepted (subst (λ (x : List ℕ). Passed file ls x) (empty_is text (eqb-true _ _ e)) p) h

  go_on : (f : ℕ) → ((ls : List Line) (text : List ℕ) → f + length ls ≡ 16 → Passed file ls text → FileMeaning file (answered (file_from f ls text)))
      → (ls : List Line) (text n s more : List ℕ) → suc f + length ls ≡ 16 → Passed file ls text → AtRule ls text n s more → (j : Judged)
      → Says file ls s j → FileMeaning file (answered (onward (file_from f) ls n more j))
  go_on f ih ls text n s more e p a (bad k) x = x
  go_on f ih ls text n s more e p a (good u t) x =
      let l : Line = record { name = n; text = u; tree = t } in
      ih (ls ++ l ∷ []) more (omega (arith, length-append ls (l ∷ []))) (next p a x.0 x.1 x.2 x.3 x.4)

  file_means : (f : ℕ) (ls : List Line) (text : List ℕ) → f + length ls ≡ 16 → Passed file ls text → FileMeaning file (answered (file_from f ls text))
  unfolding file_from
  file_means zero ls text e p =
      choose (λ (r : FileRead). FileMeaning file (answered r)) (eqb (length text) 0) (λ z. ended ls text p z (omega arith))
      (λ z. let n = eqb-false (length text) 0 z in many_lines p (omega arith) (omega arith))
  file_means (suc f) ls text e p =
      let Q : FileRead → Type 0 = λ r. FileMeaning file (answered r) in
      choose Q (eqb (length text) 0)
      (λ z. choose Q (eqb (length ls) 0)
      (λ y. empty_file (ap length (sym (none_passed p (eqb-true _ _ y))) ∙ eqb-true _ _ z))
      (λ y. let n = eqb-false (length ls) 0 y in ended ls text p z (omega arith)))
      (λ z. choose Q (is_line text)
      (λ i. choose Q (has ls (take (name_of text) (drop 2 text)))
      (λ h. name_taken p (omega arith) (line_found text i) (stands_has (has_stands ls _ h)))
      (λ h. let a : AtRule ls text _ _ _ = record { few = omega arith; begins = line_found text i; free = λ x. unlike (has_name ls _ x) h } in
      go_on f (file_means f) ls text _ _ _ e p a (judged ls _) (judged_says file ls text _ _ _ p a)))
      (λ i. let n = eqb-false (length text) 0 z in
      other_form p (omega arith) (omega arith) (λ n s more b. unlike (line_split b).line i)))

pub answer_means : (file : List ℕ) → FileMeaning file (file_answer file)
answer_means file = file_means file 16 [] file refl start

-- ---- and no other answer does
module _ (f : ℕ) (ls : List Line) (text : List ℕ) where
  begun : 1 ≤ length text → {x : FileRead} → (cond (is_line text) (cond (has ls (take (name_of text) (drop 2 text))) (refused 18 (at ls))
      (onward (file_from f) ls (take (name_of text) (drop 2 text)) (drop (suc (rule_of text)) (body_of text)) (judged ls (take (rule_of text) (body_of text)))))
      (refused 16 (at ls))) ≡ x → file_from (suc f) ls text ≡ x
  unfolding file_from
  begun h e =
      let n : length text ≡ 0 → ⊥ = λ e. omega arith in
      rw (ne_eqb (length text) 0 n) e

  not_empty : {n s more : List ℕ} → Begins text n s more → 1 ≤ length text
  not_empty b = omega (arith, ap length b.whole)

  pub at_rule : {n s more : List ℕ} → AtRule ls text n s more → (j : Judged) → judged ls s ≡ j → file_from (suc f) ls text ≡ onward (file_from f) ls n more j
  at_rule {n} {s} {more} a j e =
      let b = a.begins in
      let c = line_split b in
      begun (not_empty b) (rw (c.line, c.name, c.rule, c.rest, lacks ls n a.free, e))

  pub at_taken : {n s more : List ℕ} → Begins text n s more → HasName ls n → file_from (suc f) ls text ≡ refused 18 (at ls)
  at_taken {n} b h =
      let c = line_split b in
      begun (not_empty b) (rw (c.line, c.name, has_name ls n h))

  pub at_other : 1 ≤ length text → ((n s more : List ℕ) → Begins text n s more → ⊥) → file_from (suc f) ls text ≡ refused 16 (at ls)
  at_other l h = begun l (choose (λ (x : FileRead). x ≡ refused 16 (at ls)) (is_line text) (λ e. absurd (h _ _ _ (line_found text e))) (λ e. refl))

-- what the answer is from the lines that have passed
passed_from : {file : List ℕ} {ls : List Line} {text : List ℕ} → Passed file ls text → (f : ℕ) → f + length ls ≡ 16 → file_from f ls text ≡ file_read file
passed_from {file} start f e = let z : f ≡ 16 = omega arith in ap (λ (n : ℕ). file_from n [] file) z
passed_from (next {ls = ls} {text = text} {n = n} {s = s} {u = u} {t = t} p a r o d h g) f e =
    let l : Line = record { name = n; text = u; tree = t } in
    sym (at_rule f ls text a (good u t) (judged_reads ls s (passed_sound p) r o d ∙ sized_good u t h g))
    ∙ passed_from p (suc f) (omega (arith, length-append ls (l ∷ [])))

rule_refused : {file : List ℕ} {ls : List Line} {text n s more : List ℕ} → Passed file ls text → AtRule ls text n s more → (k : ℕ) → judged ls s ≡ bad k
    → refusal k (at ls) ≡ file_answer file
rule_refused {ls = ls} {text = text} p a k e =
    let h = a.few in
    ap answered (sym (at_rule (15 - length ls) ls text a (bad k) e) ∙ passed_from p (suc (15 - length ls)) (omega arith))

pub finished : (f : ℕ) (ls : List Line) → 1 ≤ length ls → file_from f ls [] ≡ passed ls
unfolding file_from
finished zero ls h = refl
finished (suc f) ls h = let n : length ls ≡ 0 → ⊥ = λ e. omega arith in rw (ne_eqb (length ls) 0 n)

pub passed_few : {file : List ℕ} {ls : List Line} {text : List ℕ} → Passed file ls text → length ls ≤ 16
passed_few start = omega arith
passed_few (next {ls = ls} {n = n} {u = u} {t = t} p a r o d h g) =
    omega (arith, a.few, length-append ls (record { name = n; text = u; tree = t } ∷ []))

-- the lines that a file passes with are those that are computed
pub passed_is : {file : List ℕ} {ls : List Line} → Passed file ls [] → 1 ≤ length ls → file_read file ≡ passed ls
passed_is {ls = ls} p h =
    let w = passed_few p in
    sym (sym (finished (16 - length ls) ls h) ∙ passed_from p (16 - length ls) (omega arith))

pub answer_is : {file : List ℕ} {a : FileAnswer} → FileMeaning file a → a ≡ file_answer file
unfolding file_from
answer_is (many_lines {ls = ls} {text = text} p e h) =
    let n : length text ≡ 0 → ⊥ = λ e. omega arith in
    ap answered (rw (ne_eqb (length text) 0 n) at (passed_from p 0 (omega arith)))
answer_is {file} (empty_file e) = rw (eq-eqb (length file) 0 e)
answer_is (other_form {ls = ls} {text = text} p l h b) =
    ap answered (sym (at_other (15 - length ls) ls text h b) ∙ passed_from p (suc (15 - length ls)) (omega arith))
answer_is (name_taken {ls = ls} {text = text} p l b h) =
    ap answered (sym (at_taken (15 - length ls) ls text b h) ∙ passed_from p (suc (15 - length ls)) (omega arith))
answer_is (empty_text {ls = ls} {s = s} p a e) = rule_refused p a 1 (judged_empty ls s e)
answer_is (long_text {ls = ls} {s = s} p a h) = rule_refused p a 2 (judged_long ls s h)
answer_is (foreign_byte {ls = ls} {s = s} p a f h e) = rule_refused p a 3 (judged_foreign ls s f h e)
answer_is (no_sentence {ls = ls} {s = s} p a l h) = rule_refused p a 4 (judged_broken ls s l h)
answer_is (unknown_name {ls = ls} {s = s} p a l f u h) = rule_refused p a 17 (judged_unknown ls s l f u h)
answer_is (unordered_set {ls = ls} {s = s} p a r x) = rule_refused p a 20 (judged_unordered ls s (passed_sound p) r x)
answer_is (double_star {ls = ls} {s = s} i p a r o x) = rule_refused p a 21 (judged_double ls s i (passed_sound p) r o x)
answer_is (many_nodes {ls = ls} {s = s} {t = t} p a r o d h) =
    rule_refused p a 5 (judged_reads ls s (passed_sound p) r o d ∙ rw (lt-ltb 64 (size t) h))
answer_is (many_specials {ls = ls} {s = s} {t = t} p a r o d h g) =
    rule_refused p a 6 (judged_reads ls s (passed_sound p) r o d ∙ rw (le-ltb 64 (size t) h, lt-ltb 7 (specials t) g))
answer_is (accepted p h) = ap answered (sym (passed_is p h))
