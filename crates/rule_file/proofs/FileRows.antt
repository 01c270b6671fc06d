-- What a call that reads a rule file first makes of the reader's answer: a refusal at a line, or lines that have passed; and how large the
-- answer is. Assumes nothing.
use Prim.Native.Nat.{ℕ, zero, suc, ◌-◌, ◌≤◌, ◌<◌}
use native.Mathlib.Omega.{arith}
use mathlib.Core.Path.{◌≡◌, refl, sym, ap, subst, subst₂, ◌∙◌}
use mathlib.Core.Logic.{⊎_elim}
use mathlib.Core.List.Memᴰ
use mathlib.Core.List.{List, [], ◌∷◌, ◌++◌, map, Memᴰ}
use lib.ListN.{length, get_or, length-append, length-map, length-replicate}
use Rattle.verdict.specs.Verdicts as verdict
use Rattle.verdict.proofs.ByReader.{ByReader, below_judge, above_judge}
use Rattle.expression.specs.Tree.{size, specials}
use Rattle.expression.proofs.RecordLaws.{records_length}
use Rattle.rule_line.specs.Lines.{Line, LineNodes, line_nodes, unused_lines, line_at, refusal_number}
use Rattle.rule_line.specs.declared.Refusal.{Refusal}
use Rattle.rule_line.specs.declared.Refusal.TheVariants.{ManyLines, OtherForm, TakenName, EmptyText, LongText, ForeignByte, NoSentence, UnknownName}
use Rattle.rule_line.specs.declared.Refusal.TheVariants.{UnorderedSet, DoubleStar, ManyNodes, ManySpecials}
use Rattle.rule_file.specs.FileAnswer.{FileAnswer, refusal, acceptance, refusal_verdict}
use Rattle.rule_file.specs.FileMeaning.{Passed, start, next, at, FileMeaning, many_lines, empty_file, other_form, name_taken, empty_text}
use Rattle.rule_file.specs.FileMeaning.{long_text, foreign_byte, no_sentence, unknown_name, unordered_set, double_star, many_nodes, many_specials, accepted}
use Rattle.rule_file.proofs.FileAnswered.{passed_few}

-- ---- the file's refusals
pub in_file : (r : Refusal) (line : ℕ) → ByReader (refusal_verdict r line)
in_file ManyLines line = above_judge 19 line (omega arith)
in_file OtherForm line = above_judge 16 line (omega arith)
in_file TakenName line = above_judge 18 line (omega arith)
in_file EmptyText line = below_judge 1 line (omega arith) (omega arith)
in_file LongText line = below_judge 2 line (omega arith) (omega arith)
in_file ForeignByte line = below_judge 3 line (omega arith) (omega arith)
in_file NoSentence line = below_judge 4 line (omega arith) (omega arith)
in_file UnknownName line = above_judge 17 line (omega arith)
in_file UnorderedSet line = above_judge 20 line (omega arith)
in_file DoubleStar line = above_judge 21 line (omega arith)
in_file ManyNodes line = below_judge 5 line (omega arith) (omega arith)
in_file ManySpecials line = below_judge 6 line (omega arith) (omega arith)

-- which of the two an answer is
pub data Row (file : List ℕ) (a : FileAnswer) : Type 0 where
  refused_by : (r : Refusal) (line : ℕ) → a ≡ refusal (refusal_number r) line → Row file a
  passed_as : (ls : List Line) → Passed file ls [] → 1 ≤ length ls → a ≡ acceptance ls → Row file a

pub row : {file : List ℕ} {a : FileAnswer} → FileMeaning file a → Row file a
row (many_lines {ls = ls} p e h) = refused_by ManyLines (at ls) refl
row (empty_file e) = refused_by OtherForm 1 refl
row (other_form {ls = ls} p l h b) = refused_by OtherForm (at ls) refl
row (name_taken {ls = ls} p l b h) = refused_by TakenName (at ls) refl
row (empty_text {ls = ls} p a e) = refused_by EmptyText (at ls) refl
row (long_text {ls = ls} p a h) = refused_by LongText (at ls) refl
row (foreign_byte {ls = ls} p a f h e) = refused_by ForeignByte (at ls) refl
row (no_sentence {ls = ls} p a l h) = refused_by NoSentence (at ls) refl
row (unknown_name {ls = ls} p a l f u h) = refused_by UnknownName (at ls) refl
row (unordered_set {ls = ls} p a r x) = refused_by UnorderedSet (at ls) refl
row (double_star {ls = ls} i p a r o x) = refused_by DoubleStar (at ls) refl
row (many_nodes {ls = ls} p a r o d h) = refused_by ManyNodes (at ls) refl
row (many_specials {ls = ls} p a r o d h g) = refused_by ManySpecials (at ls) refl
row (accepted {ls = ls} p h) = passed_as ls p h refl

pub refused_file : {file : List ℕ} {n line : ℕ} → FileMeaning file (refusal n line) → ByReader (verdict.refused n line)
refused_file {file} {n} {line} m = go (row m)
  where
    go : Row file (refusal n line) → ByReader (verdict.refused n line)
    go (refused_by r l q) =
        subst₂ (λ (x y : ℕ). ByReader (verdict.refused x y)) (sym (ap (λ (a : FileAnswer). a.number) q)) (sym (ap (λ (a : FileAnswer). a.place) q))
        (in_file r l)
    go (passed_as ls p h q) = absurd (let e = ap (λ (a : FileAnswer). a.r) q in omega arith)

-- ---- each line
-- its numbers are in bounds
pub line_fits : {file : List ℕ} {ls : List Line} {text : List ℕ} → Passed file ls text → (l : Line) → Memᴰ l ls
    → (size l.tree ≤ 64) × (specials l.tree ≤ 7)
line_fits start l h = absurd (Memᴰ.not-nil h)
line_fits (next {ls = ls} {n = n} {u = u} {t = t} p a r o d m k) l h =
    ⊎_elim (λ x. line_fits p l x)
    (λ x. ⊎_elim
    (λ (e : l ≡ record { name = n; text = u; tree = t }). subst (λ (z : Line). (size z.tree ≤ 64) × (specials z.tree ≤ 7)) (sym e) (m, k))
    (λ y. absurd (Memᴰ.not-nil y)) (Memᴰ.cases_cons x))
    (Memᴰ.append_cases ls h)

-- an entry of a list of answers is the answer on a member
pub record Entry {A B : Type 0} (f : A → B) (xs : List A) (y : B) : Type 0 where
  pub of : A
  pub member : Memᴰ of xs
  pub same : y ≡ f of

pub entry : {A B : Type 0} (f : A → B) (xs : List A) (rest : List B) (i : ℕ) (d : B) → i < length xs → Entry f xs (get_or (map f xs ++ rest) i d)
entry f [] rest i d h = absurd (omega arith)
entry f (x ∷ xs) rest zero d h = record { of = x; member = Memᴰ.head refl; same = refl }
entry f (x ∷ xs) rest (suc i) d h =
    let t = entry f xs rest i d (omega arith) in
    record { of = t.of; member = Memᴰ.tail t.member; same = t.same }

-- ---- how large the answer is
pub few_lines : {file : List ℕ} {a : FileAnswer} → FileMeaning file a → a.r ≤ 16
few_lines {file} {a} m = go (row m)
  where
    go : Row file a → a.r ≤ 16
    go (refused_by r line q) = let e = ap (λ (x : FileAnswer). x.r) q in omega arith
    go (passed_as ls p h q) = let e = ap (λ (x : FileAnswer). x.r) q in omega (arith, passed_few p)

pub lines_many : {file : List ℕ} {a : FileAnswer} → FileMeaning file a → length a.lines ≡ 16
lines_many {file} {a} m = go (row m)
  where
    go : Row file a → length a.lines ≡ 16
    go (refused_by r line q) = ap (λ (x : FileAnswer). length x.lines) q
    go (passed_as ls p h q) =
        let e = ap (λ (x : FileAnswer). length x.lines) q in
        let n : length (acceptance ls).lines ≡ 16 = simp (length-append, length-map, length-replicate) (omega (arith, passed_few p)) in
        e ∙ n

-- each of the file's lines has at most 64 nodes, and 64 records
pub fit_lines : {file : List ℕ} {a : FileAnswer} → FileMeaning file a → (i : ℕ) → i < a.r
    → ((line_at a.lines i).m ≤ 64) × (length (line_at a.lines i).nodes ≡ 64)
fit_lines {file} {a} m i l = go (row m)
  where
    go : Row file a → ((line_at a.lines i).m ≤ 64) × (length (line_at a.lines i).nodes ≡ 64)
    go (refused_by r line q) = absurd (let e = ap (λ (x : FileAnswer). x.r) q in omega arith)
    go (passed_as ls p h q) =
        let e = ap (λ (x : FileAnswer). x.r) q in
        let x = entry (λ (k : Line). line_nodes k.tree) ls (unused_lines (16 - length ls)) i (record { m = 0; k = 0; nodes = [] }) (omega arith) in
        let t = x.of.tree in
        let b = (line_fits p x.of x.member).0 in
        let s : line_at a.lines i ≡ line_nodes t = ap (λ (z : FileAnswer). line_at z.lines i) q ∙ x.same in
        let n : length (line_nodes t).nodes ≡ 64 = simp (length-append, length-replicate) (omega (arith, records_length t, b)) in
        subst (λ (y : LineNodes). (y.m ≤ 64) × (length y.nodes ≡ 64)) (sym s) (b, n)
