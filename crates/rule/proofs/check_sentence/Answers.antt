-- `check_sentence` is `sentence_outcome`. Assumes nothing.
use Prim.Native.Nat.{ℕ}
use native.Mathlib.Omega.{arith}
use mathlib.Core.Path.{sym, ap, ◌∙◌}
use mathlib.Core.List.{List}
use lib.ListN.{length}
use Rattle.std.proofs.Common.{Bool, false, eqb, Option, None, Ok, Err, ◌≡◌, ◌≤◌}
use Rattle.std.specs.Result.{MatchResult}
use borrow.Author.Tests.{eqb-true, eqb-false, lt-ltb, le-ltb}
use Rattle.expression.specs.OrderComputed.{unordered_at}
use Rattle.expression.specs.Scan.{ScanResult, scanned}
use Rattle.expression.specs.declared.Size.{Size}
use Rattle.event.specs.Leading.{first_other}
use Rattle.event.proofs.LeadingLaws.{first_other_is, place_is, no_place}
use Rattle.std.proofs.lemmas.Result.{err_from_is_err_and}
use Rattle.rule.specs.RuleAnswer.{is_rule_byte}
use Rattle.rule.specs.RuleComputed.{Outcome, foreign_at, after_scan, sentence_outcome}
use Rattle.rule.specs.declared.Refusal.{Refusal}
use Rattle.rule.specs.declared.Refusal.TheVariants.{ForeignByte, NoSentence, UnorderedSet}
use Rattle.rule.proofs.Answered.{at_empty, at_long, at_foreign, past_foreign}
use Rattle.rule.proofs.check_sentence.Goals as goal

-- the offset of a byte outside the list, and that there is none
none_foreign : (s : List ℕ) {r : Option ℕ} → r ≡ first_other is_rule_byte s → r ≡ None → length s ≤ foreign_at s
none_foreign s e n = no_place s (foreign_at s) (sym n ∙ e ∙ first_other_is is_rule_byte s)

-- what the scan has found, by the answer that hands it on
Told : ScanResult → Outcome → Type 0
Told x r = MatchResult x (λ z. r ≡ Ok z) (λ n. r ≡ Err (NoSentence n))

told_ok : (x : ScanResult) {r : Outcome} {z : Size} → Told x r → r ≡ Ok z → x ≡ Ok z
unfolding Told
told_ok (Ok y) {r} {z} h e = let q : y ≡ z = cc in ap (λ (v : Size). Ok v) q
told_ok (Err n) h e = absurd (cc)

told_err : (s : List ℕ) (x : ScanResult) {r : Outcome} {why : Refusal} → Told x r → r ≡ Err why → after_scan s x ≡ Err why
unfolding Told
told_err s (Ok y) h e = absurd (cc)
told_err s (Err n) h e = sym h ∙ e

pub returns-then-is_empty : goal.returns-then-is_empty
returns-then-is_empty c = sym (at_empty _ (eqb-true _ _ (sym c.is_empty.ensures ∙ c.if-is_empty.true)))

pub returns-then-text-gt-MOST_BYTES : goal.returns-then-text-gt-MOST_BYTES
returns-then-text-gt-MOST_BYTES c = sym (at_long _ c.if-text-gt-MOST_BYTES.true)

pub returns-in-Some : goal.returns-in-Some
returns-in-Some c =
    let s = c.args.text.now in
    let n = eqb-false _ _ (sym c.is_empty.ensures ∙ c.if-is_empty.false) in
    let p = place_is s (foreign_at s) c.in-Some.place (sym c.in-Some.is ∙ c.find_foreign.ensures ∙ first_other_is is_rule_byte s) in
    ap (λ (i : ℕ). Err (ForeignByte i)) (sym p.0) ∙ sym (at_foreign s (omega arith, omega arith) (omega (arith, p)))

-- past the byte that is in no list
past_foreign_at : (s : List ℕ) {e : Bool} {f : Option ℕ} → e ≡ eqb (length s) 0 → e ≡ false → length s ≤ 255
    → f ≡ first_other is_rule_byte s → f ≡ None → sentence_outcome s ≡ after_scan s (scanned s)
past_foreign_at s x y l f n =
    let z = eqb-false (length s) 0 (sym x ∙ y) in past_foreign s (omega arith, l) (none_foreign s f n)

pub returns-in_err-size : goal.returns-in_err-size
unfolding Told
returns-in_err-size c =
    let s = c.args.text.now in
    let p = err_from_is_err_and c.from_residual.result c.from_residual.ensures.1 in
    let h = past_foreign_at s c.is_empty.ensures c.if-is_empty.false c.if-text-gt-MOST_BYTES.false c.find_foreign.ensures c.in_default.is in
    rw (p.1, p.2) (sym (h ∙ told_err s (scanned s) c.scan_sentence.ensures c.in_err-size.was))

pub returns-in-Some-find_unordered : goal.returns-in-Some-find_unordered
unfolding Told
returns-in-Some-find_unordered c =
    let s = c.args.text.now in
    let h = past_foreign_at s c.is_empty.ensures c.if-is_empty.false c.if-text-gt-MOST_BYTES.false c.find_foreign.ensures c.in_default.is in
    let p = place_is s (unordered_at s) c.in-Some-find_unordered.place (sym c.in-Some-find_unordered.is ∙ c.find_unordered.ensures) in
    sym (h ∙ ap (after_scan s) (told_ok (scanned s) c.scan_sentence.ensures c.in_ok-size.was)
    ∙ simp (lt-ltb (unordered_at s) (length s) (omega (arith, p))) (ap (λ (i : ℕ). Err (UnorderedSet i)) p.0))

pub returns : goal.returns
unfolding Told
returns c =
    let s = c.args.text.now in
    let h = past_foreign_at s c.is_empty.ensures c.if-is_empty.false c.if-text-gt-MOST_BYTES.false c.find_foreign.ensures c.in_default.is in
    let l = no_place s (unordered_at s) (sym c.in_default-find_unordered.is ∙ c.find_unordered.ensures) in
    sym (h ∙ ap (after_scan s) (told_ok (scanned s) c.scan_sentence.ensures c.in_ok-size.was) ∙ simp (le-ltb (unordered_at s) (length s) l))
