-- A text has a rule's line in front exactly if it is a job, and is parted in one way. Assumes nothing.
use Prim.Native.Nat.{ℕ, suc, ◌+◌, ◌<◌}
use native.Mathlib.Omega.{arith}
use mathlib.Core.Path.{◌≡◌, refl, sym, ap, ap₂, ◌∙◌}
use mathlib.Core.Bool.{Bool, true, false, not, ◌&&◌, true≢false}
use mathlib.Core.List.{List, ◌∷◌, ◌++◌}
use lib.Dec.{eqb, ltb}
use lib.ListN.{length, get_or, take, drop, length-drop, length-append, get_or-append}
use lib.Seq.{length-take-le, get_or-take, get_or-append-add, take_at, drop-append-add, split_at}
use borrow.Author.Tests.{eq-eqb, ne_eqb, lt-ltb, ltb-true, eqb-true}
use Rattle.event.specs.Leading.{leading}
use Rattle.event.proofs.LeadingLaws.{leading_found, leading_is}
use Rattle.event.proofs.Tails.{rest_at}
use Rattle.event.proofs.Tests.{T_of, of_T, and_split}
use Rattle.event.specs.Text.{not_newline}
use Rattle.job.specs.JobComputed.{rule_length, is_job, rule_of, day_of}
use Rattle.job.specs.JobMeaning.{Parted}

newline : (b : ℕ) → not_newline b ≡ false → b ≡ 10
newline b e = eqb-true b 10 (undo (eqb b 10) e)
  where
    undo : (x : Bool) → not x ≡ false → x ≡ true
    undo true z = refl
    undo false z = absurd (true≢false z)

no_newline : (b : ℕ) → not_newline b ≡ true → b ≡ 10 → ⊥
no_newline b e f = true≢false (sym e ∙ ap not (eq-eqb b 10 f))

-- the three tests of a job
abbrev tag : List ℕ → Bool
tag s = eqb (get_or s 0 0) 82

abbrev tab : List ℕ → Bool
tab s = eqb (get_or s 1 0) 9

abbrev ended : List ℕ → Bool
ended s = ltb (rule_length s) (length (drop 2 s))

module _ (s : List ℕ) (j : is_job s ≡ true) where
  abbrev rest : List ℕ
  rest = drop 2 s

  abbrev n : ℕ
  n = rule_length s

  shape : (get_or s 0 0 ≡ 82) × (get_or s 1 0 ≡ 9) × (n < length rest)
  shape =
      let h = and_split (tag s && tab s) (ended s) (T_of (is_job s) j) in
      let g = and_split (tag s) (tab s) h.0 in (
        eqb-true (get_or s 0 0) 82 (of_T (tag s) g.0),
        eqb-true (get_or s 1 0) 9 (of_T (tab s) g.1),
        ltb-true n (length rest) (of_T (ended s) h.1),
      )

  -- the text behind the two first bytes
  behind : rest ≡ rule_of s ++ 10 ∷ day_of s
  behind =
      let h = shape.2 in
      let e = newline (get_or rest n 0) ((leading_found not_newline rest).there h) in
      split_at rest n 0 h ∙ ap (λ (b : ℕ). take n rest ++ b ∷ drop (suc n) rest) e

  pub parted_job : Parted s (rule_of s) (day_of s)
  parted_job = record {
    text =
        let h = shape in
        let l = length-drop 2 s in
        let e = rest_at s 1 (omega arith) ∙ ap₂ (λ (b : ℕ) (t : List ℕ). b ∷ t) h.1 behind in
        rest_at s 0 (omega arith) ∙ ap₂ (λ (b : ℕ) (t : List ℕ). b ∷ t) h.0 e;
    line = λ i h e.
        let l = length-take-le n rest (leading_found not_newline rest).within in
        let k : i < n = omega arith in
        no_newline (get_or rest i 0) ((leading_found not_newline rest).before i k) (sym (get_or-take n rest i 0 k) ∙ e);
  }

-- a text that is parted is a job, and is parted as computed
module _ {s rule file : List ℕ} (p : Parted s rule file) where
  abbrev body : List ℕ
  body = rule ++ 10 ∷ file

  front : leading not_newline body ≡ length rule
  front =
      leading_is not_newline body (length rule) (record {
        within = omega (arith, length-append rule (10 ∷ file));
        before = λ i h.
            ap not_newline (get_or-append rule (10 ∷ file) 0 i h) ∙ ap not (ne_eqb (get_or rule i 0) 10 (p.line i h));
        there = λ h.
            let e : length rule ≡ length rule + 0 = omega arith in
            ap (λ (k : ℕ). not_newline (get_or body k 0)) e ∙ ap not_newline (get_or-append-add rule (10 ∷ file) 0 0);
      })

  pub parted_is_job : is_job s ≡ true
  parted_is_job =
      let l = length-append rule (10 ∷ file) in
      rw p.text (simp (lt-ltb (leading not_newline body) (length body) (omega (arith, front))))

  pub parted_rule : rule_of s ≡ rule
  parted_rule = rw p.text (ap (λ (k : ℕ). take k body) front ∙ take_at rule (10 ∷ file) (length rule) refl)

  pub parted_day : day_of s ≡ file
  parted_day =
      let e : suc (length rule) ≡ length rule + 1 = omega arith in
      rw p.text (ap (λ (k : ℕ). drop (suc k) body) front ∙ ap (λ (k : ℕ). drop k body) e ∙ drop-append-add rule (10 ∷ file) 1)
