-- What follows of every answer to a job: no number of the judge's own, and how long a text can be. Assumes nothing.
use Prim.Native.Nat.{ℕ, zero, suc, ◌+◌, ◌*◌, ◌≤◌}
use native.Mathlib.Omega.{arith}
use native.Mathlib.Nat.{mul-le-mul}
use mathlib.Core.Path.{◌≡◌, refl, sym, ap, subst, ◌∙◌}
use mathlib.Core.Bool.{Bool, true, false, cond}
use mathlib.Core.List.{List, [], ◌∷◌, Memᴰ}
use lib.Dec.{eqb}
use lib.ListN.{length, take, drop, length-append}
use lib.Seq.{slice, take_at}
use borrow.Author.Tests.{eq-eqb, ne_eqb}
use Rattle.decimal.specs.Decimal.{decimal}
use Rattle.decimal.proofs.NumeralLaws.{decimal_few, decimal_three, decimal_length}
use Rattle.event.specs.Event.{Word}
use Rattle.expression.specs.Tree.{Tree, size, specials}
use Rattle.expression.specs.Accept.{accepts}
use Rattle.rule.proofs.Rows as rule-rows
use Rattle.day.proofs.Rows as day-rows
use Rattle.work.specs.Count.{full_count}
use Rattle.work.specs.Spans.{Spans}
use Rattle.work.specs.SpansComputed.{list_if, from_start, from_starts, obeying}
use Rattle.work.specs.TableComputed.{found}
use Rattle.work.proofs.Found.{found_listed}
use Rattle.work.proofs.Listed.{listed}
use Rattle.listing.specs.Lines.{fields, line, span_line, span_lines, head_line, refusal_line}
use Rattle.std.specs.Prelude.{Ok, Err}
use Rattle.job.specs.declared.Accepted.{Accepted}
use Rattle.job.specs.declared.Refusal.{Refusal}
use Rattle.job.proofs.Steps.{refusal_number}
use Rattle.job.specs.JobAnswer.{JobAnswer, job_values, row_verdict}
use Rattle.job.specs.JobComputed.{refused, limit_of, job_answer, job_result, job_text}
use Rattle.rule.specs.RuleMeaning.{Passed}
use Rattle.job.specs.JobMeaning.{BothPassed, JobRefused, no_rule_line, rule_refused, day_refused, JobMeaning, row_refused, short_buffer}
use Rattle.job.specs.JobMeaning.{accepted, Writes, writes_list, writes_refusal}
use Rattle.job.proofs.Answered.{answer_means, judged_short, at_refusal, at_text}
use Rattle.job.specs.FirstBlock.{heading, text}
use Rattle.job.proofs.Listed.{text_obeying, lists_text, one_text}
use Rattle.job.proofs.Rows.{limit_enough, result_refused, refused_above, result_judged, Comes, at_row, at_judge, comes}

-- ---- the numbers of a job
-- those of the readers' rows are none of the judge's own, 7, 8, 9 and 10
row_apart : {s : List ℕ} {n p : ℕ} → JobRefused s n p → 7 ≤ n → n ≤ 10 → ⊥
row_apart (no_rule_line h) z l = omega arith
row_apart (rule_refused d m) z l = rule-rows.row_apart m z l
row_apart (day_refused d r m) z l = day-rows.row_apart m z l

apart : {s old : List ℕ} {a : JobAnswer} → JobMeaning s old a → 7 ≤ a.number → a.number ≤ 10 → ⊥
apart (row_refused r) z l = row_apart r z l
apart (short_buffer j t h) z l = omega arith
apart (accepted j t h) z l = omega arith

-- 7, 8, 9 and 10 never come from a job
pub never_judge : (s old : List ℕ) → 7 ≤ (job_answer s old).number → (job_answer s old).number ≤ 10 → ⊥
never_judge s old h l = apart (answer_means s old) h l

-- 10 never comes, since the limit is never below the work
pub never_spent : {s : List ℕ} {t : Tree} {w : Word} → BothPassed s t w → full_count w t ≤ limit_of (size t) (length w)
never_spent {t = t} {w = w} j = limit_enough w t

-- ---- the longest text
-- a word of n events has (n + 1) × (n + 2) / 2 spans
module _ (w : Word) (t : Tree) where
  list_most : (b : Bool) (i j : ℕ) (l : Spans) → length (list_if b i j l) ≤ suc (length l)
  list_most true i j l = omega arith
  list_most false i j l = omega arith

  start_most : (d i j : ℕ) (l : Spans) → length (from_start w t i d j l) ≤ suc d + length l
  start_most zero i j l = omega (arith, list_most (accepts t (slice i j w)) i j l)
  start_most (suc d) i j l =
      omega (arith, list_most (accepts t (slice i j w)) i j (from_start w t i d (suc j) l), start_most d i (suc j) l)

  starts_most : (d i : ℕ) → 2 * length (from_starts w t d i) ≤ (d + 1) * (d + 2)
  starts_most zero i = omega (arith, start_most zero i i [])
  starts_most (suc d) i = omega (arith, start_most (suc d) i i (from_starts w t d (suc i)), starts_most d (suc i))

  pub spans_most : length w ≤ 255 → length (obeying w t) ≤ 32896
  unfolding obeying
  spans_most h =
      let a : length w + 1 ≤ 256 = omega arith in
      let b : length w + 2 ≤ 257 = omega arith in
      let m : (length w + 1) * (length w + 2) ≤ 256 * 257 = mul-le-mul a b in
      omega (arith, starts_most (length w) 0)

-- a line's length, from those of its fields
field_length : (x : ℕ) (l : List ℕ) → length (fields (x ∷ l)) ≡ 1 + length (decimal x) + length (fields l)
field_length x l = omega (arith, length-append (decimal x) (fields l))

line_two : (c x y : ℕ) → length (line c (x ∷ y ∷ [])) ≡ 4 + length (decimal x) + length (decimal y)
line_two c x y = omega (arith, field_length x (y ∷ []), field_length y [])

-- the lines of spans that end at 255 at most
span_lines_most : (l : Spans) → ((p : ℕ × ℕ) → Memᴰ p l → (p.0 ≤ 255) × (p.1 ≤ 255)) → length (span_lines l) ≤ 10 * length l
unfolding span_lines
span_lines_most [] h = omega arith
span_lines_most (p ∷ l) h =
    let a = h p (Memᴰ.head refl) in
    let e = length-append (span_line p.0 p.1) (span_lines l) in
    let f = line_two 83 p.0 p.1 in
    let x = decimal_three p.0 (omega (arith, a.0)) in
    let y = decimal_three p.1 (omega (arith, a.1)) in
    let r = span_lines_most l (λ q m. h q (Memᴰ.tail m)) in
    omega arith

-- the `H` line
head_most : {rule : List ℕ} (w : Word) (t : Tree) → Passed rule t → length w ≤ 255 → length (head_line (heading w t)) ≤ 25
head_most w t p h =
    let n = length w in
    let m = size t in
    let k = specials t in
    let f = found w t in
    let c = full_count w t in
    let e = found_listed w t h in
    let g = spans_most w t h in
    let x : n + 1 ≤ 256 = omega arith in
    let y : n + 2 ≤ 257 = omega arith in
    let z : (n + 1) * (n + 2) ≤ 256 * 257 = mul-le-mul x y in
    let b : m * ((n + 1) * (n + 2)) ≤ 64 * (256 * 257) = mul-le-mul p.nodes z in
    let q = limit_enough w t in
    let dn = decimal_few 3 n (omega arith) (omega arith) in
    let dm = decimal_few 2 m (omega arith) (omega (arith, p.nodes)) in
    let dk = decimal_few 1 k (omega arith) (omega (arith, p.special)) in
    let df = decimal_few 5 f (omega arith) (omega arith) in
    let dc = decimal_few 7 c (omega arith) (omega arith) in
    let ln = field_length n (m ∷ k ∷ f ∷ c ∷ []) in
    let lm = field_length m (k ∷ f ∷ c ∷ []) in
    let lk = field_length k (f ∷ c ∷ []) in
    let lf = field_length f (c ∷ []) in
    let lc = field_length c [] in
    omega arith

judged_most : {s : List ℕ} {t : Tree} {w : Word} → BothPassed s t w → length (text w t) ≤ 328985
judged_most {t = t} {w = w} j =
    let h = judged_short j in
    let e = ap length (text_obeying w t h) in
    let a = length-append (head_line (heading w t)) (span_lines (obeying w t)) in
    let b = head_most w t j.passed h in
    let c = spans_most w t h in
    let d = span_lines_most (obeying w t) (λ p m.
    let o = (listed w t p.0 p.1).0 m in
    let x = o.order in
    let y = o.inside in
    (omega arith, omega arith)) in
    omega arith

-- ---- the program
pub refusal_most : (n p : ℕ) → length (refusal_line n p) ≤ 44
refusal_most n p = omega (arith, line_two 88 n p, decimal_length n, decimal_length p)

text_refused : (s : List ℕ) {n p : ℕ} → job_result s ≡ refused n p → (n ≡ 0 → ⊥) → job_text s ≡ refusal_line n p
unfolding job_text
text_refused s {n} e h = rw e (simp (ne_eqb n 0 h))

text_judged : {s : List ℕ} {t : Tree} {w : Word} → BothPassed s t w → job_text s ≡ text w t
unfolding job_text
text_judged j = rw (result_judged j) refl

-- the program's text is what it is to write, and nothing else is
pub text_writes : (s : List ℕ) → Writes s (job_text s)
text_writes s = go (comes s)
  where
    go : Comes s → Writes s (job_text s)
    go (at_row r) = subst (Writes s) (sym (text_refused s (result_refused r) (refused_above r))) (writes_refusal r)
    go (at_judge {t = t} {w = w} j) = subst (Writes s) (sym (text_judged j)) (writes_list j (lists_text w t (judged_short j)))

pub writes_is : {s x : List ℕ} → Writes s x → x ≡ job_text s
writes_is (writes_list {t = t} {w = w} j l) = one_text w t (judged_short j) l ∙ sym (text_judged j)
writes_is {s} (writes_refusal r) = sym (text_refused s (result_refused r) (refused_above r))

-- no text of the program is longer
pub text_most : (s : List ℕ) → length (job_text s) ≤ 328985
text_most s = most (comes s)
  where
    short : {n p : ℕ} → job_result s ≡ refused n p → (n ≡ 0 → ⊥) → length (job_text s) ≤ 328985
    short {n} {p} e h = let f = ap length (text_refused s e h) in omega (arith, refusal_most n p)

    most : Comes s → length (job_text s) ≤ 328985
    most (at_row r) = short (result_refused r) (refused_above r)
    most (at_judge j) = let f = ap length (text_judged j) in omega (arith, judged_most j)

-- what the program writes is what the call left in its buffer, or the line of the refusal
module _ (s old : List ℕ) (room : 328985 ≤ length old) where
  abbrev answered : JobAnswer → List ℕ
  answered a = cond (eqb a.number 0) (take a.n a.out) (refusal_line a.number a.place)

  stopped : {n p : ℕ} → job_result s ≡ refused n p → (n ≡ 0 → ⊥) → job_text s ≡ answered (job_answer s old)
  stopped {n} e h = text_refused s e h ∙ rw (← at_refusal s old e h) (simp (ne_eqb n 0 h))

  told : Comes s → job_text s ≡ answered (job_answer s old)
  told (at_row r) = stopped (result_refused r) (refused_above r)
  told (at_judge {t = t} {w = w} j) =
      let l : length (text w t) ≤ length old = omega (arith, judged_most j) in
      text_judged j ∙ rw (← at_text s old j l) (sym (take_at (text w t) (drop (length (text w t)) old) (length (text w t)) refl))

  pub call_text : job_text s
      ≡ cond (eqb (job_answer s old).number 0) (take (job_answer s old).n (job_answer s old).out)
      (refusal_line (job_answer s old).number (job_answer s old).place)
  call_text = told (comes s)

-- the text stands in the buffer
text_inside : {s old : List ℕ} {a : JobAnswer} → JobMeaning s old a → a.n ≤ length a.out
text_inside (row_refused r) = omega arith
text_inside (short_buffer j l h) = omega arith
text_inside {old = old} (accepted {text = x} j l h) = omega (arith, length-append x (drop (length x) old))

-- the same of an answer of the code
module _ (s old : List ℕ) (room : 328985 ≤ length old) (b : List ℕ) where
  -- where it accepts, the front of the buffer is the text
  module _ (l : Accepted) (e : job_values (Ok l) b ≡ job_answer s old) where
    pub text_listed : take l.n b ≡ job_text s
    text_listed = sym (subst (λ (x : JobAnswer). job_text s ≡ cond (eqb x.number 0) (take x.n x.out) (refusal_line x.number x.place)) (sym e) (call_text s old room))

    pub text_within : l.n ≤ length b
    text_within = text_inside (subst (JobMeaning s old) (sym e) (answer_means s old))

  -- where it refuses, the text is the refusal's line
  pub text_stopped : (r : Refusal) → job_values (Err r) b ≡ job_answer s old → refusal_line (row_verdict r).number (row_verdict r).place ≡ job_text s
  text_stopped r e =
      let c : job_text s ≡ cond (eqb (row_verdict r).number 0) (take 0 b) (refusal_line (row_verdict r).number (row_verdict r).place) =
      subst (λ (x : JobAnswer). job_text s ≡ cond (eqb x.number 0) (take x.n x.out) (refusal_line x.number x.place)) (sym e) (call_text s old room) in
      sym (c ∙ simp (ne_eqb (row_verdict r).number 0 (refusal_number r)))
