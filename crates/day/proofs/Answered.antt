-- `day_answer` is the one answer that says by the form of the lines what document 01 asks. Assumes nothing.
use Prim.Native.Nat.{ℕ, zero, suc, ◌+◌, ◌-◌, ◌≤◌, ◌<◌}
use native.Mathlib.Omega.{arith}
use mathlib.Core.Path.{◌≡◌, refl, sym, ap, ap₂, subst, ◌∙◌}
use Rattle.std.specs.Prelude.{Option, Some, None}
use mathlib.Core.Logic.{◌⊎◌, inl, inr}
use mathlib.Core.Bool.{true, ◌||◌, or-true}
use mathlib.Core.List.{List, [], ◌∷◌, ◌++◌, map}
use lib.Dec.{ltb}
use lib.ListN.{length, drop, length-map}
use lib.Seq.{sets, sets-eq}
use borrow.Author.Tests.{ltb-true, ltb-false, lt-ltb, le-ltb}
use Rattle.event.proofs.Tests.{either, neither, choose}
use Rattle.verdict.specs.Verdicts as verdict
use Rattle.verdict.specs.declared.Verdict.{Verdict}
use Rattle.day.specs.DayFile.{last_second, DayEvent, letter_of, second_of, LineAt, Lines, done, more, second_after}
use Rattle.day.specs.DayLines.{LinesResult, stopped, events, front, judged, line, line_of, day_lines}
use Rattle.day.specs.DayAnswer.{DayAnswer, values, refusal, acceptance, refusal_verdict, told}
use Rattle.day.specs.DayComputed.{day_events, ComesTo, answered, day_answer}
use Rattle.day.specs.DayMeaning.{Whole, DayRefused, long_file, many_lines, malformed_line, wrong_second}
use Rattle.day.specs.DayMeaning.{DayMeaning, file_refused, short_buffer, accepted}
use Rattle.day.specs.declared.Refusal.{Refusal}
use Rattle.day.specs.declared.Refusal.TheVariants as why
use Rattle.day.specs.declared.line.Line.{Line}
use Rattle.day.proofs.LineForm.{line_sound, line_found}
use Rattle.day.proofs.Turns.{judged_line, turn_many, turn_end, turn_malformed, turn_wrong}

-- one of two tests for less passes
pub less : {a b c d : ℕ} → (ltb a b ≡ true) ⊎ (ltb c d ≡ true) → (a < b) ⊎ (c < d)
less (inl t) = inl (ltb-true _ _ t)
less (inr t) = inr (ltb-true _ _ t)

-- ---- what the lines come to holds by their form
-- what makes a line after one of the second y bad
abbrev NoLine : ℕ → List ℕ → Type 0
NoLine y rest = (e : DayEvent) (after : List ℕ) → LineAt rest e after → ⊥

abbrev BadSecond : ℕ → List ℕ → Type 0
BadSecond y rest = (e : DayEvent) × (after : List ℕ) × LineAt rest e after × ((last_second < e.second) ⊎ (e.second < y))

-- good lines, and then the bad line p
record Stops (bad : ℕ → List ℕ → Type 0) (left y : ℕ) (s : List ℕ) (p : ℕ) : Type 0 where
  l : List DayEvent
  rest : List ℕ
  good : Lines y s l rest
  begun : 1 ≤ length rest
  few : length l < left
  place : p + left ≡ suc (length l) + 255
  why : bad (second_after y l) rest

record Overflows (left y : ℕ) (s : List ℕ) : Type 0 where
  l : List DayEvent
  rest : List ℕ
  good : Lines y s l rest
  begun : 1 ≤ length rest
  all : length l ≡ left

abbrev Says : ℕ → ℕ → List ℕ → LinesResult → Type 0
Says left y s (stopped (why.Malformed p)) = Stops NoLine left y s p
Says left y s (stopped (why.WrongSecond p)) = Stops BadSecond left y s p
Says left y s (stopped why.ManyLines) = Overflows left y s
Says left y s (stopped why.LongFile) = ⊥
Says left y s (stopped why.ShortBuffer) = ⊥
Says left y s (events l) = Lines y s l [] × (length l ≤ left)

-- one good line more in front
module _ (left y : ℕ) (s mid : List ℕ) (e : DayEvent) (h : LineAt s e mid) (low : y ≤ e.second) (high : e.second ≤ last_second) where
  stops_later : (bad : ℕ → List ℕ → Type 0) (p : ℕ) → Stops bad left e.second mid p → Stops bad (suc left) y s p
  stops_later bad p b =
      record {
        l = e ∷ b.l;
        rest = b.rest;
        good = more h low high b.good;
        begun = b.begun;
        few = omega (arith, b.few);
        place = omega (arith, b.place);
        why = b.why;
      }

  says_front : (d : LinesResult) → Says left e.second mid d → Says (suc left) y s (front e d)
  says_front (stopped (why.Malformed p)) b = stops_later NoLine p b
  says_front (stopped (why.WrongSecond p)) b = stops_later BadSecond p b
  says_front (stopped why.ManyLines) b =
      record { l = e ∷ b.l; rest = b.rest; good = more h low high b.good; begun = b.begun; all = omega (arith, b.all) }
  says_front (stopped why.LongFile) b = b
  says_front (stopped why.ShortBuffer) b = b
  says_front (events l) b = (more h low high b.0, omega (arith, b.1))

-- the first line is bad
stops_here : (bad : ℕ → List ℕ → Type 0) (left y : ℕ) (s : List ℕ) → left < 255 → 1 ≤ length s → bad y s → Stops bad (suc left) y s (255 - left)
stops_here bad left y s h g b =
    record { l = []; rest = s; good = done; begun = g; few = omega arith; place = omega arith; why = b }

says_line : (left y : ℕ) (s : List ℕ) → left < 255 → 1 ≤ length s → ((x : ℕ) (t : List ℕ) → Says left x t (day_lines left x t))
    → (r : Option Line) → line_of s ≡ r → Says (suc left) y s (judged (day_lines left) (255 - left) y s r)
says_line left y s h g next None q =
    stops_here NoLine left y s h g (λ e after a. let f = line_found s e after a in cc)
says_line left y s h g next (Some l) q =
    let x = l.second in
    choose (Says (suc left) y s) (ltb last_second x || ltb x y)
    (λ f. stops_here BadSecond left y s h g (_, drop l.size s, line_sound s x l.letter l.size q, less (either _ _ f)))
    (λ f. let n = neither (ltb last_second x) (ltb x y) f in
    says_front left y s (drop l.size s) _ (line_sound s x l.letter l.size q) (ltb-false x y n.1) (ltb-false last_second x n.0)
    (day_lines left x (drop l.size s)) (next x (drop l.size s)))

says : (left y : ℕ) (s : List ℕ) → left ≤ 255 → Says left y s (day_lines left y s)
unfolding day_lines
says zero y [] h = (done, omega arith)
says zero y (b ∷ s) h = record { l = []; rest = b ∷ s; good = done; begun = omega arith; all = refl }
says (suc left) y [] h = (done, omega arith)
says (suc left) y (b ∷ s) h = says_line left y (b ∷ s) (omega arith) (omega arith) (λ x t. says left x t (omega arith)) (line_of (b ∷ s)) refl

-- a file whose lines come to events is those lines
pub good_lines : (s : List ℕ) (l : List DayEvent) → day_lines 255 0 s ≡ events l → Lines 0 s l []
good_lines s l e = (subst (Says 255 0 s) e (says 255 0 s (omega arith))).0

lines_read : (s : List ℕ) → length s ≤ 2550 → (d : LinesResult) → Says 255 0 s d → ComesTo s d
lines_read s h (stopped (why.Malformed p)) b =
    let e : suc (length b.l) ≡ p = omega (arith, b.place) in
    subst (DayRefused s 12) e (malformed_line (record { fits = h; good = b.good; begun = b.begun }) b.few b.why)
lines_read s h (stopped (why.WrongSecond p)) b =
    let e : suc (length b.l) ≡ p = omega (arith, b.place) in
    let w = b.why in
    subst (DayRefused s 13) e (wrong_second (record { fits = h; good = b.good; begun = b.begun }) b.few w.2 w.3)
lines_read s h (stopped why.ManyLines) b = many_lines (record { fits = h; good = b.good; begun = b.begun }) b.all
lines_read s h (stopped why.LongFile) b = absurd b
lines_read s h (stopped why.ShortBuffer) b = absurd b
lines_read s h (events l) b = record { fits = h; good = b.0; few = b.1 }

pub events_read : (s : List ℕ) → ComesTo s (day_events s)
unfolding day_events
events_read s =
    choose (ComesTo s) (ltb 2550 (length s)) (λ f. long_file (ltb-true 2550 (length s) f))
    (λ f. lines_read s (ltb-false 2550 (length s) f) (day_lines 255 0 s) (says 255 0 s (omega arith)))

-- a refusal told is number and place, and all else 0
pub told_refusal : (r : Refusal) (ls ss : List ℕ)
    → told (refusal_verdict r) 0 ls ss ≡ refusal (refusal_verdict r).number (refusal_verdict r).place ls ss
told_refusal why.LongFile ls ss = refl
told_refusal (why.Malformed p) ls ss = refl
told_refusal (why.WrongSecond p) ls ss = refl
told_refusal why.ManyLines ls ss = refl
told_refusal why.ShortBuffer ls ss = refl

means : (s ls ss : List ℕ) (d : LinesResult) → ComesTo s d → DayMeaning s ls ss (answered d ls ss)
means s ls ss (stopped r) m = subst (DayMeaning s ls ss) (sym (told_refusal r ls ss)) (file_refused m)
means s ls ss (events l) w =
    choose (DayMeaning s ls ss) (ltb (length ls) (length l) || ltb (length ss) (length l))
    (λ f. short_buffer w (less (either _ _ f)))
    (λ f. let n = neither (ltb (length ls) (length l)) (ltb (length ss) (length l)) f in
    accepted w (ltb-false _ _ n.0) (ltb-false _ _ n.1))

pub answer_means : (s ls ss : List ℕ) → DayMeaning s ls ss (day_answer s ls ss)
unfolding day_answer
answer_means s ls ss = means s ls ss (day_events s) (events_read s)

-- ---- no other answer says so
-- good lines in front
abbrev prefixed : List DayEvent → LinesResult → LinesResult
prefixed [] d = d
prefixed (e ∷ l) d = front e (prefixed l d)

prefixed_refusal : (d : LinesResult) → ((e : DayEvent) → front e d ≡ d) → (l : List DayEvent) → prefixed l d ≡ d
prefixed_refusal d h [] = refl
prefixed_refusal d h (e ∷ l) = ap (front e) (prefixed_refusal d h l) ∙ h e

prefixed_events : (l : List DayEvent) → prefixed l (events []) ≡ events l
prefixed_events [] = refl
prefixed_events (e ∷ l) = ap (front e) (prefixed_events l)

-- a line has bytes
has_bytes : {s : List ℕ} {e : DayEvent} {mid : List ℕ} → LineAt s e mid → 1 ≤ length s
has_bytes {s} h = let n = ap length h.text in omega arith

run : {y : ℕ} {s : List ℕ} {l : List DayEvent} {rest : List ℕ} → Lines y s l rest → (left : ℕ)
    → day_lines (length l + left) y s ≡ prefixed l (day_lines left (second_after y l) rest)
run {y} {s} done left = let z : 0 + left ≡ left = omega arith in ap (λ (k : ℕ). day_lines k y s) z
run {y} {s} (more {e = e} {l = l} h low high g) left =
    let n : suc (length l) + left ≡ suc (length l + left) = omega arith in
    let f = line_found s e _ h in
    let k = length l + left in
    let j : judged (day_lines k) (255 - k) y s (Some (line e.second e.letter f.0)) ≡ front e (day_lines k e.second (drop f.0 s))
    = simp (le-ltb last_second e.second high, le-ltb e.second y low) in
    ap (λ (k : ℕ). day_lines k y s) n ∙ judged_line (length l + left) y s (has_bytes h)
    ∙ ap (judged (day_lines (length l + left)) (255 - (length l + left)) y s) f.1
    ∙ j
    ∙ ap (λ (t : List ℕ). front e (day_lines (length l + left) e.second t)) f.2
    ∙ ap (front e) (run g left)

run_all : {s : List ℕ} {l : List DayEvent} {rest : List ℕ} → Lines 0 s l rest → length l ≤ 255
    → day_lines 255 0 s ≡ prefixed l (day_lines (255 - length l) (second_after 0 l) rest)
run_all {s} {l} g h =
    let n : 255 ≡ length l + (255 - length l) = omega arith in
    ap (λ (k : ℕ). day_lines k 0 s) n ∙ run g (255 - length l)

no_line_lem : (s : List ℕ) → ((e : DayEvent) (after : List ℕ) → LineAt s e after → ⊥) → line_of s ≡ None
no_line_lem s h = go (line_of s) refl
  where
    go : (r : Option Line) → line_of s ≡ r → r ≡ None
    go None e = refl
    go (Some l) e = absurd (h _ _ (line_sound s l.second l.letter l.size e))

pub whole_lines : {s : List ℕ} {l : List DayEvent} → Lines 0 s l [] → length l ≤ 255 → day_lines 255 0 s ≡ events l
whole_lines {s} {l} g h = run_all g h ∙ ap (prefixed l) (turn_end (255 - length l) (second_after 0 l)) ∙ prefixed_events l

-- ---- what a file comes to is what it means
pub by_lines : (s : List ℕ) (d : LinesResult) → length s ≤ 2550 → day_lines 255 0 s ≡ d → day_events s ≡ d
unfolding day_events
by_lines s d h e = let f : day_events s ≡ day_lines 255 0 s = simp (le-ltb 2550 (length s) h) in f ∙ e

pub read_events : {s : List ℕ} {l : List DayEvent} → Whole s l → day_events s ≡ events l
read_events {s} {l} w = by_lines s (events l) w.fits (whole_lines w.good w.few)

pub read_refused : {s : List ℕ} {number place : ℕ} → DayRefused s number place
    → (r : Refusal) × (day_events s ≡ stopped r) × (refusal_verdict r ≡ verdict.refused number place)
unfolding day_events
read_refused {s} (long_file h) = (why.LongFile, simp (lt-ltb 2550 (length s) h), refl)
read_refused {s} (many_lines {l = l} {rest = rest} u h) = (
  why.ManyLines,
  by_lines s (stopped why.ManyLines) u.fits (run_all u.good (omega arith)
      ∙ ap (prefixed l) (turn_many (length l) (second_after 0 l) rest h u.begun) ∙ prefixed_refusal (stopped why.ManyLines) (λ e. refl) l),
  refl,
)
read_refused {s} (malformed_line {l = l} {rest = rest} u h n) =
    let p : length l + 1 ≡ suc (length l) = omega arith in
    let d = stopped (why.Malformed (suc (length l))) in (
      why.Malformed (suc (length l)),
      by_lines s d u.fits (run_all u.good (omega arith)
          ∙ ap (prefixed l) (turn_malformed (length l) (second_after 0 l) rest h u.begun (no_line_lem rest n)
          ∙ ap (λ (x : ℕ). stopped (why.Malformed x)) p)
          ∙ prefixed_refusal d (λ e. refl) l),
      refl,
    )
read_refused {s} (wrong_second {l = l} {rest = rest} {after = after} {e = e} u h a w) =
    let p : length l + 1 ≡ suc (length l) = omega arith in
    let f = line_found rest e after a in
    let d = stopped (why.WrongSecond (suc (length l))) in (
      why.WrongSecond (suc (length l)),
      by_lines s d u.fits (run_all u.good (omega arith)
          ∙ ap (prefixed l) (turn_wrong (length l) (second_after 0 l) rest h u.begun _ _ _ f.1 w
          ∙ ap (λ (x : ℕ). stopped (why.WrongSecond x)) p)
          ∙ prefixed_refusal d (λ e. refl) l),
      refl,
    )

-- ---- the answer, by what the file comes to
pub answer_of_lem : (s ls ss : List ℕ) (d : LinesResult) → day_events s ≡ d → answered d ls ss ≡ day_answer s ls ss
unfolding day_answer
answer_of_lem s ls ss d e = ap (λ (x : LinesResult). answered x ls ss) (sym e)

-- ---- the answer to events, by the room in the buffers
shorter : (a b n : ℕ) → (a < n) ⊎ (b < n) → (ltb a n || ltb b n) ≡ true
shorter a b n (inl h) = simp (lt-ltb a n h)
shorter a b n (inr h) = simp (lt-ltb b n h, or-true)

pub too_short : (l : List DayEvent) (ls ss : List ℕ) → (length ls < length l) ⊎ (length ss < length l)
    → refusal 15 0 ls ss ≡ answered (events l) ls ss
too_short l ls ss h = simp (shorter (length ls) (length ss) (length l) h)

pub with_room : (l : List DayEvent) (ls ss : List ℕ) → length l ≤ length ls → length l ≤ length ss → acceptance l ls ss ≡ answered (events l) ls ss
with_room l ls ss h g = simp (le-ltb (length ls) (length l) h, le-ltb (length ss) (length l) g)

-- what is stored from 0 on, and what is left beyond it
stored : (f : DayEvent → ℕ) (l : List DayEvent) (b c : List ℕ) → length l ≤ length b → c ≡ sets b 0 (map f l)
    → c ≡ map f l ++ drop (length l) b
stored f l b c m q =
    let k : length (map f l) ≡ length l = length-map l f in
    let z : 0 + length (map f l) ≡ length l = omega arith in
    q ∙ sets-eq (map f l) b 0 (omega arith) ∙ ap (λ (j : ℕ). map f l ++ drop j b) z

pub accepts : (l : List DayEvent) (n : ℕ) (ls ss ls' ss' : List ℕ) → n ≡ length l → n ≤ length ls → n ≤ length ss
    → ls' ≡ sets ls 0 (map letter_of l) → ss' ≡ sets ss 0 (map second_of l) → values 0 0 n ls' ss' ≡ answered (events l) ls ss
accepts l n ls ss ls' ss' e h g p q =
    ap (λ (k : ℕ). values 0 0 k ls' ss') e
    ∙ ap₂ (λ (u v : List ℕ). values 0 0 (length l) u v) (stored letter_of l ls ls' (omega arith) p) (stored second_of l ss ss' (omega arith) q)
    ∙ with_room l ls ss (omega arith) (omega arith)

pub answer_is : {s ls ss : List ℕ} {a : DayAnswer} → DayMeaning s ls ss a → a ≡ day_answer s ls ss
answer_is {s} {ls} {ss} (file_refused m) =
    let (r, comes, says) = read_refused m in
    ap (λ (v : Verdict). told v 0 ls ss) (sym says) ∙ answer_of_lem s ls ss (stopped r) comes
answer_is {s} {ls} {ss} (short_buffer {l = l} w h) = too_short l ls ss h ∙ answer_of_lem s ls ss (events l) (read_events w)
answer_is {s} {ls} {ss} (accepted {l = l} w h g) = with_room l ls ss h g ∙ answer_of_lem s ls ss (events l) (read_events w)
