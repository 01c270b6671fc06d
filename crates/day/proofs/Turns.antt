-- One turn of each pass over the lines, as the code takes it. Assumes nothing.
use Prim.Native.Nat.{ℕ, zero, suc, ◌+◌, ◌-◌, ◌≤◌, ◌<◌}
use native.Mathlib.Omega.{arith}
use native.Mathlib.Numerals.{add-one}
use mathlib.Core.Path.{◌≡◌, refl, sym, ap, ap₂, ◌∙◌}
use mathlib.Core.Bool.{or-true}
use mathlib.Core.Logic.{◌⊎◌, inl, inr}
use mathlib.Core.List.{List, [], ◌∷◌, map}
use lib.ListN.{length, drop, set}
use lib.Seq.{sets}
use borrow.Author.Tests.{lt-ltb, le-ltb}
use Rattle.event.proofs.Tails.{tail, tail_is}
use Rattle.day.specs.DayFile.{last_second, DayEvent, letter_of, second_of}
use Rattle.day.specs.DayLines.{LinesResult, stopped, events, front, judged, line, line_of, day_lines}
use Rattle.day.specs.DayLines.{checked, with_line, events_of}
use Rattle.std.specs.Prelude.{Option, Some, None, Ok, Err, IsSome}
use Rattle.std.proofs.Common.{rules}
use Rattle.day.specs.declared.line.Line.{Line}
use Rattle.day.specs.declared.Refusal.TheVariants.{Malformed, WrongSecond, ManyLines}

-- ---- the first pass: n lines have come, the last with the second y, and the text goes on
pub judged_line : (left y : ℕ) (s : List ℕ) → 1 ≤ length s → day_lines (suc left) y s ≡ judged (day_lines left) (255 - left) y s (line_of s)
unfolding day_lines
judged_line left y [] g = absurd (omega arith)
judged_line left y (b ∷ s) g = refl

turn : (n y : ℕ) (s : List ℕ) → n < 255 → 1 ≤ length s
    → day_lines (255 - n) y s ≡ judged (day_lines (255 - (n + 1))) (n + 1) y s (line_of s)
turn n y s h g =
    let e : 255 - n ≡ suc (255 - (n + 1)) = omega arith in
    let p : 255 - (255 - (n + 1)) ≡ n + 1 = omega arith in
    ap (λ (k : ℕ). day_lines k y s) e ∙ judged_line (255 - (n + 1)) y s g
    ∙ ap (λ (q : ℕ). judged (day_lines (255 - (n + 1))) q y s (line_of s)) p

pub turn_many : (n y : ℕ) (s : List ℕ) → n ≡ 255 → 1 ≤ length s → day_lines (255 - n) y s ≡ stopped ManyLines
unfolding day_lines
turn_many n y [] h g = absurd (omega arith)
turn_many n y (b ∷ s) h g = let e : 255 - n ≡ 0 = omega arith in ap (λ (k : ℕ). day_lines k y (b ∷ s)) e

pub turn_end : (k y : ℕ) → day_lines k y [] ≡ events []
unfolding day_lines
turn_end zero y = refl
turn_end (suc k) y = refl

module _ (n y : ℕ) (s : List ℕ) (few : n < 255) (begun : 1 ≤ length s) where
  pub turn_malformed : line_of s ≡ None → day_lines (255 - n) y s ≡ stopped (Malformed (n + 1))
  turn_malformed e = turn n y s few begun ∙ ap (judged (day_lines (255 - (n + 1))) (n + 1) y s) e

  module _ (x c size : ℕ) (e : line_of s ≡ Some (line x c size)) where
    turned : day_lines (255 - n) y s ≡ judged (day_lines (255 - (n + 1))) (n + 1) y s (Some (line x c size))
    turned = turn n y s few begun ∙ ap (judged (day_lines (255 - (n + 1))) (n + 1) y s) e

    pub turn_wrong : (last_second < x) ⊎ (x < y) → day_lines (255 - n) y s ≡ stopped (WrongSecond (n + 1))
    turn_wrong (inl h) = turned ∙ simp (lt-ltb last_second x h)
    turn_wrong (inr h) = turned ∙ simp (lt-ltb x y h, or-true)

    pub turn_good : x ≤ last_second → y ≤ x
        → day_lines (255 - n) y s ≡ front (record { second = x; letter = c }) (day_lines (255 - (n + 1)) x (drop size s))
    turn_good h g = turned ∙ simp (le-ltb last_second x h, le-ltb x y g)

-- a good line counts as one more
pub one_more : (n : ℕ) (e : DayEvent) (d : LinesResult) → checked n (front e d) ≡ checked (n + 1) d
one_more n e (stopped r) = refl
one_more n e (events l) = let h : n + suc (length l) ≡ n + 1 + length l = omega arith in ap Ok h

-- n good lines came before `rest`, the last with the second y: what the lines from there on come to is what all lines come to
pub record Coming (s rest : List ℕ) (n y : ℕ) : Type 0 where
  pub few : n ≤ 255
  pub same : checked 0 (day_lines 255 0 s) ≡ checked n (day_lines (255 - n) y rest)

pub coming_end : {s rest : List ℕ} {n y : ℕ} → Coming s rest n y → length rest ≡ 0 → Ok n ≡ checked 0 (day_lines 255 0 s)
coming_end {s} {rest} {n} {y} i h =
    let z : n + 0 ≡ n = omega arith in
    sym (i.same ∙ ap (λ (t : List ℕ). checked n (day_lines (255 - n) y t)) (empty rest h)
    ∙ ap (checked n) (turn_end (255 - n) y) ∙ ap Ok z)
  where
    empty : (t : List ℕ) → length t ≡ 0 → t ≡ []
    empty [] h = refl
    empty (b ∷ t) h = absurd (omega arith)

module _ {s rest : List ℕ} {n y : ℕ} (i : Coming s rest n y) (more : 1 ≤ length rest) where
  pub coming_many : n ≡ 255 → Err ManyLines ≡ checked 0 (day_lines 255 0 s)
  coming_many h = sym (i.same ∙ ap (checked n) (turn_many n y rest h more))

  module _ (less : n ≡ 255 → ⊥) where
    pub coming_malformed : line_of rest ≡ None → Err (Malformed (n + 1)) ≡ checked 0 (day_lines 255 0 s)
    coming_malformed e = sym (i.same ∙ ap (checked n) (turn_malformed n y rest (omega (arith, i.few)) more e))

    module _ {l : Line} (e : line_of rest ≡ Some l) where
      pub coming_wrong : (last_second < l.second) ⊎ (l.second < y) → Err (WrongSecond (n + 1)) ≡ checked 0 (day_lines 255 0 s)
      coming_wrong h = sym (i.same ∙ ap (checked n) (turn_wrong n y rest (omega (arith, i.few)) more l.second l.letter l.size e h))

      pub coming_on : l.second ≤ last_second → y ≤ l.second → Coming s (tail l.size rest) (n + 1) l.second
      coming_on h g =
          record {
            few = omega (arith, i.few);
            same = i.same ∙ ap (checked n) (turn_good n y rest (omega (arith, i.few)) more l.second l.letter l.size e h g)
                ∙ one_more n (record { second = l.second; letter = l.letter }) (day_lines (255 - (n + 1)) l.second (drop l.size rest))
                ∙ ap (λ (t : List ℕ). checked (n + 1) (day_lines (255 - (n + 1)) l.second t)) (sym (tail_is l.size rest));
          }

-- ---- the second pass: j lines are left to be stored
pub events_end : (s : List ℕ) (j : ℕ) → line_of s ≡ None → length (events_of j s) ≡ j → j ≡ 0
unfolding events_of
events_end s zero e h = refl
events_end s (suc j) e h = absurd (let z : 0 ≡ suc j = sym (ap (λ (r : Option Line). length (with_line (events_of j) s r)) e) ∙ h in omega arith)

pub events_next : (s : List ℕ) (j x c size : ℕ) → 0 < j → line_of s ≡ Some (line x c size)
    → events_of j s ≡ record { second = x; letter = c } ∷ events_of (j - 1) (drop size s)
unfolding events_of
events_next s zero x c size h e = absurd (omega arith)
events_next s (suc j) x c size h e =
    let k : j ≡ suc j - 1 = omega arith in
    ap (with_line (events_of j) s) e ∙ ap (λ (i : ℕ). record { second = x; letter = c } ∷ events_of i (drop size s)) k

-- i events are stored and the lines of `rest` are left: storing those gives what storing all n gives
pub record Storing (s rest : List ℕ) (n : ℕ) (ls₀ ss₀ ls ss : List ℕ) (i : ℕ) : Type 0 where
  pub few : i ≤ n
  pub left : length (events_of (n - i) rest) ≡ n - i
  pub letters : sets ls i (map letter_of (events_of (n - i) rest)) ≡ sets ls₀ 0 (map letter_of (events_of n s))
  pub seconds : sets ss i (map second_of (events_of (n - i) rest)) ≡ sets ss₀ 0 (map second_of (events_of n s))

pub storing_begins : (s : List ℕ) (n : ℕ) (ls ss : List ℕ) → length (events_of n s) ≡ n → Storing s s n ls ss ls ss 0
storing_begins s n ls ss h =
    let z : n - 0 ≡ n = omega arith in
    record {
      few = omega arith;
      left = ap (λ (k : ℕ). length (events_of k s)) z ∙ h ∙ sym z;
      letters = ap (λ (k : ℕ). sets ls 0 (map letter_of (events_of k s))) z;
      seconds = ap (λ (k : ℕ). sets ss 0 (map second_of (events_of k s))) z;
    }

pub storing_ends : {s rest : List ℕ} {n : ℕ} {ls₀ ss₀ ls ss : List ℕ} {i : ℕ} → Storing s rest n ls₀ ss₀ ls ss i → n ≤ i
    → (ls ≡ sets ls₀ 0 (map letter_of (events_of n s))) × (ss ≡ sets ss₀ 0 (map second_of (events_of n s)))
unfolding events_of
storing_ends {s} {rest} {n} {ls₀} {ss₀} {ls} {ss} {i} g h =
    let z : 0 ≡ n - i = omega arith in (
      ap (λ (k : ℕ). sets ls i (map letter_of (events_of k rest))) z ∙ g.letters,
      ap (λ (k : ℕ). sets ss i (map second_of (events_of k rest))) z ∙ g.seconds,
    )

module _ {s rest : List ℕ} {n : ℕ} {ls₀ ss₀ ls ss : List ℕ} {i : ℕ} (g : Storing s rest n ls₀ ss₀ ls ss i) (more : i < n) where
  -- every line that is left has the form
  storing_never : line_of rest ≡ None → ⊥
  storing_never e = let z = events_end rest (n - i) e g.left in omega arith

  pub storing_some : (r : Option Line) → r ≡ line_of rest → IsSome r
  storing_some None e = absurd (storing_never (sym e))
  storing_some (Some l) e = search rules

  module _ {l : Line} (e : line_of rest ≡ Some l) where
    next : events_of (n - i) rest ≡ record { second = l.second; letter = l.letter } ∷ events_of (n - (i + 1)) (tail l.size rest)
    next =
        let k : n - i - 1 ≡ n - (i + 1) = omega arith in
        events_next rest (n - i) l.second l.letter l.size (omega arith) e
        ∙ ap₂ (λ (j : ℕ) (t : List ℕ). record { second = l.second; letter = l.letter } ∷ events_of j t) k (sym (tail_is l.size rest))

    pub storing_on : Storing s (tail l.size rest) n ls₀ ss₀ (set ls i l.letter) (set ss i l.second) (i + 1)
    storing_on =
        record {
          few = omega arith;
          left = let m = sym (ap length next) ∙ g.left in omega arith;
          letters = ap (λ (j : ℕ). sets (set ls i l.letter) j (map letter_of (events_of (n - (i + 1)) (tail l.size rest)))) (add-one i)
              ∙ ap (λ (k : List DayEvent). sets ls i (map letter_of k)) (sym next) ∙ g.letters;
          seconds = ap (λ (j : ℕ). sets (set ss i l.second) j (map second_of (events_of (n - (i + 1)) (tail l.size rest)))) (add-one i)
              ∙ ap (λ (k : List DayEvent). sets ss i (map second_of k)) (sym next) ∙ g.seconds;
        }
