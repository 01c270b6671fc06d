-- The computed line is the line of the form: `line_of` finds one exactly where `LineAt` says that there is one. Assumes nothing.
use Prim.Native.Nat.{ℕ, suc, ◌+◌, ◌-◌, ◌≤◌}
use native.Mathlib.Omega.{arith}
use mathlib.Core.Path.{◌≡◌, refl, sym, ap, ap₂, subst, ◌∙◌}
use Rattle.std.specs.Prelude.{Some, None}
use mathlib.Core.List.{List, [], ◌∷◌, ◌++◌, append_assoc}
use mathlib.Core.Bool.{Bool, true, false, cond, ◌&&◌, or-true}
use lib.Dec.{T, eqb, eqb→eq}
use lib.ListN.{length, get_or, take, drop, take-append-drop}
use lib.Seq.{drop-drop, length-take-le, get_or-take, get_or-drop, get_or-append-add, take-append_seam, drop-append-add}
use borrow.Author.Tests.{eq-eqb, eqb-true, le-leb}
use Rattle.event.specs.Event.{is_event}
use Rattle.event.proofs.EventLaws.{event_apart}
use Rattle.event.proofs.LeadingLaws.{leading_found, leading_up_to}
use Rattle.event.proofs.Tails.{rest_at}
use Rattle.event.proofs.Tests.{and_split, T_of, of_T}
use Rattle.decimal.specs.Numeral.{is_digit, AllDigits, value_of}
use Rattle.day.specs.DayFile.{event_tag, DayEvent, SecondNumeral, line_text, LineAt}
use Rattle.day.specs.DayLines.{digit_count, is_second, is_line, line, line_with, line_of}
use Rattle.day.specs.declared.line.Line.{Line}
use Rattle.day.proofs.LineLaws.{inside, counted_digits, second_is}

-- ---- a line that is found has the form
-- what the tests of a line with d digits say
record Parts (s : List ℕ) (d x c size : ℕ) : Type 0 where
  tag : get_or s 0 0 ≡ event_tag
  tab : get_or s 1 0 ≡ 9
  second : T (is_second d (get_or s 2 0))
  tab_behind : get_or s (d + 2) 0 ≡ 9
  letter : get_or s (d + 2 + 1) 0 ≡ c
  event : T (is_event c)
  newline : get_or s (d + 2 + 2) 0 ≡ 10
  value : value_of (take d (drop 2 s)) ≡ x
  ends : d + 2 + 3 ≡ size

six : (a b c d e f : Bool) → T (a && b && c && d && e && f) → T a × T b × T c × T d × T e × T f
six a b c d e f h =
    let p = and_split (a && b && c && d && e) f h in
    let q = and_split (a && b && c && d) e p.0 in
    let r = and_split (a && b && c) d q.0 in
    let u = and_split (a && b) c r.0 in
    let v = and_split a b u.0 in
    (v.0, v.1, u.1, r.1, q.1, p.1)

parts_with : (s : List ℕ) (d x c size : ℕ) → line_with d s ≡ Some (line x c size) → Parts s d x c size
parts_with s d x c size e = go (is_line d s) refl e
  where
    go : (t : Bool) → is_line d s ≡ t
        → cond t (Some (line (value_of (take d (drop 2 s))) (get_or s (d + 2 + 1) 0) (d + 2 + 3))) None ≡ Some (line x c size) → Parts s d x c size
    go false f q = cc
    go true f q =
        let r : line (value_of (take d (drop 2 s))) (get_or s (d + 2 + 1) 0) (d + 2 + 3) ≡ line x c size = cc in
        let l = ap (λ (k : Line). k.letter) r in
        let p = six (eqb (get_or s 0 0) event_tag) (eqb (get_or s 1 0) 9) (is_second d (get_or s 2 0)) (eqb (get_or s (d + 2) 0) 9)
        (is_event (get_or s (d + 2 + 1) 0)) (eqb (get_or s (d + 2 + 2) 0) 10) (T_of (is_line d s) f) in
        record {
          tag = eqb→eq (get_or s 0 0) event_tag p.0;
          tab = eqb→eq (get_or s 1 0) 9 p.1;
          second = p.2;
          tab_behind = eqb→eq (get_or s (d + 2) 0) 9 p.3;
          letter = l;
          event = subst (λ (b : ℕ). T (is_event b)) l p.4;
          newline = eqb→eq (get_or s (d + 2 + 2) 0) 10 p.5;
          value = ap (λ (k : Line). k.second) r;
          ends = ap (λ (k : Line). k.size) r;
        }

parts : (s : List ℕ) (x c size : ℕ) → line_of s ≡ Some (line x c size) → Parts s (digit_count (drop 2 s)) x c size
unfolding line_of
parts s x c size e = parts_with s (digit_count (drop 2 s)) x c size e

-- a line ends within the text
pub line_within : (s : List ℕ) (l : Line) → line_of s ≡ Some l → (1 ≤ l.size) × (l.size ≤ length s)
line_within s l e =
    let p = parts s l.second l.letter l.size e in
    let h = inside s (digit_count (drop 2 s) + 2 + 2) 9 p.newline in
    (omega (arith, p.ends), omega (arith, p.ends))

-- digits that can be a second write it in decimal
decimal_of : (s : List ℕ) (x c size : ℕ) → Parts s (digit_count (drop 2 s)) x c size → SecondNumeral (take (digit_count (drop 2 s)) (drop 2 s)) x
decimal_of s x c size p =
    let d = digit_count (drop 2 s) in
    let n : length (take d (drop 2 s)) ≡ d = length-take-le d (drop 2 s) (leading_found is_digit (drop 2 s)).within in
    let z = second_is d (get_or s 2 0) p.second in
    let f : get_or (take d (drop 2 s)) 0 0 ≡ get_or s 2 0 = get_or-take d (drop 2 s) 0 0 (omega (arith, z.0)) ∙ get_or-drop 2 s 0 0 in
    record {
      numeral = record {
        some = omega (arith, z.0);
        digits = counted_digits (drop 2 s);
        leading = λ e. n ∙ z.2 (sym f ∙ e);
        value = p.value;
      };
      few = omega (arith, z.1);
    }

-- the text from a byte on
from_byte : (s : List ℕ) (i j b : ℕ) → get_or s i 0 ≡ suc b → i + 1 ≡ j → drop i s ≡ suc b ∷ drop j s
from_byte s i j b e f = rest_at s i (inside s i b e) ∙ ap₂ (λ (x k : ℕ). x ∷ drop k s) e f

text_of : (s : List ℕ) (x c size : ℕ) → Parts s (digit_count (drop 2 s)) x c size
    → s ≡ line_text (take (digit_count (drop 2 s)) (drop 2 s)) c ++ drop size s
text_of s x c size p =
    let d = digit_count (drop 2 s) in
    let ds = take d (drop 2 s) in
    let z : c ≡ 0 → ⊥ = event_apart c 0 p.event tt in
    let k : c ≡ suc (c - 1) = omega (arith, z) in
    let n : 2 + d ≡ d + 2 = omega arith in
    from_byte s 0 1 68 p.tag (omega arith)
    ∙ ap (λ (t : List ℕ). event_tag ∷ t) (from_byte s 1 2 8 p.tab (omega arith))
    ∙ ap (λ (t : List ℕ). event_tag ∷ 9 ∷ t)
    (sym (take-append-drop d (drop 2 s))
    ∙ ap (λ (t : List ℕ). ds ++ t)
    (drop-drop d 2 s
    ∙ ap (λ (i : ℕ). drop i s) n
    ∙ from_byte s (d + 2) (d + 2 + 1) 8 p.tab_behind (omega arith)
    ∙ ap (λ (t : List ℕ). 9 ∷ t) (from_byte s (d + 2 + 1) (d + 2 + 2) (c - 1) (p.letter ∙ k) (omega arith)
    ∙ ap (λ (b : ℕ). b ∷ drop (d + 2 + 2) s) (sym k))
    ∙ ap (λ (t : List ℕ). 9 ∷ c ∷ t) (from_byte s (d + 2 + 2) size 9 p.newline (omega (arith, p.ends)))))
    ∙ sym (append_assoc (event_tag ∷ 9 ∷ ds) (9 ∷ c ∷ 10 ∷ []) (drop size s))

pub line_sound : (s : List ℕ) (x c size : ℕ) → line_of s ≡ Some (line x c size) → LineAt s (record { second = x; letter = c }) (drop size s)
line_sound s x c size e =
    let p = parts s x c size e in
    record {
      digits = take (digit_count (drop 2 s)) (drop 2 s);
      decimal = decimal_of s x c size p;
      event = p.event;
      text = text_of s x c size p;
    }

-- ---- a line of the form is found
count_run : (ds t : List ℕ) → AllDigits ds → digit_count (ds ++ 9 ∷ t) ≡ length ds
count_run ds t a = leading_up_to is_digit AllDigits (λ b u h. (of_T (is_digit b) h.0, h.1)) 9 refl ds t a

-- the n-th byte behind the digits
behind : (ds t : List ℕ) (a b k n : ℕ) → k ≡ length ds + n + 2 → get_or (a ∷ b ∷ (ds ++ t)) k 0 ≡ get_or t n 0
behind ds t a b k n e =
    let f : k ≡ suc (suc (length ds + n)) = omega arith in
    ap (λ (j : ℕ). get_or (a ∷ b ∷ (ds ++ t)) j 0) f ∙ get_or-append-add ds t n 0

can_be_second : (ds t : List ℕ) (x : ℕ) → SecondNumeral ds x → is_second (length ds) (get_or (ds ++ t) 0 0) ≡ true
can_be_second [] t x h = absurd (omega (arith, h.numeral.some))
can_be_second (b ∷ ds) t x h = go (eqb b 48) refl
  where
    go : (z : Bool) → eqb b 48 ≡ z → is_second (suc (length ds)) b ≡ true
    go true e = simp (eq-eqb (suc (length ds)) 1 (h.numeral.leading (eqb-true b 48 e)))
    go false e = simp (e, le-leb 1 (suc (length ds)) h.numeral.some, le-leb (suc (length ds)) 5 h.few, or-true)

found_in : (ds rest : List ℕ) (x c : ℕ) → SecondNumeral ds x → T (is_event c)
    → line_of (event_tag ∷ 9 ∷ (ds ++ 9 ∷ c ∷ 10 ∷ rest)) ≡ Some (line x c (length ds + 2 + 3))
unfolding line_of
found_in ds rest x c h v =
    let t : List ℕ = 9 ∷ c ∷ 10 ∷ rest in
    let s : List ℕ = event_tag ∷ 9 ∷ (ds ++ t) in
    let l : get_or s (length ds + 2 + 1) 0 ≡ c = behind ds t event_tag 9 (length ds + 2 + 1) 1 (omega arith) in
    let u : value_of (take (length ds) (ds ++ t)) ≡ x = ap value_of (take-append_seam ds t) ∙ h.numeral.value in
    let f : is_line (length ds) s ≡ true = simp (
      can_be_second ds t x h,
      behind ds t event_tag 9 (length ds + 2) 0 (omega arith),
      l,
      of_T (is_event c) v,
      behind ds t event_tag 9 (length ds + 2 + 2) 2 (omega arith),
    ) in
    ap (λ (d : ℕ). line_with d s) (count_run ds (c ∷ 10 ∷ rest) h.numeral.digits)
    ∙ rw f (ap₂ (λ (y b : ℕ). Some (line y b (length ds + 2 + 3))) u l)

pub line_found : (s : List ℕ) (e : DayEvent) (rest : List ℕ) → LineAt s e rest
    → (size : ℕ) × (line_of s ≡ Some (line e.second e.letter size)) × (drop size s ≡ rest)
line_found s e rest h =
    let ds = h.digits in
    let c = e.letter in
    let t : List ℕ = 9 ∷ c ∷ 10 ∷ rest in
    let w : s ≡ event_tag ∷ 9 ∷ (ds ++ t) = h.text ∙ append_assoc (event_tag ∷ 9 ∷ ds) (9 ∷ c ∷ 10 ∷ []) rest in
    let n : length ds + 2 + 3 ≡ suc (suc (length ds + 3)) = omega arith in (
      length ds + 2 + 3,
      ap line_of w ∙ found_in ds rest e.second c h.decimal h.event,
      ap₂ (λ (k : ℕ) (u : List ℕ). drop k u) n w ∙ drop-append-add ds t 3,
    )
