-- Laws of texts written into a buffer: one behind another, and at its front. Assumes nothing.
use Prim.Native.Nat.{ℕ, zero, suc, ◌+◌, ◌-◌, ◌≤◌, ◌<◌}
use native.Mathlib.Omega.{arith}
use mathlib.Core.Path.{◌≡◌, refl, sym, ap, ap₂, ◌∙◌, subst}
use mathlib.Core.List.{List, [], ◌∷◌, ◌++◌, append_assoc, append-nil}
use lib.ListN.{length, get_or, take, drop, set, replicate, length-append, drop_of_length-le}
use lib.Seq.{sets, sets-eq, length-sets, drop-cons, take_at}
use borrow.Rule.Slice.PartMut.{put_mid, Post-is}
use Rattle.decimal.specs.Decimal.{decimal}
use Rattle.decimal.proofs.NumeralLaws.{decimal_length}
use Rattle.listing.specs.declared.Heading.{Heading}
use Rattle.listing.specs.Lines.{field, fields, line, head_line}
use Rattle.listing.specs.Written.{Written}
use Rattle.listing.specs.Writing.{HasRoom, Puts}
use Rattle.listing.specs.declared.fields.Writer.{Writer}

sets_append : (l : List ℕ) (i : ℕ) (s t : List ℕ) → sets l i (s ++ t) ≡ sets (sets l i s) (i + length s) t
sets_append l i [] t = let e : i ≡ i + 0 = omega arith in ap (λ (k : ℕ). sets l k t) e
sets_append l i (x ∷ s) t =
    let e : suc i + length s ≡ i + suc (length s) = omega arith in
    sets_append (set l i x) (suc i) s t ∙ ap (λ (k : ℕ). sets (sets (set l i x) (suc i) s) k t) e

pub written_none : (old : List ℕ) (at : ℕ) → Written old at [] old at
written_none old at = record { bytes = refl; upto = omega arith }

pub written_then : {old mid new s t : List ℕ} {at m e : ℕ} → Written old at s mid m → Written mid m t new e → Written old at (s ++ t) new e
written_then {old} {mid} {new} {s} {t} {at} f g = record {
  bytes = g.bytes ∙ ap₂ (λ (l : List ℕ) (k : ℕ). sets l k t) f.bytes f.upto ∙ sym (sets_append old at s t);
  upto = omega (arith, g.upto, f.upto, length-append s t);
}

-- a buffer keeps its length
pub written_long : {old s new : List ℕ} {at e : ℕ} → Written old at s new e → length new ≡ length old
written_long {old} {s} {new} {at} w = ap length w.bytes ∙ length-sets old at s

-- at the front of a buffer
pub written_front : {old s new : List ℕ} {e : ℕ} → Written old 0 s new e → 0 + length s ≤ length old → new ≡ s ++ drop (length s) old
written_front {old} {s} w h =
    let z : 0 + length s ≡ length s = omega arith in
    w.bytes ∙ sets-eq s old 0 h ∙ ap (λ (k : ℕ). s ++ drop k old) z

-- ---- rows of zeros
abbrev pub zeros : ℕ → List ℕ
zeros n = replicate n 0

pub drop_zeros : (n m : ℕ) → drop n (zeros m) ≡ zeros (m - n)
drop_zeros zero m = let e : m ≡ m - 0 = omega arith in ap zeros e
drop_zeros (suc n) zero = let e : 0 ≡ 0 - suc n = omega arith in ap zeros e
drop_zeros (suc n) (suc m) = let e : m - n ≡ suc m - suc n = omega arith in drop_zeros n m ∙ ap zeros e

-- ---- a writer: what it puts, one text behind another
pub puts_then : {old mid new : Writer} {s t : List ℕ} → Puts old s mid → Puts mid t new → Puts old (s ++ t) new
puts_then f g = record { same = g.same ∙ f.same; written = written_then f.written g.written }

pub puts_none : (w : Writer) → Puts w [] w
puts_none w = record { same = refl; written = written_none w.out.now w.at }

pub puts_as : {old new : Writer} {s t : List ℕ} → s ≡ t → Puts old s new → Puts old t new
puts_as {old} {new} e p = subst (λ (r : List ℕ). Puts old r new) e p

-- all of `whole` is written but `rest`
pub record PartPut (old : Writer) (whole rest : List ℕ) (mid : Writer) : Type 0 where
  pub done : List ℕ
  pub puts : Puts old done mid
  pub onward : done ++ rest ≡ whole

pub part_start : (w : Writer) (whole : List ℕ) → PartPut w whole whole w
part_start w whole = record { done = []; puts = puts_none w; onward = refl }

module _ {old mid : Writer} {whole rest : List ℕ} (u : PartPut old whole rest mid) where
  pub part_room : HasRoom old whole → HasRoom mid rest
  part_room h =
      let w = u.puts.written in
      omega (arith, ap length u.onward, length-append u.done rest, w.upto, written_long w)

  -- the next piece, and what is left behind it
  pub part_more : {new : Writer} {s : List ℕ} (left : List ℕ) → rest ≡ s ++ left → Puts mid s new → PartPut old whole left new
  part_more {s = s} left e p = record {
    done = u.done ++ s;
    puts = puts_then u.puts p;
    onward = append_assoc u.done s left ∙ ap (u.done ++◌) (sym e) ∙ u.onward;
  }

  pub part_piece_room : (s left : List ℕ) → rest ≡ s ++ left → HasRoom old whole → HasRoom mid s
  part_piece_room s left e h = omega (arith, part_room h, ap length e, length-append s left)

  pub part_done : rest ≡ [] → Puts old whole mid
  part_done e = puts_as (sym (append-nil u.done) ∙ ap (u.done ++◌) (sym e) ∙ u.onward) u.puts

-- a text that was copied to its place
pub copied : (old text now : List ℕ) (at : ℕ) → at + length text ≤ length old → now ≡ text
    → put_mid at (at + length text - at) old now ≡ sets old at text
copied old text now at h e =
    ap₂ (λ (t d : List ℕ). take at old ++ (t ++ d)) e (Post-is at (at + length text) old (omega arith))
    ∙ sym (append_assoc (take at old) text (drop (at + length text) old)) ∙ sym (sets-eq text old at h)

-- a number's digits, with zeros behind them
pub digits_text : {bytes shown : List ℕ} {len : ℕ} (x : ℕ)
    → (bytes ≡ decimal x ++ replicate (20 - length (decimal x)) 0) × (len ≡ length (decimal x)) → shown ≡ take len bytes → shown ≡ decimal x
digits_text {len = len} x digits e = e ∙ ap (take len) digits.0 ∙ take_at (decimal x) (zeros (20 - length (decimal x))) len (sym digits.1)

-- digit by digit
pub digits_on : (l : List ℕ) (i : ℕ) → i < length l → drop i l ≡ (get_or l i 0 ∷ []) ++ drop (i + 1) l
digits_on l i h = let e : suc i ≡ i + 1 = omega arith in drop-cons l i 0 h ∙ ap (λ (k : ℕ). get_or l i 0 ∷ drop k l) e

pub digits_end : (l : List ℕ) (i : ℕ) → length l ≤ i → drop i l ≡ []
digits_end l i h = drop_of_length-le l h

-- ---- a line, field by field
pub fields_on : (l : List ℕ) (i : ℕ) → i < length l → fields (drop i l) ≡ field (get_or l i 0) ++ fields (drop (i + 1) l)
fields_on l i h = let e : suc i ≡ i + 1 = omega arith in ap fields (drop-cons l i 0 h) ∙ ap (λ (k : ℕ). field (get_or l i 0) ++ fields (drop k l)) e

pub fields_end : (l : List ℕ) (i : ℕ) → length l ≤ i → fields (drop i l) ≡ 10 ∷ []
fields_end l i h = ap fields (drop_of_length-le l h)

pub field_added : (l : List ℕ) (i : ℕ) → i < length l
    → length (fields (drop i l)) ≡ 1 + length (decimal (get_or l i 0)) + length (fields (drop (i + 1) l))
field_added l i h =
    omega (arith, ap length (fields_on l i h), length-append (field (get_or l i 0)) (fields (drop (i + 1) l)))

pub fields_length : (x : ℕ) (l : List ℕ) → length (fields (x ∷ l)) ≡ length (field x) + length (fields l)
fields_length x l = length-append (field x) (fields l)

-- a line of two fields, which is short
pub line_length : (c x y : ℕ) → length (line c (x ∷ y ∷ [])) ≡ 2 + length (field x) + length (field y)
line_length c x y = omega (arith, fields_length x (y ∷ []), fields_length y [])

pub line_short : (c x y : ℕ) → 0 + length (line c (x ∷ y ∷ [])) ≤ 44
line_short c x y = omega (arith, line_length c x y, decimal_length x, decimal_length y)

pub head_length : (h : Heading) → length (head_line h)
    ≡ 2 + length (field h.n) + length (field h.m) + length (field h.k) + length (field h.found) + length (field h.count)
head_length h =
    let last = h.count ∷ [] in
    let e = fields_length h.n (h.m ∷ h.k ∷ h.found ∷ last) in
    let f = fields_length h.m (h.k ∷ h.found ∷ last) in
    omega (arith, e, f, fields_length h.k (h.found ∷ last), fields_length h.found last, fields_length h.count [])

pub head_short : (h : Heading) → length (head_line h) ≤ 107
head_short h =
    omega (arith, head_length h, decimal_length h.n, decimal_length h.m, decimal_length h.k, decimal_length h.found, decimal_length h.count)
