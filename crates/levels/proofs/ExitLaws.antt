-- Exits to come: those that are due, nodes that are left at every number, and a row joined to them. Assumes nothing.
use mathlib.Core.Path.{◌≡◌, refl, sym, ap, ap₂, ◌∙◌}
use mathlib.Core.Bool.{Bool, true, false, ◌&&◌, ◌||◌, false≢true, true≢false}
use mathlib.Core.Logic.{inl, inr, ⊎_elim}
use mathlib.Core.List.{List}
use Prim.Native.Nat.{ℕ, ◌+◌, ◌-◌, ◌*◌, ◌/◌, ◌%◌, ◌^◌, ◌≤◌, ◌<◌}
use native.Mathlib.Omega.{arith}
use lib.ListN.{length, get_or, set, length-set}
use lib.Seq.{get_or-set_same, get_or-set_other}
use lib.Bits.{bit_or}
use borrow.Author.Tests.{ltb-true, ltb-false, lt-ltb}
use Rattle.std.proofs.lemmas.Bool.{cases_lt, cases_eq}
use Rattle.bits.specs.Bit.{has_bit, bit_at}
use Rattle.bits.specs.Runs.{Put, Adds, NoneLacks, Lowest, NoneFresh, Fresh}
use Rattle.bits.proofs.Digits.{zero_has, has_or, mask_has}
use Rattle.bits.proofs.Laws.{word_bit, put_adds, adds_none, adds_then, adds_as, or_cases}
use Rattle.levels.specs.Sets.{Exactly, Among}
use Rattle.levels.specs.Exits.{DueExit, FullAt, has_span}
use Rattle.levels.specs.Private.{PutIf, ExitOf, GapAt, PutFull, kept_if, RowJoined, NodeEntered}

-- ---- the loop over the keep nodes

-- what holds at each turn: of the keep nodes' entries v those of d are done, and the states a are b now
pub record Dues (x v : List ℕ) (j : ℕ) (d a b : List ℕ) : Type 0 where
  pub inside : Among d v
  pub adds : Adds a (DueExit x d j) b

-- an exit that is due of the entries d is one of those of e
due_of : {x d e : List ℕ} {j q : ℕ} (u : DueExit x d j q) → bit_at e u.entry ≡ true → DueExit x e j q
due_of u k = record { entry = u.entry; exit = u.exit; small = u.small; is_open = k; bit = u.bit }

module _ (x v : List ℕ) (j : ℕ) where
  -- the exits of full nodes are there
  pub dues_start : {f a : List ℕ} → FullAt x v f j → Exactly (ExitOf f) a → Dues x v j f a a
  dues_start {f} {a} full there = record {
    inside = λ s l e. (full s l e).0;
    adds = record {
      old = λ q e. e;
      new = λ q u. there.new q record { entry = u.entry; exit = u.exit; small = u.small; there = u.is_open };
      only = λ q e. inl e;
      long = refl;
    };
  }

  pub dues_done : {a b d : List ℕ} → Dues x v j d a b → NoneFresh v d → Adds a (DueExit x v j) b
  dues_done g none =
      adds_as (λ q u. due_of u (g.inside u.entry u.small u.is_open))
      (λ q u. due_of u (none u.entry u.small u.is_open)) g.adds

  pub dues_turn : {a b c d e : List ℕ} {s : ℕ} → Dues x v j d a b → Fresh v d s → Put d s e
      → Adds b (PutIf x (128 * s + j) (s + 1)) c → Dues x v j e a c
  dues_turn {a} {b} {c} {d} {e} {s} g m p h =
      record {
        inside = λ r k i. ⊎_elim (λ (y : bit_at d r ≡ true). g.inside r k y) (λ (y : r ≡ s). rw y m.there) ((put_adds p).only r i);
        adds = adds_as
            (λ q u.
            ⊎_elim (λ (y : DueExit x d j q). due_of y ((put_adds p).old y.entry y.is_open))
            (λ y. record { entry = s; exit = y.0; small = m.within; is_open = p.same; bit = y.1 }) u)
            (λ q u.
            ⊎_elim (λ (z : bit_at d u.entry ≡ true). inl (due_of u z))
            (λ (z : u.entry ≡ s). inr (rw z at u.exit, rw z at u.bit))
            ((put_adds p).only u.entry u.is_open))
            (adds_then g.adds h);
      }

-- an exit that is put, or not
pub put_if : (a : List ℕ) (p : ℕ) {b c : List ℕ} {q : ℕ} → bit_at a p ≡ true → Put b q c → Adds b (PutIf a p q) c
put_if a p e h = adds_as (λ t i. (i, e)) (λ t i. i.0) (put_adds h)

pub put_not : (a b : List ℕ) (p q : ℕ) → bit_at a p ≡ false → Adds b (PutIf a p q) b
put_not a b p q e = adds_none b _ (λ t i. false≢true (sym e ∙ i.1))

-- the exits of the full nodes f and those that are due are those that are due
pub due_law : {x v f b c : List ℕ} {j : ℕ} → FullAt x v f j → Exactly (ExitOf f) b → Adds b (DueExit x v j) c → Exactly (DueExit x v j) c
due_law {x} {v} {f} {j = j} full g h =
    adds_as
    (λ q d.
    ⊎_elim
    (λ (z : ExitOf f q).
    let k = full z.entry z.small z.there in
    record { entry = z.entry; exit = z.exit; small = z.small; is_open = k.0; bit = k.1 })
    (λ (z : DueExit x v j q). z) d)
    (λ q d. inr d)
    (adds_then g h)

-- ---- nodes that are left at every number

or_neither : (x y : Bool) → (x || y) ≡ false → (x ≡ false) × (y ≡ false)
or_neither true y e = absurd (true≢false e)
or_neither false y e = (refl, e)

all_has : (b : ℕ) → b < 64 → has_bit b 18446744073709551615 ≡ true
all_has b l = mask_has b 64 ∙ lt-ltb b 64 l

-- what holds at each turn, over number w of node i's row: it is left at every number from k on that comes before, and those that pass for
-- set come before k
pub record Gapless (x : List ℕ) (i k below w : ℕ) : Type 0 where
  pub left : (m : ℕ) → k ≤ m → m < 64 * w → bit_at x (256 * i + m) ≡ true
  pub passed : (b : ℕ) → has_bit b below ≡ true → 64 * w + b < k
  pub rest : (b : ℕ) → has_bit b below ≡ false → k ≤ 64 * w + b
  pub begun : k < 64 * w + 64

module _ (x : List ℕ) (i k : ℕ) where
  pub gap_start : (below : ℕ) → below ≡ 2 ^ (k % 64) - 1 → Gapless x i k below (k / 64)
  gap_start below e = record {
    left = λ m l h. absurd (omega arith);
    passed = λ b d.
        let l = ltb-true b (k % 64) (sym (ap (has_bit b) e ∙ mask_has b (k % 64)) ∙ d) in omega arith;
    rest = λ b d.
        let l = ltb-false b (k % 64) (sym (ap (has_bit b) e ∙ mask_has b (k % 64)) ∙ d) in omega arith;
    begun = omega arith;
  }

  module _ {below w : ℕ} (g : Gapless x i k below w) where
    -- what number w of the row shows up to its bit r
    gap_left : (r : ℕ) → r ≤ 64
        → ((b : ℕ) → b < r → has_bit b 18446744073709551615 ≡ true → has_bit b (bit_or (get_or x (4 * i + w) 0) below) ≡ true)
        → (m : ℕ) → k ≤ m → m < 64 * w + r → bit_at x (256 * i + m) ≡ true
    gap_left r n shown m l h =
        ⊎_elim (λ (z : m < 64 * w). g.left m l z)
        (λ (z : 64 * w ≤ m).
        let b = m - 64 * w in
        let e : 256 * i + m ≡ 64 * (4 * i + w) + b = omega arith in
        ap (bit_at x) e ∙ word_bit x (4 * i + w) b (omega arith)
        ∙ ⊎_elim (λ (y : has_bit b (get_or x (4 * i + w) 0) ≡ true). y)
        (λ (y : has_bit b below ≡ true). let p = g.passed b y in absurd (omega arith))
        (or_cases (has_bit b (get_or x (4 * i + w) 0)) (has_bit b below)
        (sym (has_or b (get_or x (4 * i + w) 0) below) ∙ shown b (omega arith) (all_has b (omega arith)))))
        (cases_lt m (64 * w))

    -- a number that is not left, in the row's number w
    pub gap_law : {r : ℕ} → w < 4 → Lowest 18446744073709551615 (bit_or (get_or x (4 * i + w) 0) below) r → GapAt x i k (64 * w + r)
    gap_law {r} v f =
        let l = f.within in
        let h = or_neither (has_bit r (get_or x (4 * i + w) 0)) (has_bit r below)
        (sym (has_or r (get_or x (4 * i + w) 0) below) ∙ f.fresh) in
        let e : 256 * i + (64 * w + r) ≡ 64 * (4 * i + w) + r = omega arith in
        record {
          within = omega arith;
          left = gap_left r (omega arith) f.below;
          from = g.rest r h.1;
          stops = ap (bit_at x) e ∙ word_bit x (4 * i + w) r l ∙ h.0;
        }

    pub gap_turn : NoneLacks 18446744073709551615 (bit_or (get_or x (4 * i + w) 0) below) → Gapless x i k 0 (w + 1)
    gap_turn f = record {
      left = λ m n h. gap_left 64 (omega arith) f m n (omega arith);
      passed = λ b d. absurd (false≢true (sym (zero_has b) ∙ d));
      rest = λ b d. let h = g.begun in omega arith;
      begun = let h = g.begun in omega arith;
    }

  pub gap_none : {below w : ℕ} → Gapless x i k below w → 4 ≤ w → (m : ℕ) → k ≤ m → m < 256 → bit_at x (256 * i + m) ≡ true
  gap_none g h m l n = g.left m l (omega arith)

pub put_full_law : {x f g : List ℕ} (s k n : ℕ) → s % 2 ≡ 0 → ((m : ℕ) → k ≤ m → m ≤ n → bit_at x (256 * (s / 2) + m) ≡ true) → Put f s g
    → PutFull x s k n f g
put_full_law {x} {f} s k n e left p = record {
  here = (
    λ _. inr (λ m i h. let q : 128 * s + m ≡ 256 * (s / 2) + m = omega arith in ap (bit_at x) q ∙ left m i h),
    λ _. p.same,
  );
  other = p.other;
  long = p.long;
}

pub put_full_none : (x f : List ℕ) (s k n r : ℕ) → s % 2 ≡ 0 → GapAt x (s / 2) k r → r ≤ n → PutFull x s k n f f
put_full_none x f s k n r e gap l =
    let q : 128 * s + r ≡ 256 * (s / 2) + r = omega arith in
    record {
      here = (λ d. inl d, ⊎_elim (λ d. d) (λ d. absurd (false≢true (sym gap.stops ∙ ap (bit_at x) (sym q) ∙ d r gap.from l))));
      other = λ t _. refl;
      long = refl;
    }

-- ---- a row joined

set_at : (b : List ℕ) (k v q : ℕ) → k < length b → q / 64 ≡ k → bit_at (set b k v) q ≡ has_bit (q % 64) v
unfolding bit_at
set_at b k v q l e = rw (e, get_or-set_same b k v 0 l)

set_apart : (b : List ℕ) (k v q : ℕ) → (q / 64 ≡ k → ⊥) → bit_at (set b k v) q ≡ bit_at b q
unfolding bit_at
set_apart b k v q ne = rw (get_or-set_other b k (q / 64) v 0 ne)

-- a number kept, or not
kept_has : (keep : Bool) (b z : ℕ) → has_bit b (kept_if keep z) ≡ (keep && has_bit b z)
kept_has true b z = refl
kept_has false b z = zero_has b

module _ (keep : Bool) (row : List ℕ) (i : ℕ) (x : List ℕ) where
  -- what holds before number w of the row
  pub record Joining (w : ℕ) (y : List ℕ) : Type 0 where
    pub few : w ≤ 4
    pub inside : (q : ℕ) → q / 256 ≡ i → q % 256 < 64 * w → bit_at y q ≡ (keep && bit_at x q || bit_at row (q % 256))
    pub outside : (q : ℕ) → (q / 256 ≡ i → 64 * w ≤ q % 256) → bit_at y q ≡ bit_at x q
    pub long : length y ≡ length x

  pub joining_start : Joining 0 x
  joining_start = record { few = omega arith; inside = λ q e l. absurd (omega arith); outside = λ q _. refl; long = refl }

  module _ {w v : ℕ} {y : List ℕ} (g : Joining w y) (l : w < 4) (room : 4 * i + 4 ≤ length x)
      (is : v ≡ kept_if keep (get_or y (4 * i + w) 0)) where
    put_here : (q : ℕ) → q / 64 ≡ 4 * i + w → bit_at (set y (4 * i + w) (bit_or v (get_or row w 0))) q ≡ (keep && bit_at x q || bit_at row (q % 256))
    put_here q e =
        let d : q % 256 ≡ 64 * w + q % 64 = omega arith in
        let n : q ≡ 64 * (4 * i + w) + q % 64 = omega arith in
        let b : q % 64 < 64 = omega arith in
        let k = g.long in
        set_at y (4 * i + w) _ q (omega arith) e
        ∙ has_or (q % 64) v (get_or row w 0)
        ∙ ap₂ ◌||◌
        (ap (has_bit (q % 64)) is ∙ kept_has keep (q % 64) (get_or y (4 * i + w) 0)
        ∙ ap (keep &&◌) (sym (ap (bit_at y) n ∙ word_bit y (4 * i + w) (q % 64) b) ∙ g.outside q (λ _. omega arith)))
        (sym (ap (bit_at row) d ∙ word_bit row w (q % 64) b))

    pub joining_turn : Joining (w + 1) (set y (4 * i + w) (bit_or v (get_or row w 0)))
    joining_turn = record {
      few = omega arith;
      inside = λ q e m.
          ⊎_elim (λ (z : q / 64 ≡ 4 * i + w). put_here q z)
          (λ (z : q / 64 ≡ 4 * i + w → ⊥). set_apart y (4 * i + w) _ q z ∙ g.inside q e (omega arith))
          (cases_eq (q / 64) (4 * i + w));
      outside = λ q m.
          set_apart y (4 * i + w) _ q (λ (z : q / 64 ≡ 4 * i + w). let d : q / 256 ≡ i = omega arith in let n = m d in omega arith)
          ∙ g.outside q (λ e. let n = m e in omega arith);
      long = length-set y (4 * i + w) _ ∙ g.long;
    }

  pub joining_done : {w : ℕ} {y : List ℕ} → Joining w y → 4 ≤ w → RowJoined keep row i x y
  joining_done g l = record {
    inside = λ q e. g.inside q e (omega arith);
    outside = λ q ne. g.outside q (λ e. absurd (ne e));
    long = g.long;
  }

-- ---- a special node entered

pub enter_law : {firsts table x v f y u g row : List ℕ} {n j s : ℕ} {keep : Bool} → s % 2 ≡ 0
    → ((k : ℕ) → k < 256 → bit_at row k ≡ has_span firsts table n (s / 2) j k) → keep ≡ bit_at v s → RowJoined keep row (s / 2) x y
    → Put v s u → PutFull y s (j + 1) n f g → NodeEntered firsts table n j s x v f y u g
enter_law {x = x} {v} {row = row} {s = s} ev read k joined o full = record {
  inside = λ q e.
      let z : 2 * (q / 256) ≡ s = omega arith in
      joined.inside q e
      ∙ ap₂ ◌||◌ (ap (◌&& bit_at x q) (k ∙ ap (bit_at v) (sym z))) (read (q % 256) (omega arith));
  outside = joined.outside;
  long = joined.long;
  opened = o;
  full = full;
}
