-- The one day of two: nothing is lost or added, its definition determines it, and the computed one has it. Assumes nothing.
use Prim.Native.Nat.{ℕ, suc, ◌+◌, ◌≤◌, ◌<◌}
use native.Mathlib.Omega.{arith}
use mathlib.Core.Path.{◌≡◌, refl, sym, ap, ap₂, subst}
use mathlib.Core.List.{List, [], ◌∷◌, ◌++◌, map}
use lib.Dec.{leb}
use lib.ListN.{length}
use borrow.Author.Tests.{leb-true, leb-false}
use Rattle.event.proofs.Tests.{choose}
use Rattle.day.specs.DayFile.{DayEvent, Lines, done, more}
use Rattle.day.specs.DayMeaning.{Whole}
use Rattle.merge.specs.Merged.{FileEvent, of_first, of_second, event_of, first_events, second_events, Before, Merged}
use Rattle.merge.specs.Merged.{Interleaving, none, from_first, from_second}
use Rattle.merge.specs.MergeComputed.{placed, merged}

-- ---- 02 g): "Each file's own order is kept, nothing is lost and nothing is added."
-- each file's events, in order, are what is left when the other's are taken away
pub taken_apart : {a b : List DayEvent} {l : List FileEvent} → Interleaving a b l → (first_events l ≡ a) × (second_events l ≡ b)
taken_apart none = (refl, refl)
taken_apart (from_first {e = e} i) = let (p, q) = taken_apart i in (ap (λ (x : List DayEvent). e ∷ x) p, q)
taken_apart (from_second {e = e} i) = let (p, q) = taken_apart i in (p, ap (λ (x : List DayEvent). e ∷ x) q)

-- .. and that says it all
pub put_together : (l : List FileEvent) → Interleaving (first_events l) (second_events l) l
put_together [] = none
put_together (of_first e ∷ l) = from_first (put_together l)
put_together (of_second e ∷ l) = from_second (put_together l)

-- the number of events is the sum
pub number_together : {a b : List DayEvent} {l : List FileEvent} → Interleaving a b l → length l ≡ length a + length b
number_together none = refl
number_together (from_first i) = omega (arith, number_together i)
number_together (from_second i) = omega (arith, number_together i)

-- ---- the definition determines the day
-- x stands in l
record Stands (l : List FileEvent) (x : FileEvent) : Type 0 where
  front : List FileEvent
  rest : List FileEvent
  parted : l ≡ front ++ x ∷ rest

nothing : (e : DayEvent) (l : List DayEvent) → [] ≡ e ∷ l → ⊥
nothing e l p = let n = ap length p in omega arith

later : {l : List FileEvent} {x : FileEvent} (z : FileEvent) → Stands l x → Stands (z ∷ l) x
later z s = record { front = z ∷ s.front; rest = s.rest; parted = ap (λ (t : List FileEvent). z ∷ t) s.parted }

first_stands : (l : List FileEvent) (e : DayEvent) (a : List DayEvent) → first_events l ≡ e ∷ a → Stands l (of_first e)
first_stands [] e a p = absurd (nothing e a p)
first_stands (of_first f ∷ l) e a p =
    let q : f ≡ e = cc in record { front = []; rest = l; parted = ap (λ (x : DayEvent). of_first x ∷ l) q }
first_stands (of_second f ∷ l) e a p = later (of_second f) (first_stands l e a p)

second_stands : (l : List FileEvent) (e : DayEvent) (b : List DayEvent) → second_events l ≡ e ∷ b → Stands l (of_second e)
second_stands [] e b p = absurd (nothing e b p)
second_stands (of_first f ∷ l) e b p = later (of_first f) (second_stands l e b p)
second_stands (of_second f ∷ l) e b p =
    let q : f ≡ e = cc in record { front = []; rest = l; parted = ap (λ (x : DayEvent). of_second x ∷ l) q }

head_before : {l : List FileEvent} {y : FileEvent} (x : FileEvent) → Stands l y → Before (x ∷ l) x y
head_before x s = record { front = []; between = s.front; rest = s.rest; parted = ap (λ (t : List FileEvent). x ∷ t) s.parted }

tail_before : {l : List FileEvent} {x y : FileEvent} (z : FileEvent) → Before l x y → Before (z ∷ l) x y
tail_before z b =
    record { front = z ∷ b.front; between = b.between; rest = b.rest; parted = ap (λ (t : List FileEvent). z ∷ t) b.parted }

-- what `Merged` says of the order
record Ordered (l : List FileEvent) : Type 0 where
  rising : (x y : FileEvent) → Before l x y → (event_of x).second ≤ (event_of y).second
  first_first : (x y : DayEvent) → Before l (of_second x) (of_first y) → x.second ≡ y.second → ⊥

tail_ordered : {l : List FileEvent} (z : FileEvent) → Ordered (z ∷ l) → Ordered l
tail_ordered z o = record { rising = λ x y b. o.rising x y (tail_before z b); first_first = λ x y b. o.first_first x y (tail_before z b) }

-- two days of the same files do not begin with events of different files
clash : (e f : DayEvent) (l m : List FileEvent) → e ∷ first_events l ≡ first_events m → second_events l ≡ f ∷ second_events m
    → Ordered (of_first e ∷ l) → Ordered (of_second f ∷ m) → ⊥
clash e f l m p q o r =
    let u = o.rising (of_first e) (of_second f) (head_before (of_first e) (second_stands l f (second_events m) q)) in
    let b = head_before (of_second f) (first_stands m e (first_events l) (sym p)) in
    let v = r.rising (of_second f) (of_first e) b in
    r.first_first f e b (omega arith)

same : (l m : List FileEvent) → first_events l ≡ first_events m → second_events l ≡ second_events m → Ordered l → Ordered m → l ≡ m
same [] [] p q o r = refl
same [] (of_first f ∷ m) p q o r = absurd (nothing f (first_events m) p)
same [] (of_second f ∷ m) p q o r = absurd (nothing f (second_events m) q)
same (of_first e ∷ l) [] p q o r = absurd (nothing e (first_events l) (sym p))
same (of_second e ∷ l) [] p q o r = absurd (nothing e (second_events l) (sym q))
same (of_first e ∷ l) (of_first f ∷ m) p q o r =
    let h : e ≡ f = cc in
    let t : first_events l ≡ first_events m = cc in
    ap₂ (λ (x : DayEvent) (k : List FileEvent). of_first x ∷ k) h (same l m t q (tail_ordered _ o) (tail_ordered _ r))
same (of_second e ∷ l) (of_second f ∷ m) p q o r =
    let h : e ≡ f = cc in
    let t : second_events l ≡ second_events m = cc in
    ap₂ (λ (x : DayEvent) (k : List FileEvent). of_second x ∷ k) h (same l m p t (tail_ordered _ o) (tail_ordered _ r))
same (of_first e ∷ l) (of_second f ∷ m) p q o r = absurd (clash e f l m p q o r)
same (of_second e ∷ l) (of_first f ∷ m) p q o r = absurd (clash f e m l (sym p) (sym q) r o)

ordered : {a b : List DayEvent} {l : List FileEvent} → Merged a b l → Ordered l
ordered m = record { rising = m.rising; first_first = m.first_first }

-- no two lists are the one day of the same two
pub merged_unique : {a b : List DayEvent} {l m : List FileEvent} → Merged a b l → Merged a b m → l ≡ m
merged_unique {a} {b} {l} {m} u v =
    let (p, q) = taken_apart u.interleaved in
    let (r, s) = taken_apart v.interleaved in
    let x : first_events l ≡ first_events m = cc in
    let y : second_events l ≡ second_events m = cc in
    same l m x y (ordered u) (ordered v)

-- ---- the computed day has the definition
abbrev pub All : {A : Type 0} → (A → Type 0) → List A → Type 0
All P [] = Unit
All P (x ∷ l) = P x × All P l

-- seconds that never fall, the first not below y
abbrev pub Climbs : ℕ → List DayEvent → Type 0
Climbs y [] = Unit
Climbs y (e ∷ l) = (y ≤ e.second) × Climbs e.second l

pub lines_climb : {y : ℕ} {s rest : List ℕ} {l : List DayEvent} → Lines y s l rest → Climbs y l
lines_climb done = tt
lines_climb (more h low high g) = (low, lines_climb g)

above : (x y : ℕ) (l : List DayEvent) → x ≤ y → Climbs y l → All (λ (e : DayEvent). x ≤ e.second) l
above x y [] h c = tt
above x y (e ∷ l) h c = (omega arith, above x e.second l (omega arith) c.1)

-- y may stand behind x
abbrev pub Follows : FileEvent → FileEvent → Type 0
Follows (of_first x) (of_first y) = x.second ≤ y.second
Follows (of_first x) (of_second y) = x.second ≤ y.second
Follows (of_second x) (of_first y) = x.second < y.second
Follows (of_second x) (of_second y) = x.second ≤ y.second

abbrev pub Sorted : List FileEvent → Type 0
Sorted [] = Unit
Sorted (x ∷ l) = All (Follows x) l × Sorted l

all_second : (P : FileEvent → Type 0) (b : List DayEvent) → All (λ (f : DayEvent). P (of_second f)) b → All P (map of_second b)
all_second P [] h = tt
all_second P (f ∷ b) h = (h.0, all_second P b h.1)

-- what holds of both files' events holds of the day's
module _ (P : FileEvent → Type 0) where
  all_placed : (e : DayEvent) (next : List DayEvent → List FileEvent) → P (of_first e)
      → ((b : List DayEvent) → All (λ (f : DayEvent). P (of_second f)) b → All P (next b))
      → (b : List DayEvent) → All (λ (f : DayEvent). P (of_second f)) b → All P (placed e next b)
  all_placed e next h n [] g = (h, n [] tt)
  all_placed e next h n (f ∷ b) g =
      choose (All P) (leb e.second f.second) (λ t. (h, n (f ∷ b) g)) (λ t. (g.0, all_placed e next h n b g.1))

  pub all_merged : (a b : List DayEvent) → All (λ (e : DayEvent). P (of_first e)) a → All (λ (f : DayEvent). P (of_second f)) b → All P (merged a b)
  unfolding merged
  all_merged [] b h g = all_second P b g
  all_merged (e ∷ a) b h g = all_placed e (merged a) h.0 (λ c k. all_merged a c h.1 k) b g

sorted_second : (y : ℕ) (b : List DayEvent) → Climbs y b → Sorted (map of_second b)
sorted_second y [] c = tt
sorted_second y (f ∷ b) c =
    (all_second (Follows (of_second f)) b (above f.second f.second b (omega arith) c.1), sorted_second f.second b c.1)

sorted_placed : (e : DayEvent) (a : List DayEvent) → Climbs e.second a
    → ((z : ℕ) (b : List DayEvent) → Climbs z b → Sorted (merged a b)) → (z : ℕ) (b : List DayEvent) → Climbs z b → Sorted (placed e (merged a) b)
sorted_placed e a c n z [] g = (all_merged (Follows (of_first e)) a [] (above e.second e.second a (omega arith) c) tt, n z [] tt)
sorted_placed e a c n z (f ∷ b) g =
    choose Sorted (leb e.second f.second)
    (λ t.
    let h = leb-true _ _ t in (
      all_merged (Follows (of_first e)) a (f ∷ b) (above e.second e.second a (omega arith) c) (h, above e.second f.second b h g.1),
      n z (f ∷ b) g,
    ))
    (λ t.
    let h = leb-false _ _ t in (
      all_placed (Follows (of_second f)) e (merged a) h
          (λ k u. all_merged (Follows (of_second f)) a k (above (suc f.second) e.second a h c) u) b
          (above f.second f.second b (omega arith) g.1),
      sorted_placed e a c n f.second b g.1,
    ))

pub sorted_merged : (y z : ℕ) (a b : List DayEvent) → Climbs y a → Climbs z b → Sorted (merged a b)
unfolding merged
sorted_merged y z [] b c g = sorted_second z b g
sorted_merged y z (e ∷ a) b c g = sorted_placed e a c.1 (λ x k u. sorted_merged e.second x a k c.1 u) z b g

at : (P : FileEvent → Type 0) (between rest : List FileEvent) (y : FileEvent) → All P (between ++ y ∷ rest) → P y
at P [] rest y h = h.0
at P (x ∷ between) rest y h = at P between rest y h.1

follows : (front between rest : List FileEvent) (x y : FileEvent) → Sorted (front ++ x ∷ between ++ y ∷ rest) → Follows x y
follows [] between rest x y s = at (Follows x) between rest y s.0
follows (z ∷ front) between rest x y s = follows front between rest x y s.1

pub not_before : (x y : FileEvent) → Follows x y → (event_of x).second ≤ (event_of y).second
not_before (of_first x) (of_first y) h = h
not_before (of_first x) (of_second y) h = h
not_before (of_second x) (of_first y) h = omega arith
not_before (of_second x) (of_second y) h = h

sorted_before : (l : List FileEvent) (x y : FileEvent) → Sorted l → Before l x y → Follows x y
sorted_before l x y s b = follows b.front b.between b.rest x y (subst Sorted b.parted s)

seconds_alone : (b : List DayEvent) → Interleaving [] b (map of_second b)
seconds_alone [] = none
seconds_alone (f ∷ b) = from_second (seconds_alone b)

placed_interleaved : (e : DayEvent) (a : List DayEvent) (next : List DayEvent → List FileEvent) → ((b : List DayEvent) → Interleaving a b (next b))
    → (b : List DayEvent) → Interleaving (e ∷ a) b (placed e next b)
placed_interleaved e a next n [] = from_first (n [])
placed_interleaved e a next n (f ∷ b) =
    choose (Interleaving (e ∷ a) (f ∷ b)) (leb e.second f.second) (λ t. from_first (n (f ∷ b)))
    (λ t. from_second (placed_interleaved e a next n b))

pub merged_interleaved : (a b : List DayEvent) → Interleaving a b (merged a b)
unfolding merged
merged_interleaved [] b = seconds_alone b
merged_interleaved (e ∷ a) b = placed_interleaved e a (merged a) (λ k. merged_interleaved a k) b

pub merged_means : {s t : List ℕ} {a b : List DayEvent} → Whole s a → Whole t b → Merged a b (merged a b)
merged_means {a = a} {b = b} u v =
    let s = sorted_merged 0 0 a b (lines_climb u.good) (lines_climb v.good) in
    record {
      interleaved = merged_interleaved a b;
      rising = λ x y h. not_before x y (sorted_before (merged a b) x y s h);
      first_first = λ x y h e. let k = sorted_before (merged a b) (of_second x) (of_first y) s h in omega arith;
    }

-- the one day of two files is the computed one
pub merged_only : {s t : List ℕ} {a b : List DayEvent} {l : List FileEvent} → Whole s a → Whole t b → Merged a b l → l ≡ merged a b
merged_only u v m = merged_unique m (merged_means u v)
