-- The law of events for the crates above, whichever letters the events are: none is a reserved number. Assumes nothing.
use Prim.Native.Nat.{ℕ, ◌≤◌}
use native.Mathlib.Omega.{arith}
use mathlib.Core.Path.{◌≡◌, refl}
use mathlib.Core.Logic.{◌⊎◌, inl, inr, ⊎_elim}
use mathlib.Core.Bool.{false, not, ◌&&◌, ◌||◌}
use lib.Dec.{T, leb, leb→le, eqb, not_T}
use borrow.Author.Tests.{ne_eqb, eqb-true, not-true}
use Rattle.event.specs.Event.{is_event}
use Rattle.event.specs.Letters.{is_reserved}
use Rattle.event.proofs.Tests.{and_split, or_split, of_T}

-- a number that passes the test of a run is in it
in_run : (l u b : ℕ) → T (leb l b && leb b u) → (l ≤ b) × (b ≤ u)
in_run l u b h =
    let p = and_split (leb l b) (leb b u) h in
    (leb→le l b p.0, leb→le b u p.1)

-- an event is in one of the two runs
pub runs : (b : ℕ) → T (is_event b) → ((65 ≤ b) × (b ≤ 90)) ⊎ ((97 ≤ b) × (b ≤ 122))
unfolding is_event
runs b h = ⊎_elim (λ x. inl (in_run 65 90 b x)) (λ x. inr (in_run 97 122 b x)) (or_split (leb 65 b && leb b 90) (leb 97 b && leb b 122) h)

-- a reserved number, case by case
reserved_none : (c : ℕ) → T (is_reserved c) → (c ≤ 57 → ⊥) → (c ≡ 124 → ⊥) → (c ≡ 60 → ⊥) → (c ≡ 62 → ⊥) → (c ≡ 91 → ⊥) → (c ≡ 93 → ⊥) → ⊥
reserved_none c r low bar less more open' close =
    let same : (d : ℕ) → T (eqb c d) → c ≡ d = λ d x. eqb-true c d (of_T (eqb c d) x) in
    let a = leb c 57 in
    let b = a || eqb c 124 in
    let d = b || eqb c 60 in
    let e = d || eqb c 62 in
    let f = e || eqb c 91 in
    ⊎_elim (λ u.
    ⊎_elim (λ v.
    ⊎_elim (λ w.
    ⊎_elim (λ y.
    ⊎_elim (λ x. low (leb→le c 57 x)) (λ x. bar (same 124 x)) (or_split a (eqb c 124) y))
    (λ x. less (same 60 x)) (or_split b (eqb c 60) w))
    (λ x. more (same 62 x)) (or_split d (eqb c 62) v))
    (λ x. open' (same 91 x)) (or_split e (eqb c 91) u))
    (λ x. close (same 93 x)) (or_split f (eqb c 93) r)

-- an event is no operator, digit, parenthesis or bracket
pub event_apart : (b c : ℕ) → T (is_event b) → T (is_reserved c) → b ≡ c → ⊥
event_apart b c h r e =
    ⊎_elim
    (λ x. reserved_none c r (λ l. omega (arith, x)) (λ l. omega (arith, x)) (λ l. omega (arith, x)) (λ l. omega (arith, x)) (λ l. omega (arith, x)) (λ l. omega (arith, x)))
    (λ x. reserved_none c r (λ l. omega (arith, x)) (λ l. omega (arith, x)) (λ l. omega (arith, x)) (λ l. omega (arith, x)) (λ l. omega (arith, x)) (λ l. omega (arith, x)))
    (runs b h)

-- the same as a test
pub event_not : (b c : ℕ) → T (is_event b) → T (is_reserved c) → eqb b c ≡ false
event_not b c h r = ne_eqb b c (event_apart b c h r)

-- and none of those is an event; 0 among them, which is read where a text has ended
pub reserved_foreign : (c : ℕ) → T (is_reserved c) → is_event c ≡ false
reserved_foreign c r = not-true (is_event c) (of_T (not (is_event c)) (not_T (is_event c) (λ h. event_apart c c h r refl)))
