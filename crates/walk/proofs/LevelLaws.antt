-- One number of a walk, from its parts. Assumes nothing.
use mathlib.Core.Path.{◌≡◌, refl, sym, ap, ◌∙◌, subst}
use mathlib.Core.Bool.{Bool, true, false, false≢true, true≢false, ◌&&◌}
use mathlib.Core.Logic.{◌⊎◌, inl, inr, ⊎_elim}
use mathlib.Core.List.{List}
use Prim.Native.Nat.{ℕ, ◌+◌, ◌-◌, ◌*◌, ◌/◌, ◌%◌, ◌≤◌, ◌<◌}
use native.Mathlib.Omega.{arith}
use lib.ListN.{length, get_or, replicate}
use Rattle.std.proofs.lemmas.Bool.{cases_lt}
use Rattle.bits.specs.Bit.{bit_at}
use Rattle.bits.specs.Runs.{tally_below, Adds}
use Rattle.bits.proofs.Digits.{same_or_not}
use Rattle.bits.proofs.Laws.{or_left, or_right, or_cases, zeros_bit}
use Rattle.bits.proofs.Tally.{tally_same}
use Rattle.moves.specs.Reached.{Reached, start, after}
use Rattle.moves.specs.Moves.{FreeMove}
use Rattle.table.specs.Layout.{block_at}
use Rattle.table.proofs.LayoutLaws.{row_span}
use Rattle.levels.specs.Sets.{InSet, Exactly, Among, AllLed}
use Rattle.levels.specs.Exits.{to_come, DueExit, Full, FullAt, has_span, SpanHere, StepHere, Entered, Begun, Saturated}
use Rattle.levels.proofs.SetLaws.{same_bits}
use Rattle.walk.proofs.Ready.{Ready}
use Rattle.walk.specs.Course.{Course, FreeStep, LetterStep, SpanStep, Step}
use Rattle.marks.specs.Marks.{PlaceOf, MarkedAt}
use Rattle.marks.specs.Steps.{NextExit}
use Rattle.walk.specs.Walks.{Pending, MarkedOrDue, SpanExit, Joins, LevelSet}

-- ---- tests that are joined

and_first : (x y : Bool) → (x && y) ≡ true → x ≡ true
and_first true y e = refl
and_first false y e = absurd (false≢true e)

and_second : (x y : Bool) → (x && y) ≡ true → y ≡ true
and_second true y e = e
and_second false y e = absurd (false≢true e)

and_both : (x y : Bool) → x ≡ true → y ≡ true → (x && y) ≡ true
and_both true y e f = f
and_both false y e f = absurd (false≢true e)

-- ---- an exit to come

-- the node of an exit to come
node_of : (s k : ℕ) → s % 2 ≡ 0 → k < 256 → (128 * s + k) / 256 ≡ s / 2
node_of s k e l =
    let d : 128 * s + k ≡ 256 * (s / 2) + k = omega arith in
    let f : (256 * (s / 2) + k) / 256 ≡ s / 2 = omega arith in
    rw (d, f)

-- where the exit q to come stands, its entry and its node
pub record Coming (q : ℕ) : Type 0 where
  pub place : ℕ
  pub is : place ≡ 128 * (q % 128 - 1) + q / 128
  pub small : place < 16384
  pub entry : 2 * (place / 256) ≡ q % 128 - 1
  pub node : place / 256 ≡ (q % 128 - 1) / 2
  pub number : place % 256 ≡ q / 128
  pub exit : q % 128 ≡ q % 128 - 1 + 1

pub coming_of : (q : ℕ) → q % 2 ≡ 1 → q / 128 < 256 → Coming q
coming_of q o l =
    let h : q % 128 % 2 ≡ 1 = omega arith in
    let e : (q % 128 - 1) % 2 ≡ 0 = omega arith in
    let n = node_of (q % 128 - 1) (q / 128) e l in
    record {
      place = 128 * (q % 128 - 1) + q / 128;
      is = refl;
      small = omega arith;
      entry = omega arith;
      node = n;
      number = omega arith;
      exit = omega arith;
    }

-- the entry of an exit to come is of an open node
pub open_entry : (x v : List ℕ) (q : ℕ) → Pending (to_come x v) q → q / 128 < 256 → bit_at v (q % 128 - 1) ≡ true
open_entry x v q u l =
    let c = coming_of q u.odd l in
    let b : to_come x v c.place ≡ true = ap (to_come x v) c.is ∙ u.bit in
    ap (bit_at v) (sym c.entry) ∙ and_first (bit_at v (2 * (c.place / 256))) (bit_at x c.place) b

-- ---- what `level` is given, and what it comes to

-- full nodes are left at number j
pub full_at : {x v f : List ℕ} (j n : ℕ) → j ≤ n → Full x v f j n → FullAt x v f j
full_at j n l u s k e = (u.are_open s k e, u.left s k e j (omega arith) l)

module _ (t : Course) (ready : Ready t) (j : ℕ) (jn : j ≤ length t.word) (a x v f : List ℕ) (inside : Among v t.specials)
    (full : Full x v f j (length t.word)) {d todo w : List ℕ} (due : Exactly (DueExit x v j) d)
    (marked : Adds d (MarkedAt a j) todo) (led : AllLed t.closed todo w) where
  -- a state that the walk is at
  todo_is : (s : ℕ) → bit_at todo s ≡ true → DueExit x v j s ⊎ MarkedAt a j s
  todo_is s h =
      ⊎_elim
      (λ (z : bit_at d s ≡ true).
      ⊎_elim (λ (k : bit_at (replicate 2 0) s ≡ true). absurd (false≢true (sym (zeros_bit 2 s) ∙ k))) (λ (k : DueExit x v j s). inl k)
      (due.only s z))
      (λ (z : MarkedAt a j s). inr z)
      (marked.only s h)

  todo_in : Among todo w
  todo_in s l h = led.all s s l l h (ready.reflexive s l)

  -- its closure is closed, and has the exits of the full nodes
  pub level_begun : Begun t.closed w f
  level_begun = record {
    closed = λ s r m h.
        let z = led.only s m.from h in
        led.all z.by r z.small m.to z.there (ready.transitive s z.by r m.from z.small m.to z.leads m.move);
    exits = λ s l h.
        let k = full.are_open s l h in
        let ev = ready.special s l (inside s l k) in
        todo_in (s + 1) (omega arith) (marked.old (s + 1) (due.new (s + 1) record {
          entry = s;
          exit = refl;
          small = l;
          is_open = k;
          bit = full.left s l h j (omega arith) jn;
        }));
  }

  module _ {e y u g : List ℕ} (sat : Saturated t.closed t.specials t.firsts t.table (length t.word) j w x v f e y u g) where
    -- ---- the states

    first : (s : ℕ) → s < 128 → bit_at todo s ≡ true → Reached (MarkedOrDue a (to_come x v) j) (Step t) (128 * j + s)
    first s l h =
        ⊎_elim
        (λ (z : DueExit x v j s).
        let k = z.small in
        let ex = z.exit in
        let ev = ready.special z.entry z.small (inside z.entry z.small z.is_open) in
        let m : (128 * j + s) % 128 - 1 ≡ z.entry = omega arith in
        let nr : (128 * j + s) / 128 ≡ j = omega arith in
        let od : (128 * j + s) % 2 ≡ 1 = omega arith in
        let jw = ready.word in
        let o : 2 * ((128 * z.entry + j) / 256) ≡ z.entry = let q = node_of z.entry j ev (omega arith) in omega arith in
        start (inr (
          nr,
          record {
            odd = od;
            bit = rw (m, nr) (and_both (bit_at v (2 * ((128 * z.entry + j) / 256))) (bit_at x (128 * z.entry + j))
                (ap (bit_at v) o ∙ z.is_open) z.bit);
          },
        )))
        (λ (z : MarkedAt a j s). start (inl z.there))
        (todo_is s h)

    -- steps that stay at number j
    abbrev Here : ℕ → ℕ → Type 0
    Here = StepHere t.closed t.specials t.firsts t.table (length t.word) j

    small : {s : ℕ} → Reached (InSet w) Here s → s < 128
    small (start h) = h.small
    small {s} (after {p} r h) =
        ⊎_elim (λ (k : FreeMove t.closed p s). k.to)
        (λ (k : SpanHere t.specials t.firsts t.table (length t.word) j p s).
        let ev = ready.special p k.small k.special in let l = k.small in let z = k.exit in omega arith) h

    free_on : {p s : ℕ} → FreeMove t.closed p s → Reached (MarkedOrDue a (to_come x v) j) (Step t) (128 * j + p)
        → Reached (MarkedOrDue a (to_come x v) j) (Step t) (128 * j + s)
    free_on {p} {s} k r =
        let lp = k.from in
        let l = k.to in
        let m : (128 * j + p) % 128 ≡ p = omega arith in
        let z : (128 * j + s) % 128 ≡ s = omega arith in
        after {q = 128 * j + s} r (inl record { number = omega arith; move = rw (m, z) k.move })

    lift : {s : ℕ} → Reached (InSet w) Here s → Reached (MarkedOrDue a (to_come x v) j) (Step t) (128 * j + s)
    lift {s} (start h) =
        let z = led.only s h.small h.there in
        free_on record { from = z.small; to = h.small; move = z.leads } (first z.by z.small z.there)
    lift {s} (after {p} r h) =
        let sm = small r in
        let m : (128 * j + p) % 128 ≡ p = omega arith in
        let nr : (128 * j + p) / 128 ≡ j = omega arith in
        ⊎_elim (λ (k : FreeMove t.closed p s). free_on k (lift r))
        (λ (k : SpanHere t.specials t.firsts t.table (length t.word) j p s).
        let l = k.small in let z = k.exit in
        let ev = ready.special p k.small k.special in
        let o : (128 * j + s) / 128 ≡ j = omega arith in
        after {q = 128 * j + s} (lift r) (inr (inr record {
          exit = omega arith;
          from = omega arith;
          to = omega arith;
          special = rw m k.special;
          span = rw (m, nr, o)
              (sym (row_span t.table (block_at (get_or t.firsts (p / 2) 0) (length t.word)) j j (omega arith) jn) ∙ k.span);
        })))
        h

    -- ---- the exits to come

    -- a node is entered, was full, or stays as it was
    entered_or_not : (s : ℕ) → s < 128 → Entered t.specials f e s ⊎ (Entered t.specials f e s → ⊥)
    entered_or_not s l = by_tests (bit_at e s) (bit_at t.specials s) (bit_at f s) refl refl refl
      where
        by_tests : (p q r : Bool) → bit_at e s ≡ p → bit_at t.specials s ≡ q → bit_at f s ≡ r
            → Entered t.specials f e s ⊎ (Entered t.specials f e s → ⊥)
        by_tests true true false p q r = inl record { small = l; there = p; special = q; fresh = r }
        by_tests false q r p i k = inr (λ z. false≢true (sym p ∙ z.there))
        by_tests true false r p i k = inr (λ z. false≢true (sym i ∙ z.special))
        by_tests true true true p i k = inr (λ z. true≢false (sym k ∙ z.fresh))

    opened_as : (s : ℕ) → (Entered t.specials f e s → ⊥) → bit_at u s ≡ bit_at v s
    opened_as s ne =
        same_bits (bit_at u s) (bit_at v s)
        (λ h. ⊎_elim (λ (z : bit_at v s ≡ true). z) (λ z. absurd (ne z)) (sat.opened.only s h)) (sat.opened.old s)

    -- what is to come of a node that is entered, and of another
    joined_to : (q : ℕ) → Entered t.specials f e (2 * (q / 256)) → (to_come x v q ≡ true) ⊎ (has_span t.firsts t.table (length t.word) (q / 256) j (q % 256) ≡ true)
        → to_come y u q ≡ true
    joined_to q h z =
        and_both (bit_at u (2 * (q / 256))) (bit_at y q) (sat.opened.new (2 * (q / 256)) h)
        (sat.joined q h
        ∙ ⊎_elim (λ (k : to_come x v q ≡ true). or_left (to_come x v q) _ k) (λ k. or_right (to_come x v q) _ k) z)

    kept_as : (q : ℕ) → (Entered t.specials f e (2 * (q / 256)) → ⊥) → to_come y u q ≡ to_come x v q
    kept_as q ne = rw (opened_as (2 * (q / 256)) ne, sat.kept q ne)

    level_exits : Joins j (length t.word) (to_come x v) (SpanExit t j e) (to_come y u)
    level_exits = record {
      old = λ q h.
          ⊎_elim
          (λ (l : 2 * (q / 256) < 128).
          ⊎_elim (λ (z : Entered t.specials f e (2 * (q / 256))). joined_to q z (inl h))
          (λ (z : Entered t.specials f e (2 * (q / 256)) → ⊥). kept_as q z ∙ h) (entered_or_not (2 * (q / 256)) l))
          (λ (l : 128 ≤ 2 * (q / 256)). kept_as q (λ z. let k = z.small in omega arith) ∙ h)
          (cases_lt (2 * (q / 256)) 128);
      new = λ q h lo hi.
          let i = h.small in
          let l : 2 * (q / 256) < 128 = omega arith in
          ⊎_elim (λ (z : Entered t.specials f e (2 * (q / 256))). joined_to q z (inr h.span))
          (λ (z : Entered t.specials f e (2 * (q / 256)) → ⊥).
          let k : bit_at f (2 * (q / 256)) ≡ true = was_full (2 * (q / 256)) l h.entry h.special z in
          let p : q ≡ 128 * (2 * (q / 256)) + q % 256 = omega arith in
          kept_as q z
          ∙ and_both (bit_at v (2 * (q / 256))) (bit_at x q) (full.are_open (2 * (q / 256)) l k)
          (ap (bit_at x) p ∙ full.left (2 * (q / 256)) l k (q % 256) lo hi))
          (entered_or_not (2 * (q / 256)) l);
      only = λ q i h.
          let l : 2 * (q / 256) < 128 = omega arith in
          ⊎_elim
          (λ (z : Entered t.specials f e (2 * (q / 256))).
          ⊎_elim (λ (k : to_come x v q ≡ true). inl k)
          (λ k. inr record { small = i; entry = z.there; special = z.special; span = k })
          (or_cases (to_come x v q) _ (sym (sat.joined q z) ∙ and_second (bit_at u (2 * (q / 256))) (bit_at y q) h)))
          (λ (z : Entered t.specials f e (2 * (q / 256)) → ⊥). inl (sym (kept_as q z) ∙ h))
          (entered_or_not (2 * (q / 256)) l);
    }
      where
        was_full : (s : ℕ) → s < 128 → bit_at e s ≡ true → bit_at t.specials s ≡ true → (Entered t.specials f e s → ⊥) → bit_at f s ≡ true
        was_full s l p q ne = by_test (bit_at f s) refl
          where
            by_test : (r : Bool) → bit_at f s ≡ r → r ≡ true
            by_test true k = refl
            by_test false k = absurd (ne record { small = l; there = p; special = q; fresh = k })

    pub level_law : LevelSet t j a (to_come x v) e (to_come y u) u
    level_law = record {
      marked = λ s l h. sat.all s l (todo_in s l (marked.new s record { small = l; there = h }));
      waiting = λ p m h.
          let jw = ready.word in
          let c = coming_of p h.odd (omega arith) in
          let ex = c.exit in
          let k = open_entry x v p h (omega arith) in
          let b : to_come x v c.place ≡ true = ap (to_come x v) c.is ∙ h.bit in
          sat.all (p % 128) (omega arith) (todo_in (p % 128) (omega arith) (marked.old (p % 128) (due.new (p % 128) record {
            entry = p % 128 - 1;
            exit = ex;
            small = omega arith;
            is_open = k;
            bit = rw m at (ap (bit_at x) (sym c.is) ∙ and_second (bit_at v (2 * (c.place / 256))) (bit_at x c.place) b);
          })));
      only = λ s l h. lift (sat.only s l h);
      free = sat.free;
      here = sat.here;
      exits = level_exits;
      inside = λ s l h. ⊎_elim (λ (z : bit_at v s ≡ true). inside s l z) (λ z. z.special) (sat.opened.only s h);
    }

    -- full nodes are open after the number
    pub level_full : Full y u g (j + 1) (length t.word)
    level_full = record {
      two = sat.lengths.1 ∙ full.two;
      are_open = λ s l h.
          ⊎_elim (λ (z : bit_at f s ≡ true). sat.opened.old s (full.are_open s l z)) (λ z. sat.opened.new s z.0) ((sat.full s l).0 h);
      left = λ s l h.
          ⊎_elim
          (λ (z : bit_at f s ≡ true) i lo hi.
          let ev = ready.special s l (inside s l (full.are_open s l z)) in
          let jw = ready.word in
          let o : 2 * ((128 * s + i) / 256) ≡ s = let q = node_of s i ev (omega arith) in omega arith in
          sat.kept (128 * s + i) (λ k. true≢false (sym z ∙ ap (bit_at f) (sym o) ∙ k.fresh)) ∙ full.left s l z i (omega arith) hi)
          (λ z. z.1) ((sat.full s l).0 h);
    }

-- ---- a number that is passed

module _ (t : Course) (ready : Ready t) (j : ℕ) (jn : j ≤ length t.word) {a e b u : List ℕ} {X Y : ℕ → Bool}
    (set : LevelSet t j a X e Y u) (marked : Adds a (PlaceOf e j) b) where
  -- the marks at number j are the set
  to_set : (q : ℕ) → q / 128 ≡ j → bit_at b q ≡ true → bit_at e (q % 128) ≡ true
  to_set q n d =
      ⊎_elim
      (λ (z : bit_at a q ≡ true). let k : q ≡ 128 * j + q % 128 = omega arith in set.marked (q % 128) (omega arith) (rw k at z))
      (λ (z : PlaceOf e j q). z.there)
      (marked.only q d)

  from_place : (q : ℕ) → q / 128 ≡ j → bit_at e (q % 128) ≡ true → bit_at b q ≡ true
  from_place q n d = marked.new q record { number = n; there = d }

  pub below_b : (q : ℕ) → q / 128 < j → bit_at b q ≡ true → bit_at a q ≡ true
  below_b q n d =
      ⊎_elim (λ (z : bit_at a q ≡ true). z) (λ (z : PlaceOf e j q). let i = z.number in absurd (omega arith)) (marked.only q d)

  pub only_b : (q : ℕ) → bit_at b q ≡ true → Reached (MarkedOrDue a X j) (Step t) q
  only_b q d =
      ⊎_elim (λ (z : bit_at a q ≡ true). start (inl z))
      (λ (z : PlaceOf e j q).
      let n = z.number in
      let k : 128 * j + q % 128 ≡ q = omega arith in
      subst (Reached (MarkedOrDue a X j) (Step t)) k (set.only (q % 128) (omega arith) z.there))
      (marked.only q d)

  pub waiting_b : (p : ℕ) → p / 128 ≡ j → Pending X p → bit_at b p ≡ true
  waiting_b p n u = from_place p n (set.waiting p n u)

  pub above_b : (q : ℕ) → bit_at b q ≡ true → (bit_at a q ≡ true) ⊎ (q / 128 ≤ j)
  above_b q d = ⊎_elim (λ (z : bit_at a q ≡ true). inl z) (λ (z : PlaceOf e j q). let n = z.number in inr (omega arith)) (marked.only q d)

  -- steps that stay at number j
  pub stays_b : (p q : ℕ) → p / 128 ≡ j → q / 128 ≡ j → bit_at b p ≡ true → Step t p q → bit_at b q ≡ true
  stays_b p q n z d g =
      let s = to_set p n d in
      ⊎_elim
      (λ (h : FreeStep t.closed p q).
      from_place q z (set.free (p % 128) (q % 128) record { from = omega arith; to = omega arith; move = h.move } s))
      (λ g'.
      ⊎_elim (λ (h : LetterStep t.letters t.word p q). let k = h.exit in absurd (omega arith))
      (λ (h : SpanStep t.specials t.firsts t.table (length t.word) p q).
      from_place q z (set.here (p % 128) (q % 128) record {
        small = omega arith;
        special = h.special;
        exit = h.exit;
        span =
            row_span t.table (block_at (get_or t.firsts (p % 128 / 2) 0) (length t.word)) j j (omega arith) jn
            ∙ rw (n, z) at h.span;
      } s))
      g')
      g

  module _ {c : List ℕ} (read : Adds b (NextExit t.letters t.word e j) c) where
    -- letters lead to later numbers
    pub back : (q : ℕ) → q / 128 ≤ j → bit_at c q ≡ true → bit_at b q ≡ true
    back q n d = ⊎_elim (λ (z : bit_at b q ≡ true). z) (λ z. let k = z.number in absurd (omega arith)) (read.only q d)

    -- a span that leads on
    span_on : (p q : ℕ) → p / 128 ≡ j → (q / 128 ≡ j → ⊥) → bit_at e (p % 128) ≡ true
        → SpanStep t.specials t.firsts t.table (length t.word) p q → (j < q / 128) × Pending Y q
    span_on p q n z s h =
        let f = h.from in let o = h.to in let ex = h.exit in
        let jw = ready.word in
        let ev = ready.special (p % 128) (omega arith) h.special in
        let od : q % 2 ≡ 1 = omega arith in
        let c = coming_of q od (omega arith) in
        let m : q % 128 - 1 ≡ p % 128 = omega arith in
        let i = c.entry ∙ m in
        let nr = c.number in
        let k = c.node ∙ ap (λ (r : ℕ). r / 2) m in
        let w : SpanExit t j e c.place = record {
          small = c.small;
          entry = rw i s;
          special = rw i h.special;
          span = rw (k, c.number)
              (row_span t.table (block_at (get_or t.firsts (p % 128 / 2) 0) (length t.word)) j (q / 128) (omega arith) o
              ∙ rw n at h.span);
        } in
        let there = set.exits.new c.place w (omega arith) (omega arith) in
        (omega arith, record { odd = od; bit = ap Y (sym c.is) ∙ there })

    pub closed_c : (p q : ℕ) → p / 128 ≡ j → bit_at c p ≡ true → Step t p q → (bit_at c q ≡ true) ⊎ ((j < q / 128) × Pending Y q)
    closed_c p q n d g =
        let o = back p (omega arith) d in
        let s = to_set p n o in
        ⊎_elim (λ (z : q / 128 ≡ j). inl (read.old q (stays_b p q n z o g)))
        (λ (z : q / 128 ≡ j → ⊥).
        ⊎_elim (λ (h : FreeStep t.closed p q). let k = h.number in absurd (z (omega arith)))
        (λ g'.
        ⊎_elim
        (λ (h : LetterStep t.letters t.word p q).
        let k = h.exit in
        let i = h.within in
        let ev = ready.letter (get_or t.word (p / 128) 0) (p % 128) (omega arith) h.event in
        inl (read.new q record {
          within = omega arith;
          number = omega arith;
          exit = record { state = p % 128; small = omega arith; exit = omega arith; there = s; letter = rw n at h.event };
        }))
        (λ (h : SpanStep t.specials t.firsts t.table (length t.word) p q). inr (span_on p q n z s h))
        g')
        g)
        (same_or_not (q / 128) j)

    pub only_c : (q : ℕ) → bit_at c q ≡ true → Reached (MarkedOrDue a X j) (Step t) q
    only_c q d =
        ⊎_elim (λ (z : bit_at b q ≡ true). only_b q z)
        (λ (z : NextExit t.letters t.word e j q).
        let p = z.exit in
        let i = p.small in
        let ex = p.exit in
        let nr = z.number in
        let m' : (128 * j + p.state) % 128 ≡ p.state = omega arith in
        let n' : (128 * j + p.state) / 128 ≡ j = omega arith in
        after (set.only p.state p.small p.there)
        (inr (inl record { exit = omega arith; within = rw n' z.within; event = rw (n', m') p.letter })))
        (read.only q d)

    pub above_c : (q : ℕ) → bit_at c q ≡ true → (bit_at a q ≡ true) ⊎ (q / 128 ≤ j + 1)
    above_c q d =
        ⊎_elim
        (λ (z : bit_at b q ≡ true). ⊎_elim (λ (z : bit_at a q ≡ true). inl z) (λ (z : q / 128 ≤ j). inr (omega arith)) (above_b q z))
        (λ (z : NextExit t.letters t.word e j q). let n = z.number in inr (omega arith))
        (read.only q d)

    pub tally_c : tally_below 128 (λ (s : ℕ). bit_at c (128 * j + s)) ≡ tally_below 128 (λ (s : ℕ). bit_at b (128 * j + s))
    tally_c =
        tally_same 128 _ _ (λ s l.
        same_bits (bit_at c (128 * j + s)) (bit_at b (128 * j + s)) (back (128 * j + s) (omega arith)) (read.old (128 * j + s)))
