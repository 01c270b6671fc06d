-- The closure of the free moves: each row is completed by following its states. Assumes nothing.
use mathlib.Core.Path.{◌≡◌, refl, sym, ◌∙◌}
use mathlib.Core.Bool.{true, false≢true}
use mathlib.Core.Logic.{◌⊎◌, inl, inr, ⊎_elim}
use mathlib.Core.List.{List}
use Prim.Native.Nat.{ℕ, ◌+◌, ◌-◌, ◌*◌, ◌/◌, ◌%◌, ◌≤◌, ◌<◌}
use native.Mathlib.Omega.{arith}
use lib.ListN.{replicate}
use Rattle.bits.specs.Bit.{bit_at}
use Rattle.bits.specs.Runs.{tally_below, Put, Adds, RowOf, InRow, NoneFresh, Fresh}
use Rattle.std.proofs.lemmas.Bool.{cases_lt}
use Rattle.bits.proofs.Laws.{put_adds, adds_none, adds_then, adds_as, zeros_bit}
use Rattle.bits.proofs.Tally.{left_less}
use Rattle.moves.specs.Reached.{start, after}
use Rattle.moves.specs.Moves.{FreeMove, Leads, Closed}
use Rattle.moves.specs.Closing.{Through, Followed, Completed, OnDiagonal, LeaveBelow}
use Rattle.moves.proofs.Paths.{leads_on, leads_nowhere}

-- ---- a state of a row that is not followed yet

-- what is left of the states shrinks where one is followed that was not
pub next_less : {r d e : List ℕ} {k : ℕ} {P : ℕ → Type 0} → Fresh r d k → Adds d P e → P k
    → 128 - tally_below 128 (bit_at e) < 128 - tally_below 128 (bit_at d)
next_less {d = d} {e = e} {k = k} n f p = left_less 128 (bit_at d) (bit_at e) k f.old n.within n.fresh (f.new k p)

-- ---- rows that are merged

-- a bit of row k, in a number of another row
of_row : (a r : List ℕ) (k q : ℕ) → RowOf a k r → bit_at r (q % 128) ≡ bit_at a (128 * k + q % 128)
of_row a r k q e = e (q % 128) (omega arith)

pub through_law : (a : List ℕ) {c r : List ℕ} (s k : ℕ) → RowOf a k r → Adds a (InRow s r) c → Adds a (Through a s k) c
through_law a {r = r} s k e f =
    adds_as (λ q u. record { row = u.place; second = sym (of_row a r k q e) ∙ u.there })
    (λ q u. record { place = u.row; there = of_row a r k q e ∙ u.second }) f

-- ---- states that are followed

pub followed_late : {a b : List ℕ} (c : List ℕ) {s k : ℕ} → s ≤ k → Put a k b → Adds a (Followed c s k) b
followed_late c {k = k} l p =
    adds_as (λ q (e : q ≡ k). inl e) (λ q. ⊎_elim (λ (e : q ≡ k). e) (λ u. let v = u.0 in absurd (omega arith))) (put_adds p)

pub followed_early : (c : List ℕ) {a b d r : List ℕ} {s k : ℕ} → k < s → Put a k b → RowOf c k r → Adds b (InRow 0 r) d → Adds a (Followed c s k) d
followed_early c {r = r} {s} {k} l p e f =
    adds_as
    (λ q.
    ⊎_elim (λ (i : q ≡ k). inl i)
    (λ (u : InRow 0 r q). inr (l, record { row = u.place; second = sym (of_row c r k q e) ∙ u.there })))
    (λ q. ⊎_elim (λ (i : q ≡ k). inl i) (λ (u : (k < s) × Through c 0 k q). inr record { place = u.1.row; there = of_row c r k q e ∙ u.1.second }))
    (adds_then (put_adds p) f)

-- ---- the diagonal

pub diagonal_none : (a : List ℕ) → Adds a (OnDiagonal 0) a
diagonal_none a = adds_none a _ (λ q u. let r = u.row in omega arith)

pub diagonal_turn : {a b c : List ℕ} (s : ℕ) → s < 128 → Adds a (OnDiagonal s) b → Put b (129 * s) c → Adds a (OnDiagonal (s + 1)) c
diagonal_turn s l f g =
    adds_as
    (λ q.
    ⊎_elim (λ (v : OnDiagonal s q). let r = v.row in record { row = omega arith; same = v.same })
    (λ (v : q ≡ 129 * s). record { row = omega arith; same = omega arith }))
    (λ q u.
    let r = u.row in
    let e = u.same in
    ⊎_elim (λ (h : q / 128 < s). inl record { row = h; same = e }) (λ (h : s ≤ q / 128). inr (omega arith)) (cases_lt (q / 128) s))
    (adds_then f (put_adds g))

-- ---- one row

-- row s is being completed: it has what moves lead to from the states that are followed
pub record Completing (m : List ℕ) (s : ℕ) (c followed : List ℕ) : Type 0 where
  pub rows : Completed m s c
  pub onward : (k t : ℕ) → bit_at followed k ≡ true → FreeMove m k t → bit_at c (128 * s + t) ≡ true

pub completing_start : (m : List ℕ) (s : ℕ) (c : List ℕ) → Completed m s c → Completing m s c (replicate 2 0)
completing_start m s c f = record { rows = f; onward = λ k t e. absurd (false≢true (sym (zeros_bit 2 k) ∙ e)) }

module _ {m : List ℕ} {s k : ℕ} {b c d e r : List ℕ} (small : s < 128) (i : Completing m s b d) (row : RowOf b s r) (n : Fresh r d k)
    (f : Adds b (Through b s k) c) (g : Adds d (Followed c s k) e) where
  -- a pair is an old one, or, in row s, one of row k
  parts : (r t : ℕ) → t < 128 → bit_at c (128 * r + t) ≡ true → (bit_at b (128 * r + t) ≡ true) ⊎ ((r ≡ s) × (bit_at b (128 * k + t) ≡ true))
  parts r t v h =
      let x : (128 * r + t) / 128 ≡ r = omega arith in
      let y : (128 * r + t) % 128 ≡ t = omega arith in
      ⊎_elim (λ (u : bit_at b (128 * r + t) ≡ true). inl u)
      (λ (u : Through b s k (128 * r + t)). inr (sym x ∙ u.row, rw y at u.second))
      (f.only (128 * r + t) h)

  -- row s has what row k had
  joined : (t : ℕ) → t < 128 → bit_at b (128 * k + t) ≡ true → bit_at c (128 * s + t) ≡ true
  joined t v h =
      let y : (128 * s + t) % 128 ≡ t = omega arith in
      f.new (128 * s + t) record { row = omega arith; second = rw y h }

  rows_on : Completed m s c
  rows_on = record {
    has = λ q h. f.old q (i.rows.has q h);
    self = λ r v. f.old (128 * r + r) (i.rows.self r v);
    only = λ r t u v h.
        ⊎_elim (λ (x : bit_at b (128 * r + t) ≡ true). i.rows.only r t u v x)
        (λ (x : (r ≡ s) × (bit_at b (128 * k + t) ≡ true)).
        rw x.0 (leads_on (i.rows.only s k small n.within (sym (row k n.within) ∙ n.there)) (i.rows.only k t n.within v x.1)))
        (parts r t v h);
    complete = λ r u t l h x.
        ⊎_elim (λ (y : bit_at b (128 * r + u) ≡ true). f.old (128 * r + t) (i.rows.complete r u t l h y))
        (λ (y : (r ≡ s) × (bit_at b (128 * k + u) ≡ true)). let z = y.0 in absurd (omega arith))
        (parts r u h.from x);
  }

  -- a row before s is as it was
  kept : (t : ℕ) → t < 128 → k < s → bit_at c (128 * k + t) ≡ true → bit_at b (128 * k + t) ≡ true
  kept t v l h =
      ⊎_elim (λ (x : bit_at b (128 * k + t) ≡ true). x)
      (λ (x : (k ≡ s) × (bit_at b (128 * k + t) ≡ true)). x.1)
      (parts k t v h)

  pub completing_turn : Completing m s c e
  completing_turn = record {
    rows = rows_on;
    onward = λ u t h x.
        ⊎_elim (λ (y : bit_at d u ≡ true). f.old (128 * s + t) (i.onward u t y x))
        (⊎_elim (λ (y : u ≡ k). joined t x.to (i.rows.has (128 * k + t) (rw y at x.move)))
        (λ (y : (k < s) × Through c 0 k u).
        let z = y.1.row in
        let w : u % 128 ≡ u = omega arith in
        joined t x.to (kept t x.to y.0 (rows_on.complete k u t y.0 x (rw w at y.1.second)))))
        (g.only u h);
  }

pub completing_done : {m : List ℕ} {s : ℕ} {c d : List ℕ} (r : List ℕ) → Completing m s c d → RowOf c s r → NoneFresh r d → Completed m (s + 1) c
completing_done {m} {s} {c} {d} v i row n = record {
  has = i.rows.has;
  self = i.rows.self;
  only = i.rows.only;
  complete = λ r u t l x h.
      ⊎_elim (λ (y : r < s). i.rows.complete r u t y x h)
      (λ (y : s ≤ r).
      let z : r ≡ s = omega arith in
      rw z (i.onward u t (n u x.from (row u x.from ∙ (rw z at h))) x))
      (cases_lt r s);
}

-- ---- all rows

pub completed_start : {m c : List ℕ} → Adds m (OnDiagonal 128) c → Completed m 0 c
completed_start {m} {c} f = record {
  has = f.old;
  self = λ s l. f.new (128 * s + s) record { row = omega arith; same = omega arith };
  only = λ s t l k e.
      ⊎_elim (λ (x : bit_at m (128 * s + t) ≡ true). after (start refl) record { from = l; to = k; move = x })
      (λ (x : OnDiagonal 128 (128 * s + t)). let r = x.same in start (omega arith))
      (f.only (128 * s + t) e);
  complete = λ r k t l. absurd (omega arith);
}

-- every state that a move leaves has its row complete
pub completed_done : {m : List ℕ} (n : ℕ) → LeaveBelow n m → {c : List ℕ} → Completed m n c → Closed m c
completed_done {m} n low {c} g = record { only = g.only; all = λ s t l r. every s l r }
  where
    every : (s : ℕ) → s < 128 → {t : ℕ} → Leads m s t → bit_at c (128 * s + t) ≡ true
    every s l {t} (start e) = rw e (g.self s l)
    every s l {t} (after {p} r h) =
        ⊎_elim (λ (k : s < n). g.complete s p t k h (every s l r))
        (λ (k : n ≤ s). let e = leads_nowhere low k (after r h) in rw e (g.self s l))
        (cases_lt s n)
