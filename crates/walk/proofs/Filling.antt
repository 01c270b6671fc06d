-- The loop over the starts of one owner: what holds before each start, and what it comes to. Assumes nothing.
use mathlib.Core.Path.{◌≡◌, refl, sym, ap, ◌∙◌}
use mathlib.Core.Bool.{Bool, true, false, false≢true, true≢false, cond}
use mathlib.Core.Logic.{inl, inr, ⊎_elim}
use mathlib.Core.List.{List}
use Prim.Native.Nat.{ℕ, zero, suc, ◌+◌, ◌*◌, ◌/◌, ◌%◌, ◌≤◌, ◌<◌}
use native.Mathlib.Numerals.{add-one}
use native.Mathlib.Omega.{arith}
use lib.Dec.{eqb}
use lib.ListN.{length, get_or, replicate}
use borrow.Author.Tests.{eq-eqb, ne_eqb, le-leb}
use Rattle.bits.specs.Bit.{bit_at}
use Rattle.bits.specs.Runs.{tally_below, Adds}
use Rattle.bits.proofs.Digits.{same_or_not}
use Rattle.bits.proofs.Laws.{zeros_bit}
use Rattle.moves.specs.Reached.{Reached, start, after}
use Rattle.levels.proofs.SetLaws.{same_bits}
use Rattle.table.specs.declared.Block.{Block}
use Rattle.table.specs.Layout.{block_at, span_bit, InBlock, SpanAt, RowSpan, Cleared}
use Rattle.table.proofs.LayoutLaws.{span_in, span_one}
use Rattle.marks.specs.declared.target.Target.{Target}
use Rattle.walk.proofs.Ready.{Ready}
use Rattle.walk.specs.Course.{Course, FreeStep, LetterStep, SpanStep, Step}
use Rattle.walk.specs.Filled.{block_of, Apart, sum_below, visits, Filled}
use Rattle.marks.specs.Marks.{StartsAt}
use Rattle.marks.specs.Rows.{judged}
use Rattle.walk.specs.Starts.{Started}
use Rattle.marks.specs.Rows.{row_of}

-- ---- walks over two tables that agree but for an owner's own block

-- the automaton with another table
abbrev pub with_table : Course → List ℕ → Course
with_table t b =
    record { closed = t.closed; letters = t.letters; specials = t.specials; firsts = t.firsts; word = t.word; table = b }

-- the tables c and d agree outside a block
abbrev SameOutside : (b : Block) (c d : List ℕ) → Type 0
SameOutside b c d = (q : ℕ) → (InBlock b q → ⊥) → bit_at c q ≡ bit_at d q

module _ {t : Course} (o : Target) (apart : Apart t o) (short : length t.word ≤ 255) where
  span_agree : (c d : List ℕ) → SameOutside (block_of t o) c d → (i p q : ℕ) → i ≤ length t.word → Reached (StartsAt o i) (Step t) p
      → SpanStep t.specials t.firsts c (length t.word) p q → SpanStep t.specials t.firsts d (length t.word) p q
  span_agree c d agree i p q h e f =
      let s = block_at (get_or t.firsts (p % 128 / 2) 0) (length t.word) in
      let z = span_in s short f.from f.to in
      let lo = z.from in
      let hi = z.to in
      record {
        exit = f.exit;
        from = f.from;
        to = f.to;
        special = f.special;
        span =
            sym (agree (span_bit s (p / 128) (q / 128)) (λ y.
            let from = y.from in
            let to = y.to in
            ⊎_elim (λ v. omega arith) (λ v. omega arith) (apart i p h e f.special)))
            ∙ f.span;
      }

  step_agree : (c d : List ℕ) → SameOutside (block_of t o) c d → (i p q : ℕ) → i ≤ length t.word → Reached (StartsAt o i) (Step t) p
      → Step (with_table t c) p q → Step (with_table t d) p q
  step_agree c d agree i p q h e u =
      ⊎_elim (λ (f : FreeStep t.closed p q). inl f)
      (λ v.
      ⊎_elim (λ (f : LetterStep t.letters t.word p q). inr (inl f))
      (λ (f : SpanStep t.specials t.firsts c (length t.word) p q). inr (inr (span_agree c d agree i p q h e f))) v)
      u

  reached_to : (b : List ℕ) → SameOutside (block_of t o) b t.table → (i : ℕ) {q : ℕ} → i ≤ length t.word
      → Reached (StartsAt o i) (Step t) q → Reached (StartsAt o i) (Step (with_table t b)) q
  reached_to b agree i h (start s) = start s
  reached_to b agree i {q} h (after {p} v u) =
      after (reached_to b agree i h v) (step_agree t.table b (λ k z. sym (agree k z)) i p q h v u)

  reached_back : (b : List ℕ) → SameOutside (block_of t o) b t.table → (i : ℕ) {q : ℕ} → i ≤ length t.word
      → Reached (StartsAt o i) (Step (with_table t b)) q → Reached (StartsAt o i) (Step t) q
  reached_back b agree i h (start s) = start s
  reached_back b agree i {q} h (after {p} v u) =
      let e = reached_back b agree i h v in after e (step_agree b t.table agree i p q h e u)

-- ---- the marks of the starts

sum_same : (f g : ℕ → ℕ) (k : ℕ) → ((i : ℕ) → i < k → f i ≡ g i) → sum_below f k ≡ sum_below g k
unfolding sum_below
sum_same f g zero h = refl
sum_same f g (suc k) h = let e = sum_same f g k (λ i l. h i (omega arith)) in let d = h k (omega arith) in omega arith

sum_more : (f : ℕ → ℕ) (k : ℕ) → sum_below f (k + 1) ≡ f k + sum_below f k
unfolding sum_below
sum_more f k = rw add-one

-- f with m at i
with_at : (ℕ → List ℕ) → ℕ → List ℕ → ℕ → List ℕ
with_at f i m k = cond (eqb k i) m (f k)

with_same : (f : ℕ → List ℕ) (i : ℕ) (m : List ℕ) → with_at f i m i ≡ m
unfolding with_at
with_same f i m = rw (eq-eqb i i refl)

with_other : (f : ℕ → List ℕ) (i : ℕ) (m : List ℕ) (k : ℕ) → (k ≡ i → ⊥) → with_at f i m k ≡ f k
unfolding with_at
with_other f i m k n = rw (ne_eqb k i n)

-- how many places a walk's marks have, over a word of n events
abbrev size_of : (n : ℕ) → List ℕ → ℕ
size_of n marks = tally_below (128 * (n + 1)) (bit_at marks)

-- the starts before i have as many places
visits_same : (f : ℕ → List ℕ) (i : ℕ) (m : List ℕ) (n : ℕ) → visits (with_at f i m) n i ≡ visits f n i
visits_same f i m n =
    sum_same (λ (j : ℕ). size_of n (with_at f i m j)) (λ (j : ℕ). size_of n (f j)) i
    (λ j l. ap (size_of n) (with_other f i m j (λ (v : j ≡ i). omega arith)))

visits_more : (f : ℕ → List ℕ) (i : ℕ) (m : List ℕ) (n : ℕ) → visits (with_at f i m) n (i + 1) ≡ size_of n m + visits f n i
visits_more f i m n =
    let e = sum_more (λ (j : ℕ). size_of n (with_at f i m j)) i in
    let d = ap (size_of n) (with_same f i m) in
    let g = visits_same f i m n in
    omega arith

-- ---- the loop

-- within its ends, a row has the spans that obey
row_is : (marks : List ℕ) (o : Target) (i n k : ℕ) → i ≤ k → k ≤ n → row_of marks o i n k ≡ judged marks o k
unfolding row_of
row_is marks o i n k h l = rw (le-leb i k h, le-leb k n l)

-- what holds before start i: b is the table now
pub record Filling (t : Course) (o : Target) (count limit i : ℕ) (b : List ℕ) (c : ℕ) : Type 0 where
  pub ready : Ready t
  pub apart : Apart t o
  pub marks : ℕ → List ℕ
  pub few : i ≤ length t.word + 1
  pub only : (k q : ℕ) → bit_at (marks k) q ≡ true → Reached (StartsAt o k) (Step t) q
  pub all : (k q : ℕ) → k < i → Reached (StartsAt o k) (Step t) q → bit_at (marks k) q ≡ true
  pub counted : c ≡ count + visits marks (length t.word) i
  pub bounded : c ≤ limit
  pub rows : (k j : ℕ) → k < i → k ≤ j → j ≤ length t.word → bit_at b (span_bit (block_of t o) k j) ≡ judged (marks k) o j
  pub others : (q : ℕ) → InBlock (block_of t o) q → bit_at b q ≡ true → (z : SpanAt (block_of t o) q) × (z.start < i)
  pub outside : (q : ℕ) → (InBlock (block_of t o) q → ⊥) → bit_at b q ≡ bit_at t.table q
  pub long : length b ≡ length t.table

module _ {t : Course} {o : Target} {count limit : ℕ} where
  pub filling_start : {b : List ℕ} → Ready t → Apart t o → count ≤ limit → Cleared t.table (block_of t o) b
      → Filling t o count limit 0 b count
  unfolding sum_below
  filling_start s a h z = record {
    ready = s;
    apart = a;
    marks = λ _. replicate 0 0;
    few = omega arith;
    only = λ k q e. absurd (false≢true (sym (zeros_bit 0 q) ∙ e));
    all = λ k q n. absurd (omega arith);
    counted = omega arith;
    bounded = h;
    rows = λ k j n. absurd (omega arith);
    others = λ q i e. absurd (false≢true (sym (z.inside q i) ∙ e));
    outside = z.outside;
    long = z.long;
  }

  module _ {b b' : List ℕ} {c c' i : ℕ} {spent : Bool} (g : Filling t o count limit i b c) (k : i ≤ length t.word)
      (s : Started (with_table t b) o i c limit b' c' spent) where
    marks' : ℕ → List ℕ
    marks' = with_at g.marks i s.marks

    only' : (j q : ℕ) → bit_at (marks' j) q ≡ true → Reached (StartsAt o j) (Step t) q
    unfolding marks'
    only' j q e =
        ⊎_elim
        (λ (v : j ≡ i).
        rw v (reached_back o g.apart g.ready.word b g.outside i k (s.only q (rw (v, with_same g.marks i s.marks) at e))))
        (λ (n : j ≡ i → ⊥). g.only j q (rw (with_other g.marks i s.marks j n) at e))
        (same_or_not j i)

    -- the rows before i are as they were
    rows' : (m j : ℕ) → m < i → m ≤ j → j ≤ length t.word → bit_at b (span_bit (block_of t o) m j) ≡ judged (marks' m) o j
    unfolding marks'
    rows' m j l u v =
        g.rows m j l u v ∙ ap (λ (n : List ℕ). judged n o j) (sym (with_other g.marks i s.marks m (λ (z : m ≡ i). omega arith)))

    module _ (f : spent ≡ false) where
      row : List ℕ
      row = (s.row f).0

      added : Adds b (RowSpan (block_of t o) i row) b'
      unfolding row
      added = (s.row f).2

      -- the bits of other rows stay
      row_other : (m j : ℕ) → (m ≡ i → ⊥) → m ≤ j → j ≤ length t.word
          → bit_at b' (span_bit (block_of t o) m j) ≡ bit_at b (span_bit (block_of t o) m j)
      row_other m j ne u v =
          same_bits _ _
          (λ e. ⊎_elim (λ (z : bit_at b (span_bit (block_of t o) m j) ≡ true). z)
          (λ z. absurd (ne (span_one (block_of t o) g.ready.word u v z.order z.inside z.bit).0))
          (added.only (span_bit (block_of t o) m j) e))
          (added.old (span_bit (block_of t o) m j))

      -- the row of start i
      row_here : (j : ℕ) → i ≤ j → j ≤ length t.word → bit_at b' (span_bit (block_of t o) i j) ≡ judged s.marks o j
      unfolding row
      row_here j u v =
          let w = g.ready.word in
          same_bits (bit_at b' (span_bit (block_of t o) i j)) (bit_at row j)
          (λ e. ⊎_elim
          (λ (z : bit_at b (span_bit (block_of t o) i j) ≡ true).
          let y = g.others (span_bit (block_of t o) i j) (span_in (block_of t o) w u v) z in
          let d = (span_one (block_of t o) w u v y.0.order y.0.inside y.0.bit).0 in
          let l = y.1 in
          absurd (omega arith))
          (λ z.
          let d = (span_one (block_of t o) w u v z.order z.inside z.bit).1 in
          ap (bit_at row) d ∙ z.there)
          (added.only (span_bit (block_of t o) i j) e))
          (λ e. added.new (span_bit (block_of t o) i j) record { end = j; order = u; inside = v; bit = refl; there = e })
          ∙ (s.row f).1 j (omega arith) ∙ row_is s.marks o i (length t.word) j u v

      pub filling_turn : Filling t o count limit (i + 1) b' c'
      unfolding marks'
      filling_turn =
          let e = s.counted f in
          let d = g.counted in
          let n = visits_more g.marks i s.marks (length t.word) in
          record {
            ready = g.ready;
            apart = g.apart;
            marks = marks';
            few = omega arith;
            only = only';
            all = λ j q l u.
                ⊎_elim
                (λ (v : j ≡ i).
                rw (v, with_same g.marks i s.marks)
                (s.all f q (reached_to o g.apart g.ready.word b g.outside i k (rw v at u))))
                (λ (v : j ≡ i → ⊥). rw (with_other g.marks i s.marks j v) (g.all j q (omega arith) u))
                (same_or_not j i);
            counted = omega arith;
            bounded = s.bounded;
            rows = λ m j l u v.
                ⊎_elim
                (λ (z : m ≡ i). rw (z, with_same g.marks i s.marks) (row_here j (rw z at u) v))
                (λ (z : m ≡ i → ⊥). row_other m j z u v ∙ rows' m j (omega arith) u v)
                (same_or_not m i);
            others = λ q h y.
                ⊎_elim (λ (z : bit_at b q ≡ true). let w = g.others q h z in let l = w.1 in (w.0, omega arith))
                (λ (z : RowSpan (block_of t o) i row q).
                (record { start = i; end = z.end; order = z.order; inside = z.inside; bit = z.bit }, omega arith))
                (added.only q y);
            outside = λ q ne.
                same_bits (bit_at b' q) (bit_at b q)
                (λ y. ⊎_elim (λ (z : bit_at b q ≡ true). z)
                (λ (z : RowSpan (block_of t o) i row q).
                absurd (ne (rw z.bit (span_in (block_of t o) g.ready.word z.order z.inside)))) (added.only q y))
                (added.old q) ∙ g.outside q ne;
            long = added.long ∙ g.long;
          }

    pub filling_spent : spent ≡ true → Filled t o count limit b' c' spent
    unfolding marks'
    filling_spent f =
        let e = s.over f in
        let d = g.counted in
        let h = g.bounded in
        let m = visits_same g.marks i s.marks (length t.word) in
        let n = visits_more g.marks i s.marks (length t.word) in
        let same : (q : ℕ) → bit_at b' q ≡ bit_at b q = λ q. ap (λ (l : List ℕ). bit_at l q) (s.kept f) in
        record {
          stop = i;
          marks = marks';
          few = omega arith;
          finished = λ z. absurd (true≢false (sym f ∙ z));
          only = only';
          all = λ j q l u. rw (with_other g.marks i s.marks j (λ (v : j ≡ i). omega arith)) (g.all j q l u);
          fits = omega arith;
          counted = λ z. absurd (true≢false (sym f ∙ z));
          over = λ _. (k, omega arith);
          spends = s.spends;
          bounded = s.bounded;
          rows = λ r j l u v. same (span_bit (block_of t o) r j) ∙ rows' r j l u v;
          others = λ q u v. g.others q u (sym (same q) ∙ v);
          outside = λ q v. same q ∙ g.outside q v;
          long = ap length (s.kept f) ∙ g.long;
        }

  pub filling_done : {b : List ℕ} {c i : ℕ} → Filling t o count limit i b c → length t.word < i → Filled t o count limit b c false
  filling_done {b} {c} {i} g h =
      let l = g.few in
      let e : i ≡ length t.word + 1 = omega arith in
      let d = g.counted in
      let u = g.bounded in
      record {
        stop = i;
        marks = g.marks;
        few = g.few;
        finished = λ _. e;
        only = g.only;
        all = g.all;
        fits = omega arith;
        counted = λ _. d ∙ ap (λ (n : ℕ). count + visits g.marks (length t.word) n) e;
        over = λ f. absurd (false≢true f);
        spends = λ f. absurd (false≢true f);
        bounded = g.bounded;
        rows = g.rows;
        others = g.others;
        outside = g.outside;
        long = g.long;
      }
