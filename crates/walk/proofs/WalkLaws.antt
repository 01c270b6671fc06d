-- The loop over the numbers of a walk: what holds before each number, and what it comes to. Assumes nothing.
use mathlib.Core.Path.{◌≡◌, refl, sym, ap, ◌∙◌}
use mathlib.Core.Bool.{Bool, true, false, false≢true, true≢false}
use mathlib.Core.Logic.{◌⊎◌, inl, inr, ⊎_elim}
use mathlib.Core.List.{List}
use Prim.Native.Nat.{ℕ, ◌+◌, ◌-◌, ◌*◌, ◌/◌, ◌%◌, ◌≤◌, ◌<◌}
use native.Mathlib.Omega.{arith}
use lib.ListN.{length, get_or, replicate}
use Rattle.bits.specs.Bit.{bit_at}
use Rattle.bits.specs.Runs.{tally_below}
use Rattle.bits.proofs.Digits.{below_or_not, same_or_not}
use Rattle.bits.proofs.Laws.{zeros_bit}
use Rattle.bits.proofs.Tally.{tally_same, tally_none, tally_add, tally_up}
use Rattle.moves.specs.Reached.{Reached, start, after}
use Rattle.moves.proofs.Paths.{reached_from}
use Rattle.table.specs.Layout.{block_at}
use Rattle.table.proofs.LayoutLaws.{row_span}
use Rattle.levels.specs.Sets.{Among}
use Rattle.levels.specs.Exits.{to_come, Full}
use Rattle.levels.proofs.SetLaws.{same_bits}
use Rattle.walk.proofs.Ready.{Ready}
use Rattle.walk.specs.Course.{Course, FreeStep, LetterStep, SpanStep, Step}
use Rattle.marks.specs.Marks.{NoneAt, Finished, EndsBefore}
use Rattle.marks.specs.Steps.{WentOn, Stopped}
use Rattle.walk.specs.Walks.{Pending, MarkedOrDue, SpanExit, LevelSet, Walked}
use Rattle.marks.proofs.MarkLaws.{tally_level}
use Rattle.walk.proofs.LevelLaws.{coming_of, open_entry, below_b, only_b, waiting_b, back, closed_c, only_c, above_c}
use Rattle.walk.proofs.LevelLaws.{tally_c}

-- a step does not lead past the word's end
step_within : (t : Course) → Ready t → (p q : ℕ) → Step t p q → p / 128 ≤ length t.word → q / 128 ≤ length t.word
step_within t r p q g h =
    ⊎_elim (λ (f : FreeStep t.closed p q). let e = f.number in omega arith)
    (λ g'.
    ⊎_elim
    (λ (f : LetterStep t.letters t.word p q).
    let e = f.exit in let w = f.within in
    let y = r.letter (get_or t.word (p / 128) 0) (p % 128) (omega arith) f.event in omega arith)
    (λ (f : SpanStep t.specials t.firsts t.table (length t.word) p q). f.to) g')
    g

-- a test that cannot pass fails
fails : (x : Bool) → (x ≡ true → ⊥) → x ≡ false
fails true h = absurd (h refl)
fails false h = refl

-- the entries of no node
abbrev pub nothing : List ℕ
nothing = replicate 2 0

pub none_open : (s : ℕ) → bit_at nothing s ≡ true → ⊥
none_open s e = false≢true (sym (zeros_bit 2 s) ∙ e)

pub full_start : (x : List ℕ) (j n : ℕ) → Full x nothing nothing j n
full_start x j n = record { two = refl; are_open = λ s _ e. e; left = λ s _ e. absurd (none_open s e) }

-- what a walk begins with: the marks a stand at number i
pub record Beginning (t : Course) (i : ℕ) (a : List ℕ) : Type 0 where
  pub ready : Ready t
  pub number : i ≤ length t.word
  pub marked : (q : ℕ) → bit_at a q ≡ true → q / 128 ≡ i

-- all that is reached is within the word
reached_within : {t : Course} {i : ℕ} {a : List ℕ} → Beginning t i a
    → {q : ℕ} → Reached (λ (p : ℕ). bit_at a p ≡ true) (Step t) q → q / 128 ≤ length t.word
reached_within {t} u {q} (start s) = let n = u.marked q s in let m = u.number in omega arith
reached_within {t} u {q} (after {p} r h) = step_within t u.ready p q h (reached_within u r)

-- what holds before number j: a are the marks at the beginning, b the marks now, x with v the exits to come, v the open nodes' entries
pub record Before (t : Course) (i count limit j : ℕ) (a b x v : List ℕ) (c : ℕ) : Type 0 where
  pub begun : Beginning t i a
  pub old : (q : ℕ) → bit_at a q ≡ true → bit_at b q ≡ true
  pub only : (q : ℕ) → bit_at b q ≡ true → Reached (λ (p : ℕ). bit_at a p ≡ true) (Step t) q
  pub coming : (q : ℕ) → j ≤ q / 128 → q / 128 ≤ length t.word → Pending (to_come x v) q
      → Reached (λ (p : ℕ). bit_at a p ≡ true) (Step t) q
  pub closed : (p q : ℕ) → p / 128 < j → bit_at b p ≡ true → Step t p q → (bit_at b q ≡ true) ⊎ ((j ≤ q / 128) × Pending (to_come x v) q)
  pub above : (q : ℕ) → bit_at b q ≡ true → q / 128 ≤ j
  pub inside : Among v t.specials
  pub counted : c ≡ count + tally_below (128 * j) (bit_at b)
  pub bounded : c ≤ limit
  pub within : j ≤ length t.word + 1
  pub long : length b ≡ length a

module _ {t : Course} {i count limit : ℕ} {a : List ℕ} where
  -- a walk begins
  pub before_start : (x : List ℕ) → Ready t → (i ≤ length t.word) × (count ≤ limit)
      → ((q : ℕ) → bit_at a q ≡ true → q / 128 ≡ i) → Before t i count limit i a a x nothing count
  before_start x r n m =
      let z = tally_none (128 * i) (bit_at a) (λ s k. fails (bit_at a s) (λ e. let y = m s e in omega arith)) in
      let w = n.0 in
      record {
        begun = record { ready = r; number = n.0; marked = m };
        old = λ q e. e;
        only = λ q e. start e;
        coming = λ q _ k w'. let jw = r.word in absurd (none_open (q % 128 - 1) (open_entry x nothing q w' (omega arith)));
        closed = λ p q k e _. let y = m p e in absurd (omega arith);
        above = λ q e. let y = m q e in omega arith;
        inside = λ s _ e. absurd (none_open s e);
        counted = omega arith;
        bounded = n.1;
        within = omega arith;
        long = refl;
      }

  module _ {b x v v' e : List ℕ} (x' : List ℕ) {c j : ℕ} (g : Before t i count limit j a b x v c) (jn : j ≤ length t.word)
      (l : LevelSet t j b (to_come x v) e (to_come x' v') v') where
    base : (p : ℕ) → MarkedOrDue b (to_come x v) j p → Reached (λ (p : ℕ). bit_at a p ≡ true) (Step t) p
    base p d = ⊎_elim (λ (e : bit_at b p ≡ true). g.only p e) (λ e. let n = e.0 in g.coming p (omega arith) (omega arith) e.1) d

    -- what stays below number j
    tally_below_lem : (m : List ℕ) → ((q : ℕ) → bit_at b q ≡ true → bit_at m q ≡ true) → ((q : ℕ) → q / 128 < j → bit_at m q ≡ true → bit_at b q ≡ true)
        → tally_below (128 * j) (bit_at b) ≡ tally_below (128 * j) (bit_at m)
    tally_below_lem m f h = tally_same (128 * j) (bit_at b) (bit_at m) (λ s k. same_bits (bit_at b s) (bit_at m s) (f s) (h s (omega arith)))

    -- ---- the walk goes on

    module _ {b' : List ℕ} {c' : ℕ} (on : WentOn t.letters t.word e j c limit b b' c') where
      below_c : (q : ℕ) → q / 128 < j → bit_at b' q ≡ true → bit_at b q ≡ true
      below_c q k d = below_b t g.begun.ready j jn l on.marked q k (back t g.begun.ready j jn l on.marked on.read q (omega arith) d)

      coming_on : (q : ℕ) → j + 1 ≤ q / 128 → q / 128 ≤ length t.word → Pending (to_come x' v') q
          → Reached (λ (p : ℕ). bit_at a p ≡ true) (Step t) q
      coming_on q m n w =
          let jw = g.begun.ready.word in
          let k = coming_of q w.odd (omega arith) in
          let ex = k.exit in
          ⊎_elim
          (λ (d : to_come x v k.place ≡ true). g.coming q (omega arith) n record { odd = w.odd; bit = ap (to_come x v) (sym k.is) ∙ d })
          (λ (d : SpanExit t j e k.place).
          let pm : (128 * j + (q % 128 - 1)) % 128 ≡ q % 128 - 1 = omega arith in
          let pn : (128 * j + (q % 128 - 1)) / 128 ≡ j = omega arith in
          after (reached_from base (l.only (q % 128 - 1) (omega arith) (rw k.entry at d.entry)))
          (inr (inr record {
            exit = ex ∙ ap (λ (s : ℕ). s + 1) (sym pm);
            from = omega arith;
            to = n;
            special = rw pm (rw k.entry at d.special);
            span = rw (pm, pn)
                (sym (row_span t.table (block_at (get_or t.firsts ((q % 128 - 1) / 2) 0) (length t.word)) j (q / 128) (omega arith) n)
                ∙ rw (k.node, k.number) at d.span);
          })))
          (l.exits.only k.place k.small (ap (to_come x' v') k.is ∙ w.bit))

      closed_on : (p q : ℕ) → p / 128 < j + 1 → bit_at b' p ≡ true → Step t p q
          → (bit_at b' q ≡ true) ⊎ ((j + 1 ≤ q / 128) × Pending (to_come x' v') q)
      closed_on p q k u d =
          ⊎_elim
          (λ (h : p / 128 < j).
          ⊎_elim (λ (z : bit_at b q ≡ true). inl (on.read.old q (on.marked.old q z)))
          (λ z.
          let n = z.0 in
          ⊎_elim (λ (y : q / 128 ≡ j). inl (on.read.old q (waiting_b t g.begun.ready j jn l on.marked q y z.1)))
          (λ (y : q / 128 ≡ j → ⊥).
          inr (omega arith, record { odd = z.1.odd; bit = l.exits.old (128 * (q % 128 - 1) + q / 128) z.1.bit }))
          (same_or_not (q / 128) j))
          (g.closed p q h (below_c p h u) d))
          (λ (h : j ≤ p / 128).
          ⊎_elim (λ (z : bit_at b' q ≡ true). inl z) (λ z. let n = z.0 in inr (omega arith, z.1))
          (closed_c t g.begun.ready j jn l on.marked on.read p q (omega arith) u d))
          (below_or_not (p / 128) j)

      pub before_turn : Before t i count limit (j + 1) a b' x' v' c'
      before_turn =
          let cx = g.counted in
          let cy = on.counted in
          let cz = tally_level b' j in
          let cw = tally_c t g.begun.ready j jn l on.marked on.read in
          let ce = tally_below_lem b' (λ q d. on.read.old q (on.marked.old q d)) below_c in
          record {
            begun = g.begun;
            old = λ q k. on.read.old q (on.marked.old q (g.old q k));
            only = λ q k. reached_from base (only_c t g.begun.ready j jn l on.marked on.read q k);
            coming = coming_on;
            closed = closed_on;
            above = λ q k.
                ⊎_elim (λ (z : bit_at b q ≡ true). let n = g.above q z in omega arith) (λ (z : q / 128 ≤ j + 1). z)
                (above_c t g.begun.ready j jn l on.marked on.read q k);
            inside = l.inside;
            counted = omega arith;
            bounded = on.bounded;
            within = omega arith;
            long = on.read.long ∙ on.marked.long ∙ g.long;
          }

    -- ---- the limit is passed

    pub before_spent : {b' : List ℕ} {c' : ℕ} → Stopped e j c limit b b' c' → Walked t count limit a b' c' true
    before_spent {b'} z =
        let cx = g.counted in
        let cy = z.over in
        let cz = tally_level b' j in
        let ce = tally_below_lem b' z.marked.old (below_b t g.begun.ready j jn l z.marked) in
        let cu = tally_up (bit_at b') (128 * (j + 1)) (128 * (length t.word + 1)) (omega arith) in
        let cs = z.spends in
        record {
          only = λ q k. reached_from base (only_b t g.begun.ready j jn l z.marked q k);
          all = λ f. absurd (true≢false f);
          counted = λ f. absurd (true≢false f);
          over = λ _. omega arith;
          spends = λ _. z.spends;
          bounded = omega arith;
          long = z.marked.long ∙ g.long;
        }

  -- where no more exit is to come, all that is reached is marked, and it is marked before j
  finished : {b x v : List ℕ} {c j : ℕ} → Before t i count limit j a b x v c → EndsBefore b j
      → ((q : ℕ) → j ≤ q / 128 → q / 128 ≤ length t.word → Pending (to_come x v) q → ⊥) → Walked t count limit a b c false
  finished {b} {x} {v} {c} {j} g marked over = record {
    only = g.only;
    all = λ _ q r. every r;
    counted = λ _. let n = none in let d = g.counted in omega arith;
    over = λ f. absurd (false≢true f);
    spends = λ f. absurd (false≢true f);
    bounded = g.bounded;
    long = g.long;
  }
    where
      every : {q : ℕ} → Reached (λ (p : ℕ). bit_at a p ≡ true) (Step t) q → bit_at b q ≡ true
      every {q} (start s) = g.old q s
      every {q} (after {p} r d) =
          ⊎_elim (λ (z : bit_at b q ≡ true). z) (λ z. absurd (over q z.0 (reached_within g.begun (after r d)) z.1))
          (g.closed p q (marked p (every r)) (every r) d)

      none : tally_below (128 * (length t.word + 1)) (bit_at b) ≡ tally_below (128 * j) (bit_at b)
      none =
          let w = g.within in
          let k = 128 * (length t.word + 1) - 128 * j in
          let e : 128 * j + k ≡ 128 * (length t.word + 1) = omega arith in
          let f = sym (ap (λ (n : ℕ). tally_below n (bit_at b)) e) ∙ tally_add (128 * j) k (bit_at b) in
          let z = tally_none k (λ (s : ℕ). bit_at b (128 * j + s))
          (λ s _. fails (bit_at b (128 * j + s)) (λ y. let m = marked (128 * j + s) y in omega arith)) in
          omega arith

  module _ {b x v : List ℕ} {c j : ℕ} (g : Before t i count limit j a b x v c) where
    -- past the word's end
    pub end_ends : length t.word < j → EndsBefore b j
    end_ends e q y = let n = reached_within g.begun (g.only q y) in omega arith

    pub before_end : length t.word < j → Walked t count limit a b c false
    before_end e = finished g (end_ends e) (λ q m n _. omega arith)

    -- where nothing is marked and no node is open
    pub none_ends : NoneAt b j → EndsBefore b j
    none_ends h q e =
        let n = g.above q e in
        ⊎_elim (λ (z : q / 128 < j). z)
        (λ (z : j ≤ q / 128). let k : q ≡ 128 * j + q % 128 = omega arith in absurd (h (q % 128) (omega arith) (rw k at e)))
        (below_or_not (q / 128) j)

    pub before_finished : Finished b v j → Walked t count limit a b c false
    before_finished u =
        finished g (none_ends u.marked)
        (λ q m n w.
        let jw = g.begun.ready.word in
        u.coming (q % 128 - 1) (omega arith) (open_entry x v q w (omega arith)))
