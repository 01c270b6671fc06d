-- The states of one number: a set that is closed under free moves, and special nodes entered one by one. Assumes nothing.
use mathlib.Core.Path.{◌≡◌, refl, sym, ap, ap₂, ◌∙◌, subst}
use mathlib.Core.Bool.{Bool, true, false, ◌&&◌, ◌||◌, false≢true}
use mathlib.Core.Logic.{◌⊎◌, ◌↔◌, inl, inr, ⊎_elim}
use mathlib.Core.List.{List}
use Prim.Native.Nat.{ℕ, ◌+◌, ◌*◌, ◌/◌, ◌%◌, ◌≤◌, ◌<◌}
use native.Mathlib.Omega.{arith}
use lib.ListN.{length}
use Rattle.bits.specs.Bit.{bit_at}
use Rattle.bits.specs.Runs.{Put, Adds, NoneFresh, Fresh}
use Rattle.bits.proofs.Digits.{same_or_not}
use Rattle.bits.proofs.Laws.{put_adds, adds_as, adds_none}
use Rattle.moves.specs.Reached.{Reached, start, after}
use Rattle.moves.specs.Moves.{FreeMove}
use Rattle.levels.specs.Sets.{InSet, Among, Disjoint, Entries, Reflexive, Transitive}
use Rattle.levels.specs.Exits.{to_come, LeftAt, Room, has_span, SpanHere, StepHere, Entered, Begun, Saturated}
use Rattle.levels.specs.Private.{Common, LedTo, LedIf, NodeEntered}
use Rattle.levels.proofs.SetLaws.{same_bits}

-- what is given of the automaton's lists, and of the set and the full nodes at the beginning
pub record Ground (c specials firsts table : List ℕ) (n j : ℕ) (a f : List ℕ) : Type 0 where
  pub reflexive : Reflexive c
  pub transitive : Transitive c
  pub even : Entries specials
  pub room : Room firsts n (length table)
  pub number : j ≤ n
  pub begun : Begun c a f

-- a test that is not passed fails
fails : (x : Bool) → (x ≡ true → ⊥) → x ≡ false
fails true h = absurd (h refl)
fails false h = refl

tested : (x : Bool) → (x ≡ true) ⊎ (x ≡ false)
tested true = inl refl
tested false = inr refl

module _ (c specials firsts table : List ℕ) (n j : ℕ) (a x v f : List ℕ) where
  -- what holds at each turn: the special nodes of entered were full, or are entered; the set is closed under free moves
  pub record Saturating (y u g entered set : List ℕ) : Type 0 where
    pub ground : Ground c specials firsts table n j a f
    pub base : Among a set
    pub only : (s : ℕ) → s < 128 → bit_at set s ≡ true → Reached (InSet a) (StepHere c specials firsts table n j) s
    pub free : (s t : ℕ) → FreeMove c s t → bit_at set s ≡ true → bit_at set t ≡ true
    pub exit : (s t : ℕ) → SpanHere specials firsts table n j s t → bit_at entered s ≡ true → bit_at set t ≡ true
    pub full_in : Among f entered
    pub inside : (s : ℕ) → bit_at entered s ≡ true → bit_at f s ≡ false → Entered specials f set s
    pub joined : (q : ℕ) → bit_at entered (2 * (q / 256)) ≡ true → bit_at f (2 * (q / 256)) ≡ false
        → bit_at y q ≡ (to_come x v q || has_span firsts table n (q / 256) j (q % 256))
    pub kept : (q : ℕ) → (bit_at entered (2 * (q / 256)) ≡ true → bit_at f (2 * (q / 256)) ≡ true) → bit_at y q ≡ bit_at x q
    pub opened : Adds v (λ (s : ℕ). (bit_at entered s ≡ true) × (bit_at f s ≡ false)) u
    pub full : (s : ℕ) → s < 128
        → (bit_at g s ≡ true) ↔ ((bit_at f s ≡ true) ⊎ ((bit_at entered s ≡ true) × (bit_at f s ≡ false) × LeftAt y s (j + 1) n))
    pub long : (length y ≡ length x) × (length g ≡ length f)

  pub saturating_start : Ground c specials firsts table n j a f → Saturating x v f f a
  saturating_start u = record {
    ground = u;
    base = λ s l e. e;
    only = λ s l e. start record { small = l; there = e };
    free = u.begun.closed;
    exit = λ s t m e. ap (bit_at a) m.exit ∙ u.begun.exits s m.small e;
    full_in = λ s l e. e;
    inside = λ s e d. absurd (false≢true (sym d ∙ e));
    joined = λ q e d. absurd (false≢true (sym d ∙ e));
    kept = λ q _. refl;
    opened = record { old = λ q e. e; new = λ q e. absurd (false≢true (sym e.1 ∙ e.0)); only = λ q e. inl e; long = refl };
    full = λ s l. (λ e. inl e, ⊎_elim (λ e. e) (λ e. e.0));
    long = (refl, refl);
  }

  module _ {y u g entered set inner : List ℕ} (now : Saturating y u g entered set) (m : Common set specials inner) where
    -- all special nodes of the set are entered, or were full
    pub saturating_done : NoneFresh inner entered → Saturated c specials firsts table n j a x v f set y u g
    saturating_done none =
        let in_entered : (r : ℕ) → Entered specials f set r → bit_at entered r ≡ true =
        λ r z. none r z.small (m.both r z.small z.there z.special) in
        record {
          all = now.base;
          only = now.only;
          free = now.free;
          here = λ r t h d. now.exit r t h (none r h.small (m.both r h.small d h.special));
          joined = λ q z. now.joined q (in_entered (2 * (q / 256)) z) z.fresh;
          kept = λ q ne. now.kept q (λ d.
              ⊎_elim (λ (z : bit_at f (2 * (q / 256)) ≡ true). z)
              (λ (z : bit_at f (2 * (q / 256)) ≡ false). absurd (ne (now.inside (2 * (q / 256)) d z))) (tested (bit_at f (2 * (q / 256)))));
          opened = adds_as (λ r z. now.inside r z.0 z.1) (λ r z. (in_entered r z, z.fresh)) now.opened;
          full = λ r l. (
            λ d. ⊎_elim (λ z. inl z) (λ z. inr (now.inside r z.0 z.1, z.2)) ((now.full r l).0 d),
            λ d. (now.full r l).1 (⊎_elim (λ z. inl z) (λ z. inr (in_entered r z.0, z.0.fresh, z.1)) d),
          );
          lengths = now.long;
        }

    -- one turn, over the special node of the entry s
    module _ {s : ℕ} (next : Fresh inner entered s) where
      here : bit_at specials s ≡ true
      here = m.right s next.within next.there

      there : bit_at set s ≡ true
      there = m.left s next.within next.there

      pub entry_even : s % 2 ≡ 0
      entry_even = now.ground.even s next.within here

      -- an entry is below 127, for its exit
      exit_small : s + 1 < 128
      exit_small = let l = next.within in let e = entry_even in omega arith

      not_full : bit_at f s ≡ false
      not_full = fails (bit_at f s) (λ e. false≢true (sym next.fresh ∙ now.full_in s next.within e))

      module _ {entered' y' u' g' set' : List ℕ} {at_once : Bool} (p : Put entered s entered')
          (d : NodeEntered firsts table n j s y u g y' u' g') (h : at_once ≡ has_span firsts table n (s / 2) j j)
          (w : Adds set (LedIf at_once c (s + 1)) set') where
        -- the entry of a bit's node is s, or another
        of_node : (q : ℕ) → 2 * (q / 256) ≡ s → q / 256 ≡ s / 2
        of_node q e = omega arith

        other_node : (q : ℕ) → (2 * (q / 256) ≡ s → ⊥) → q / 256 ≡ s / 2 → ⊥
        other_node q ne e = let ev = entry_even in ne (omega arith)

        was : (r : ℕ) → (r ≡ s → ⊥) → bit_at entered' r ≡ true → bit_at entered r ≡ true
        was r ne e = sym (p.other r ne) ∙ e

        still : (r : ℕ) → bit_at entered r ≡ true → bit_at entered' r ≡ true
        still = (put_adds p).old

        -- before its turn the node had what it has at the beginning
        as_before : (q : ℕ) → 2 * (q / 256) ≡ s → to_come y u q ≡ to_come x v q
        as_before q e =
            let o : bit_at u (2 * (q / 256)) ≡ bit_at v (2 * (q / 256)) =
            same_bits _ _
            (λ z. ⊎_elim (λ (k : bit_at v (2 * (q / 256)) ≡ true). k)
            (λ k. absurd (false≢true (sym next.fresh ∙ ap (bit_at entered) (sym e) ∙ k.0))) (now.opened.only (2 * (q / 256)) z))
            (now.opened.old (2 * (q / 256))) in
            ap₂ ◌&&◌ o (now.kept q (λ k. absurd (false≢true (sym next.fresh ∙ ap (bit_at entered) (sym e) ∙ k))))

        joined_on : (q : ℕ) → bit_at entered' (2 * (q / 256)) ≡ true → bit_at f (2 * (q / 256)) ≡ false
            → bit_at y' q ≡ (to_come x v q || has_span firsts table n (q / 256) j (q % 256))
        joined_on q k i =
            ⊎_elim
            (λ (e : 2 * (q / 256) ≡ s).
            let r = of_node q e in
            d.inside q r
            ∙ ap₂ ◌||◌ (as_before q e) (ap (λ (i : ℕ). has_span firsts table n i j (q % 256)) (sym r)))
            (λ (e : 2 * (q / 256) ≡ s → ⊥). d.outside q (other_node q e) ∙ now.joined q (was (2 * (q / 256)) e k) i)
            (same_or_not (2 * (q / 256)) s)

        kept_on : (q : ℕ) → (bit_at entered' (2 * (q / 256)) ≡ true → bit_at f (2 * (q / 256)) ≡ true) → bit_at y' q ≡ bit_at x q
        kept_on q k =
            ⊎_elim
            (λ (e : 2 * (q / 256) ≡ s).
            absurd (false≢true (sym not_full ∙ ap (bit_at f) (sym e) ∙ k (ap (bit_at entered') e ∙ p.same))))
            (λ (e : 2 * (q / 256) ≡ s → ⊥).
            d.outside q (other_node q e) ∙ now.kept q (λ i. k (still (2 * (q / 256)) i)))
            (same_or_not (2 * (q / 256)) s)

        -- the numbers at which another node is left are as before
        left_as : (r : ℕ) → r % 2 ≡ 0 → (r ≡ s → ⊥) → (i : ℕ) → i < 256 → bit_at y' (128 * r + i) ≡ bit_at y (128 * r + i)
        left_as r ev ne i l =
            let es = entry_even in
            d.outside (128 * r + i) (λ (e : (128 * r + i) / 256 ≡ s / 2).
            let z : 128 * r + i ≡ 256 * (r / 2) + i = omega arith in
            let k : (256 * (r / 2) + i) / 256 ≡ r / 2 = omega arith in
            let t : r / 2 ≡ s / 2 = sym (ap (λ (b : ℕ). b / 256) z ∙ k) ∙ e in
            ne (omega arith))

        -- what holds of it now is what holds after: nodes other than s are as they were
        full_on : (r : ℕ) → r < 128 → (bit_at g' r ≡ true)
            ↔ ((bit_at f r ≡ true) ⊎ ((bit_at entered' r ≡ true) × (bit_at f r ≡ false) × LeftAt y' r (j + 1) n))
        full_on r l =
            ⊎_elim
            (λ (e : r ≡ s).
            subst (λ (r : ℕ). (bit_at g' r ≡ true)
            ↔ ((bit_at f r ≡ true) ⊎ ((bit_at entered' r ≡ true) × (bit_at f r ≡ false) × LeftAt y' r (j + 1) n))) (sym e) (
              λ k. ⊎_elim
                  (λ (z : bit_at g s ≡ true).
                  ⊎_elim (λ z. inl z) (λ z. absurd (false≢true (sym next.fresh ∙ z.0))) ((now.full s next.within).0 z))
                  (λ z. inr (p.same, not_full, z)) (d.full.here.0 k),
              λ k. ⊎_elim (λ z. absurd (false≢true (sym not_full ∙ z))) (λ z. d.full.here.1 (inr z.2)) k,
            ))
            (λ (e : r ≡ s → ⊥). (
              λ k. ⊎_elim (λ z. inl z)
                  (λ z.
                  let ev = even_of r z.0 z.1 in
                  inr (still r z.0, z.1, λ i a b. left_as r ev e i (let t = short in omega arith) ∙ z.2 i a b))
                  ((now.full r l).0 (sym (d.full.other r e) ∙ k)),
              λ k. d.full.other r e ∙ (now.full r l).1 (⊎_elim (λ z. inl z)
                  (λ z.
                  let w = was r e z.0 in
                  let ev = even_of r w z.1 in
                  inr (w, z.1, λ i a b. sym (left_as r ev e i (let t = short in omega arith)) ∙ z.2 i a b)) k),
            ))
            (same_or_not r s)
          where
            even_of : (r : ℕ) → bit_at entered r ≡ true → bit_at f r ≡ false → r % 2 ≡ 0
            even_of r a b = let z = now.inside r a b in now.ground.even r z.small z.special

            short : n ≤ 255
            short = (now.ground.room 0).short

        pub saturating_turn : Saturating y' u' g' entered' set'
        saturating_turn = record {
          ground = now.ground;
          base = λ t k i. w.old t (now.base t k i);
          only = λ t k z.
              ⊎_elim (λ (i : bit_at set t ≡ true). now.only t k i)
              (λ i.
              after
              (after (now.only s next.within there) (inr record { small = next.within; special = here; exit = refl; span = sym h ∙ i.1 }))
              (inl record { from = exit_small; to = k; move = i.0.leads }))
              (w.only t z);
          free = λ r t m k.
              ⊎_elim (λ (z : bit_at set r ≡ true). w.old t (now.free r t m z))
              (λ z.
              let i = now.ground.transitive r (s + 1) t m.from exit_small m.to z.0.leads m.move in
              w.new t (record { small = m.to; leads = i }, z.1))
              (w.only r k);
          exit = λ r t m k.
              ⊎_elim (λ (z : bit_at entered r ≡ true). w.old t (now.exit r t m z))
              (λ (z : r ≡ s).
              let e : t ≡ s + 1 = m.exit ∙ ap (λ (i : ℕ). i + 1) z in
              let b : at_once ≡ true = h ∙ ap (λ (i : ℕ). has_span firsts table n (i / 2) j j) (sym z) ∙ m.span in
              subst (λ (r : ℕ). bit_at set' r ≡ true) (sym e)
              (w.new (s + 1) (record { small = exit_small; leads = now.ground.reflexive (s + 1) exit_small }, b)))
              ((put_adds p).only r k);
          full_in = λ r l e. still r (now.full_in r l e);
          inside = λ r k i.
              ⊎_elim
              (λ (e : r ≡ s).
              subst (Entered specials f set') (sym e) record { small = next.within; there = w.old s there; special = here; fresh = not_full })
              (λ (e : r ≡ s → ⊥).
              let z = now.inside r (was r e k) i in
              record { small = z.small; there = w.old r z.there; special = z.special; fresh = z.fresh })
              (same_or_not r s);
          joined = joined_on;
          kept = kept_on;
          opened = record {
            old = λ r e. (put_adds d.opened).old r (now.opened.old r e);
            new = λ r e.
                ⊎_elim (λ (z : r ≡ s). (put_adds d.opened).new r z)
                (λ (z : r ≡ s → ⊥). (put_adds d.opened).old r (now.opened.new r (was r z e.0, e.1))) (same_or_not r s);
            only = λ r e.
                ⊎_elim
                (λ (z : bit_at u r ≡ true).
                ⊎_elim (λ (k : bit_at v r ≡ true). inl k) (λ k. inr (still r k.0, k.1)) (now.opened.only r z))
                (λ (z : r ≡ s). inr (ap (bit_at entered') z ∙ p.same, ap (bit_at f) z ∙ not_full))
                ((put_adds d.opened).only r e);
            long = d.opened.long ∙ now.opened.long;
          };
          full = full_on;
          long = (d.long ∙ now.long.0, d.full.long ∙ now.long.1);
        }

-- a set without a special entry: nothing is entered
pub plain_saturated : {c specials a f : List ℕ} (firsts table x v : List ℕ) (n j : ℕ) → Begun c a f → Disjoint a specials
    → Saturated c specials firsts table n j a x v f a x v f
plain_saturated {c} {specials} {a} {f} firsts table x v n j b none =
    let out : (s : ℕ) → Entered specials f a s → ⊥ = λ s z. none s z.small z.there z.special in
    record {
      all = λ s l h. h;
      only = λ s l h. start record { small = l; there = h };
      free = b.closed;
      here = λ s t m h. absurd (none s m.small h m.special);
      joined = λ q z. absurd (out (2 * (q / 256)) z);
      kept = λ q _. refl;
      opened = adds_none v _ out;
      full = λ s l. (λ h. inl h, ⊎_elim (λ h. h) (λ h. absurd (out s h.0)));
      lengths = (refl, refl);
    }

-- what the exit leads to is added if the node is left at once
pub led_if : {a b c : List ℕ} {s : ℕ} {test : Bool} → test ≡ true → Adds a (LedTo c s) b → Adds a (LedIf test c s) b
led_if e f = adds_as (λ q u. (u, e)) (λ q u. u.0) f

pub led_not : (a c : List ℕ) (s : ℕ) {test : Bool} → test ≡ false → Adds a (LedIf test c s) a
led_not a c s e = adds_none a _ (λ q u. false≢true (sym e ∙ u.1))
