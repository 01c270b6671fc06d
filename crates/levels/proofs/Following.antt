-- Free moves followed from each state of a set. Assumes nothing.
use mathlib.Core.Path.{◌≡◌, refl, sym, ap, ◌∙◌}
use mathlib.Core.Bool.{true, false≢true, or-false, or-true, ◌||◌}
use mathlib.Core.Logic.{◌⊎◌, inl, inr, ⊎_elim}
use mathlib.Core.List.{List}
use Prim.Native.Nat.{ℕ, ◌+◌, ◌-◌, ◌*◌, ◌%◌, ◌^◌, ◌<◌}
use native.Mathlib.Omega.{arith}
use lib.ListN.{length, get_or, replicate}
use lib.Bits.{bit_or}
use Rattle.std.proofs.lemmas.Bool.{cases_eq}
use Rattle.bits.specs.Bit.{has_bit, bit_at}
use Rattle.bits.specs.Runs.{tally_below, Adds, RowOf, InRow, NoneLacks, Lowest}
use Rattle.bits.proofs.Digits.{has_or, power_has, power_lacks}
use Rattle.bits.proofs.Laws.{word_bit, by_half, adds_as, zeros_bit}
use Rattle.bits.proofs.Tally.{left_less}
use Rattle.levels.specs.Sets.{Reflexive, Transitive, AllLed}
use Rattle.levels.specs.Private.{LedTo, LedFrom, FollowedWord}

-- ---- what one state leads to

pub led_law : (c : List ℕ) {a d r : List ℕ} (s : ℕ) → RowOf c s r → Adds a (InRow 0 r) d → Adds a (LedTo c s) d
led_law c s e f =
    adds_as
    (λ q u. let n = u.place in let l : q < 128 = omega arith in let y : q % 128 ≡ q = omega arith in
    record { small = l; leads = sym (e q l) ∙ (rw y at u.there) })
    (λ q u. let n = u.small in let y : q % 128 ≡ q = omega arith in record { place = omega arith; there = rw y (e q n ∙ u.leads) })
    f

-- ---- the loop over the states of one number

-- what holds at each turn: of the states of number w those of n are done, and d is e now
pub record Following (c a : List ℕ) (w n : ℕ) (d e : List ℕ) : Type 0 where
  pub old : (s : ℕ) → bit_at d s ≡ true → bit_at e s ≡ true
  pub only : (t : ℕ) → t < 128 → bit_at e t ≡ true → (bit_at d t ≡ true) ⊎ LedFrom c a e t
  pub done : (b : ℕ) → b < 64 → has_bit b n ≡ true → bit_at e (64 * w + b) ≡ true
  pub long : length e ≡ length d

pub following_start : (c a d : List ℕ) (w : ℕ) → Following c a w (get_or d w 0) d d
following_start c a d w = record { old = λ s e. e; only = λ t _ e. inl e; done = λ b l h. word_bit d w b l ∙ h; long = refl }

-- all that led to a state leads to it still
led_still : {c a e f : List ℕ} (t : ℕ) → ((s : ℕ) → bit_at e s ≡ true → bit_at f s ≡ true) → LedFrom c a e t → LedFrom c a f t
led_still t h z = record { by = z.by; small = z.small; there = z.there; leads = z.leads; rest = λ u m v. h u (z.rest u m v) }

-- a bit is put
has_put : (b q n : ℕ) → has_bit q (bit_or n (2 ^ b)) ≡ true → (q ≡ b) ⊎ (has_bit q n ≡ true)
has_put b q n e =
    ⊎_elim (λ (y : q ≡ b). inl y)
    (λ (y : q ≡ b → ⊥).
    inr (sym (has_or q n (2 ^ b) ∙ ap (has_bit q n ||◌) (power_lacks b q y) ∙ or-false (has_bit q n)) ∙ e))
    (cases_eq q b)

has_put_old : (b q n : ℕ) → has_bit q n ≡ true → has_bit q (bit_or n (2 ^ b)) ≡ true
has_put_old b q n e = has_or q n (2 ^ b) ∙ ap (λ x. x || has_bit q (2 ^ b)) e

has_put_same : (b n : ℕ) → has_bit b (bit_or n (2 ^ b)) ≡ true
has_put_same b n = has_or b n (2 ^ b) ∙ ap (has_bit b n ||◌) (power_has b) ∙ or-true (has_bit b n)

-- one turn, over the state 64 * w + b
module _ {c a d e : List ℕ} (w m n b : ℕ) (g : Following c a w n d e) (small : w < 2) (self : Reflexive c) (word : m ≡ get_or a w 0)
    (first : Lowest m n b) where
  pub following_turn : {h : List ℕ} → Adds e (LedTo c (64 * w + b)) h → Following c a w (bit_or n (2 ^ b)) d h
  following_turn {h} more-led = record {
    old = λ r x. more-led.old r (g.old r x);
    only = λ t k x.
        ⊎_elim
        (λ (y : bit_at e t ≡ true).
        ⊎_elim (λ (z : bit_at d t ≡ true). inl z) (λ (z : LedFrom c a e t). inr (led_still t more-led.old z)) (g.only t k y))
        (λ (y : LedTo c (64 * w + b) t). inr record {
          by = 64 * w + b;
          small = s_small;
          there = word_bit a w b first.within ∙ ap (has_bit b) (sym word) ∙ first.there;
          leads = y.leads;
          rest = λ u i v. more-led.new u record { small = i; leads = v };
        })
        (more-led.only t x);
    done = λ r l x.
        ⊎_elim (λ (y : r ≡ b). rw y (more-led.new (64 * w + b) record { small = s_small; leads = self (64 * w + b) s_small }))
        (λ (y : has_bit r n ≡ true). more-led.old (64 * w + r) (g.done r l y))
        (has_put b r n x);
    long = more-led.long ∙ g.long;
  }
    where
      s_small : 64 * w + b < 128
      s_small = let l = first.within in omega arith

  pub following_less : 64 - tally_below 64 (λ (q : ℕ). has_bit q (bit_or n (2 ^ b))) < 64 - tally_below 64 (λ (q : ℕ). has_bit q n)
  following_less =
      left_less 64 (λ (q : ℕ). has_bit q n) (λ (q : ℕ). has_bit q (bit_or n (2 ^ b))) b (λ r. has_put_old b r n) first.within
      first.fresh (has_put_same b n)

pub following_done : {c a d e : List ℕ} (w m n : ℕ) → Following c a w n d e → m ≡ get_or a w 0 → NoneLacks m n → FollowedWord c a w d e
following_done {c} {a} w m n g word f = record {
  all = λ r l x. g.done r l (f r l (rw word (sym (word_bit a w r l) ∙ x)));
  old = g.old;
  only = g.only;
  long = g.long;
}

-- ---- both numbers, from the empty set on

module _ {c a e f : List ℕ} (g : FollowedWord c a 0 (replicate 2 0) e) (h : FollowedWord c a 1 e f) where
  reached_states : (s : ℕ) → s < 128 → bit_at a s ≡ true → bit_at f s ≡ true
  reached_states = by_half (λ (s : ℕ). bit_at a s ≡ true → bit_at f s ≡ true)
      (λ s l x. let z : 64 * 0 + s ≡ s = omega arith in h.old s (rw z at (g.all s l (rw z x))))
      (λ s l x. h.all s l x)

  led : (t : ℕ) → t < 128 → bit_at f t ≡ true → LedFrom c a f t
  led t k x =
      ⊎_elim
      (λ (y : bit_at e t ≡ true).
      ⊎_elim (λ (z : bit_at (replicate 2 0) t ≡ true). absurd (false≢true (sym (zeros_bit 2 t) ∙ z)))
      (λ (z : LedFrom c a e t). led_still t h.old z)
      (g.only t k y))
      (λ (y : LedFrom c a f t). y)
      (h.only t k x)

  -- what a state leads to, that leads to it leads to
  pub follow_all : Transitive c → AllLed c a f
  follow_all on = record {
    all = λ s t k l x y.
        let z = led s k (reached_states s k x) in
        z.rest t l (on s z.by t k z.small l z.leads y);
    only = λ t l x.
        let z = led t l x in
        record { by = z.by; small = z.small; there = z.there; leads = z.leads };
  }
