-- Letters and seconds as events, and the turns of the loop that stores the events of two days. Assumes nothing.
use Prim.Native.Nat.{ℕ, suc, ◌+◌, ◌≤◌}
use native.Mathlib.Omega.{arith}
use native.Mathlib.Numerals.{add-one}
use mathlib.Core.Path.{◌≡◌, refl, sym, ap, ap₂, ◌∙◌}
use mathlib.Core.Bool.{true, false}
use mathlib.Core.List.{List, [], ◌∷◌, map}
use lib.ListN.{length, get_or, set}
use lib.Seq.{sets}
use Rattle.event.proofs.Tails.{tail, tail_is}
use Rattle.day.specs.DayFile.{DayEvent, letter_of, second_of}
use Rattle.merge.specs.MergeComputed.{merged, joined, paired, event, first_is_next, Aligned}

-- ---- letters and seconds as events
pub paired_events : (l : List DayEvent) → paired (map letter_of l) (map second_of l) ≡ l
unfolding paired
paired_events [] = refl
paired_events (e ∷ l) = ap (λ (k : List DayEvent). e ∷ k) (paired_events l)

pub paired_length : (cs xs : List ℕ) → length cs ≡ length xs → length (paired cs xs) ≡ length cs
unfolding paired
paired_length [] xs h = refl
paired_length (c ∷ cs) [] h = absurd (omega arith)
paired_length (c ∷ cs) (x ∷ xs) h = ap suc (paired_length cs xs (omega arith))

pub seconds_paired : (cs xs : List ℕ) → length cs ≡ length xs → map second_of (paired cs xs) ≡ xs
unfolding paired
seconds_paired [] [] h = refl
seconds_paired [] (x ∷ xs) h = absurd (omega arith)
seconds_paired (c ∷ cs) [] h = absurd (omega arith)
seconds_paired (c ∷ cs) (x ∷ xs) h = ap (λ (k : List ℕ). x ∷ k) (seconds_paired cs xs (omega arith))

-- the first event of a day, and those behind it
pub paired_next : (cs xs : List ℕ) → 1 ≤ length cs → length cs ≡ length xs
    → paired cs xs ≡ event (get_or xs 0 0) (get_or cs 0 0) ∷ paired (tail 1 cs) (tail 1 xs)
unfolding paired
paired_next [] xs h e = absurd (omega arith)
paired_next (c ∷ cs) [] h e = absurd (omega arith)
paired_next (c ∷ cs) (x ∷ xs) h e = ap₂ (λ (u v : List ℕ). event x c ∷ paired u v) (sym (tail_is 1 (c ∷ cs))) (sym (tail_is 1 (x ∷ xs)))

-- ---- the next event of the one day
takes_first : (e : DayEvent) (a b : List DayEvent) → first_is_next (e.second ∷ map second_of a) (map second_of b) ≡ true
    → joined (e ∷ a) b ≡ e ∷ joined a b
unfolding merged
takes_first e a [] t = refl
takes_first e a (f ∷ b) t = simp t

takes_second : (f : DayEvent) (a b : List DayEvent) → first_is_next (map second_of a) (f.second ∷ map second_of b) ≡ false
    → joined a (f ∷ b) ≡ f ∷ joined a b
unfolding merged
takes_second f [] b t = refl
takes_second f (e ∷ a) b t = simp t

module _ {cs xs ds ys : List ℕ} (aligned1 : Aligned cs xs) (aligned2 : Aligned ds ys) where
  pub next_first : {e : DayEvent} {a : List DayEvent} → first_is_next xs ys ≡ true → paired cs xs ≡ e ∷ a
      → joined (paired cs xs) (paired ds ys) ≡ e ∷ joined a (paired ds ys)
  next_first {e} {a} t p =
      ap (λ (l : List DayEvent). joined l (paired ds ys)) p
      ∙ takes_first e a (paired ds ys)
      (ap₂ first_is_next (sym (ap (map second_of) p) ∙ seconds_paired cs xs aligned1.as_many) (seconds_paired ds ys aligned2.as_many) ∙ t)

  pub next_second : {f : DayEvent} {b : List DayEvent} → first_is_next xs ys ≡ false → paired ds ys ≡ f ∷ b
      → joined (paired cs xs) (paired ds ys) ≡ f ∷ joined (paired cs xs) b
  next_second {f} {b} t p =
      ap (λ (l : List DayEvent). joined (paired cs xs) l) p
      ∙ takes_second f (paired cs xs) b
      (ap₂ first_is_next (seconds_paired cs xs aligned1.as_many) (sym (ap (map second_of) p) ∙ seconds_paired ds ys aligned2.as_many) ∙ t)

-- ---- i events of the one day are stored: storing those that are left gives what storing all gives
pub record Storing (all left : List DayEvent) (ls₀ ss₀ ls ss : List ℕ) (i : ℕ) : Type 0 where
  pub counted : i + length left ≡ length all
  pub letters : sets ls i (map letter_of left) ≡ sets ls₀ 0 (map letter_of all)
  pub seconds : sets ss i (map second_of left) ≡ sets ss₀ 0 (map second_of all)

pub storing_begins : (all : List DayEvent) (ls ss : List ℕ) → Storing all all ls ss ls ss 0
storing_begins all ls ss = record { counted = omega arith; letters = refl; seconds = refl }

module _ {all left : List DayEvent} {ls₀ ss₀ ls ss : List ℕ} {i : ℕ} (g : Storing all left ls₀ ss₀ ls ss i) where
  pub storing_ends : length all ≤ i → (ls ≡ sets ls₀ 0 (map letter_of all)) × (ss ≡ sets ss₀ 0 (map second_of all))
  storing_ends h = go left g
    where
      go : (l : List DayEvent) → Storing all l ls₀ ss₀ ls ss i → (ls ≡ sets ls₀ 0 (map letter_of all)) × (ss ≡ sets ss₀ 0 (map second_of all))
      go [] g = (g.letters, g.seconds)
      go (e ∷ l) g = absurd (omega (arith, g.counted))

  pub storing_on : {e : DayEvent} {rest : List DayEvent} → left ≡ e ∷ rest → Storing all rest ls₀ ss₀ (set ls i e.letter) (set ss i e.second) (i + 1)
  storing_on {e} {rest} p =
      record {
        counted = omega (arith, g.counted, ap length p);
        letters = ap (λ (k : ℕ). sets (set ls i e.letter) k (map letter_of rest)) (add-one i)
            ∙ ap (λ (l : List DayEvent). sets ls i (map letter_of l)) (sym p) ∙ g.letters;
        seconds = ap (λ (k : ℕ). sets (set ss i e.second) k (map second_of rest)) (add-one i)
            ∙ ap (λ (l : List DayEvent). sets ss i (map second_of l)) (sym p) ∙ g.seconds;
      }
