-- The tail of a slice, as code hands it on: `&s[n..]` is `tail n s`. Assumes nothing.
use Prim.Native.Nat.{ℕ, ◌+◌, ◌-◌, ◌<◌}
use native.Mathlib.Omega.{arith}
use native.Mathlib.Numerals.{add-one}
use mathlib.Core.Path.{◌≡◌, sym, ap, ◌∙◌}
use mathlib.Core.List.{List, ◌∷◌}
use lib.Seq.{take_all, drop-cons}
use lib.ListN.{length, get_or, take, drop, length-drop}

abbrev pub tail : ℕ → List ℕ → List ℕ
tail n s = take (length s - n) (drop n s)

pub tail_is : (n : ℕ) (s : List ℕ) → tail n s ≡ drop n s
tail_is n s = take_all (length s - n) (drop n s) (omega (arith, length-drop n s))

pub tail_length : (n : ℕ) (s : List ℕ) → length (tail n s) ≡ length s - n
tail_length n s = ap length (tail_is n s) ∙ length-drop n s

-- the rest from n on, where there is an element at n
pub rest_at : (s : List ℕ) (n : ℕ) → n < length s → drop n s ≡ get_or s n 0 ∷ drop (n + 1) s
rest_at s n h = drop-cons s n 0 h ∙ ap (λ (k : ℕ). get_or s n 0 ∷ drop k s) (sym (add-one n))
