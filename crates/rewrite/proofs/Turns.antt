-- One turn of the loops over a text. Assumes nothing.
use Prim.Native.Nat.{ℕ, ◌+◌, ◌≤◌, ◌<◌}
use native.Mathlib.Omega.{arith}
use native.Mathlib.Numerals.{add-one}
use mathlib.Core.Path.{◌≡◌, refl, sym, ap, ◌∙◌}
use mathlib.Core.Bool.{true, false}
use mathlib.Core.List.{List, [], ◌∷◌, ◌++◌}
use lib.ListN.{length, get_or, set, drop, length-set, drop_of_length-le}
use lib.Seq.{sets, sets-eq}
use Rattle.event.proofs.Tails.{rest_at}
use Rattle.expression.specs.StarsComputed.{doubles}
use Rattle.rewrite.specs.Rewritten.{squeezed_after, rewritten}
use Rattle.rewrite.proofs.StarLaws.{squeezed_left, squeezed_kept}

-- what is still to come of the new text
abbrev pub rest : List ℕ → ℕ → ℕ → List ℕ
rest s p i = squeezed_after p (drop i s)

pub rest_left : (s : List ℕ) (p i : ℕ) → i < length s → doubles p (get_or s i 0) ≡ true → rest s p i ≡ rest s (get_or s i 0) (i + 1)
rest_left s p i h e = ap (squeezed_after p) (rest_at s i h) ∙ squeezed_left p (get_or s i 0) (drop (i + 1) s) e

pub rest_kept : (s : List ℕ) (p i : ℕ) → i < length s → doubles p (get_or s i 0) ≡ false
    → rest s p i ≡ get_or s i 0 ∷ rest s (get_or s i 0) (i + 1)
rest_kept s p i h e = ap (squeezed_after p) (rest_at s i h) ∙ squeezed_kept p (get_or s i 0) (drop (i + 1) s) e

pub rest_end : (s : List ℕ) (p i : ℕ) → length s ≤ i → rest s p i ≡ []
unfolding squeezed_after
rest_end s p i h = ap (squeezed_after p) (drop_of_length-le s h)

-- so much is counted
pub record Counting (s : List ℕ) (p n i : ℕ) : Type 0 where
  pub within : i ≤ length s
  pub few : n ≤ i
  pub total : n + length (rest s p i) ≡ length (rewritten s)

-- so much is written
pub record Writing (s old out : List ℕ) (p n i : ℕ) : Type 0 where
  pub within : i ≤ length s
  pub long : length out ≡ length old
  pub room : n + length (rest s p i) ≤ length old
  pub whole : sets out n (rest s p i) ≡ sets old 0 (rewritten s)

pub counting_left : {s : List ℕ} {p n i : ℕ} → Counting s p n i → i < length s → doubles p (get_or s i 0) ≡ true
    → Counting s (get_or s i 0) n (i + 1)
counting_left {s} {p} {n} {i} c h e =
    let f = ap length (rest_left s p i h e) in
    record { within = omega arith; few = omega (arith, c.few); total = omega (arith, c.total) }

pub counting_kept : {s : List ℕ} {p n i : ℕ} → Counting s p n i → i < length s → doubles p (get_or s i 0) ≡ false
    → Counting s (get_or s i 0) (n + 1) (i + 1)
counting_kept {s} {p} {n} {i} c h e =
    let f = ap length (rest_kept s p i h e) in
    record { within = omega arith; few = omega (arith, c.few); total = omega (arith, c.total) }

pub counting_ends : {s : List ℕ} {p n i : ℕ} → Counting s p n i → length s ≤ i → n ≡ length (rewritten s)
counting_ends {s} {p} {n} {i} c h = let f = ap length (rest_end s p i h) in omega (arith, c.total)

pub writing_begins : (s old : List ℕ) → length (rewritten s) ≤ length old → Writing s old old 0 0 0
writing_begins s old h = record { within = omega arith; long = refl; room = omega arith; whole = refl }

pub writing_left : {s old out : List ℕ} {p n i : ℕ} → Writing s old out p n i → i < length s → doubles p (get_or s i 0) ≡ true
    → Writing s old out (get_or s i 0) n (i + 1)
writing_left {s} {old} {out} {p} {n} {i} c h e =
    let f = rest_left s p i h e in
    let g = ap length f in
    record {
      within = omega arith;
      long = c.long;
      room = omega (arith, c.room);
      whole = ap (sets out n) (sym f) ∙ c.whole;
    }

pub writing_fits : {s old out : List ℕ} {p n i : ℕ} → Writing s old out p n i → i < length s → doubles p (get_or s i 0) ≡ false → n < length out
writing_fits {s} {old} {out} {p} {n} {i} c h e = let g = ap length (rest_kept s p i h e) in omega (arith, c.room, c.long)

pub writing_kept : {s old out : List ℕ} {p n i : ℕ} → Writing s old out p n i → i < length s → doubles p (get_or s i 0) ≡ false
    → Writing s old (set out n (get_or s i 0)) (get_or s i 0) (n + 1) (i + 1)
writing_kept {s} {old} {out} {p} {n} {i} c h e =
    let b = get_or s i 0 in
    let f = rest_kept s p i h e in
    let g = ap length f in
    record {
      within = omega arith;
      long = length-set out n b ∙ c.long;
      room = omega (arith, c.room);
      whole = ap (λ (k : ℕ). sets (set out n b) k (rest s b (i + 1))) (add-one n) ∙ ap (sets out n) (sym f) ∙ c.whole;
    }

pub writing_ends : {s old out : List ℕ} {p n i : ℕ} → Writing s old out p n i → length s ≤ i → length (rewritten s) ≤ length old
    → out ≡ rewritten s ++ drop (length (rewritten s)) old
writing_ends {s} {old} {out} {p} {n} {i} c h l =
    let z : 0 + length (rewritten s) ≡ length (rewritten s) = omega arith in
    ap (sets out n) (sym (rest_end s p i h)) ∙ c.whole ∙ sets-eq (rewritten s) old 0 (omega arith)
    ∙ ap (λ (k : ℕ). rewritten s ++ drop k old) z
