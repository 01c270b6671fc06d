-- A row of numbers, stored one after another, lies over the front of a buffer. Assumes nothing.
use Prim.Native.Nat.{ℕ, suc, ◌+◌, ◌-◌, ◌*◌, ◌≤◌, ◌<◌}
use native.Mathlib.Omega.{arith}
use native.Mathlib.Numerals.{add-one}
use mathlib.Core.Path.{◌≡◌, refl, sym, ap, ap₂, subst, ◌∙◌}
use mathlib.Core.List.{List, [], ◌∷◌, ◌++◌, map, append-nil}
use lib.ListN.{length, take, drop, get_or, set, length-append, length-set, length-drop, drop_of_length-le}
use lib.Seq.{sets, sets-eq, drop-cons, set-append_seam, append_snoc, length-take-le, get_or-take, take_all}
use borrow.Rule.Slice.PartMut.{mid_of, put_mid, same_len_mid}
use Rattle.event.proofs.Tails.{tail, tail_is}
use Rattle.rule_line.specs.Lines.{LineNodes}
use Rattle.wuzlevor.specs.Told.{over, pair_row, node_row, over_at, over_lines}

pub over_sets : (row old : List ℕ) → length row ≤ length old → sets old 0 row ≡ over row old
over_sets row old h =
    let z : 0 + length row ≡ length row = omega arith in
    sets-eq row old 0 (omega arith) ∙ ap (λ (n : ℕ). row ++ drop n old) z

-- one number more
pub over_next : (row old : List ℕ) (x : ℕ) {l : List ℕ} → l ≡ over row old → length row < length old
    → set l (length row) x ≡ over (row ++ x ∷ []) old
over_next row old x e h =
    let n : suc (length row) ≡ length (row ++ x ∷ []) = omega (arith, length-append row (x ∷ [])) in
    ap (λ (t : List ℕ). set t (length row) x) (e ∙ ap (λ (t : List ℕ). row ++ t) (drop-cons old (length row) 0 h))
    ∙ set-append_seam row (get_or old (length row) 0) (drop (suc (length row)) old) x ∙ sym (append_snoc row x (drop (suc (length row)) old))
    ∙ ap (λ (k : ℕ). row ++ x ∷ [] ++ drop k old) n

-- ---- rows of pairs
module _ {A : Type 0} (f g : A → ℕ) where
  pair_row_length : (xs : List A) → length (pair_row f g xs) ≡ 2 * length xs
  unfolding pair_row
  pair_row_length [] = refl
  pair_row_length (x ∷ xs) = omega (arith, pair_row_length xs)

  -- of the first m elements i are stored: storing the others too gives the row of all m
  pub record Writing (xs : List A) (m : ℕ) (old l : List ℕ) (i : ℕ) : Type 0 where
    pub few : i ≤ m
    pub as_long : length l ≡ length old
    pub same : sets l (2 * i) (pair_row f g (drop i (take m xs))) ≡ sets old 0 (pair_row f g (take m xs))

  pub writing_begins : (xs : List A) (m : ℕ) (old : List ℕ) → Writing xs m old old 0
  writing_begins xs m old = record { few = omega arith; as_long = refl; same = refl }

  pub writing_on : {xs : List A} {m : ℕ} {old l : List ℕ} {i k : ℕ} (x : A) → m ≤ length xs → Writing xs m old l i → i < m
      → k ≡ g (get_or xs i x) → Writing xs m old (set (set l (2 * i) (f (get_or xs i x))) (2 * i + 1) k) (i + 1)
  unfolding pair_row
  writing_on {xs} {m} {old} {l} {i} {k} x long w h q =
      let o = f (get_or xs i x) in
      let rest = drop (suc i) (take m xs) in
      let e : 2 * i + 1 ≡ suc (2 * i) = omega arith in
      let j : 2 * (i + 1) ≡ suc (suc (2 * i)) = omega arith in
      let first = drop-cons (take m xs) i x (omega (arith, length-take-le m xs long)) in
      record {
        few = omega arith;
        as_long = length-set (set l (2 * i) o) (2 * i + 1) k ∙ length-set l (2 * i) o ∙ w.as_long;
        same = ap₂ (λ (a b : ℕ). sets (set (set l (2 * i) o) a k) b (pair_row f g (drop (i + 1) (take m xs)))) e j
            ∙ ap₂ (λ (a b : ℕ). sets (set (set l (2 * i) o) (suc (2 * i)) a) (suc (suc (2 * i))) (pair_row f g (drop b (take m xs)))) q (add-one i)
            ∙ ap (λ (t : List A). sets l (2 * i) (pair_row f g t)) (sym (first ∙ ap (λ (y : A). y ∷ rest) (get_or-take m xs i x h))) ∙ w.same;
      }

  pub writing_ends : {xs : List A} {m : ℕ} {old l : List ℕ} {i : ℕ} → m ≤ length xs → 2 * m ≤ length old → Writing xs m old l i → m ≤ i
      → l ≡ over (pair_row f g (take m xs)) old
  unfolding pair_row
  writing_ends {xs} {m} {old} {l} {i} long room w h =
      let e = length-take-le m xs long in
      ap (λ (t : List A). sets l (2 * i) (pair_row f g t)) (sym (drop_of_length-le (take m xs) {i = i} (omega arith))) ∙ w.same
      ∙ over_sets (pair_row f g (take m xs)) old (omega (arith, pair_row_length (take m xs)))

  -- of an element that is at its place
  pub writing_at : {xs : List A} {m : ℕ} {old l : List ℕ} {i : ℕ} (x : A) → x ≡ get_or xs i x → m ≤ length xs → Writing xs m old l i → i < m
      → Writing xs m old (set (set l (2 * i) (f x)) (2 * i + 1) (g x)) (i + 1)
  writing_at {xs} {m} {old} {l} {i} x e long w h =
      subst (λ (y : A). Writing xs m old (set (set l (2 * i) (f y)) (2 * i + 1) (g y)) (i + 1)) (sym e) (writing_on x long w h refl)

  -- all of them are stored
  pub writing_all : {xs : List A} {old l : List ℕ} {i : ℕ} → 2 * length xs ≤ length old → Writing xs (length xs) old l i → length xs ≤ i
      → l ≡ over (pair_row f g xs) old
  writing_all {xs} {old} room w h =
      writing_ends (omega arith) room w h ∙ ap (λ (ys : List A). over (pair_row f g ys) old) (take_all (length xs) xs (omega arith))

-- the same of what is made of each element
pub pair_row_map : {A B : Type 0} (h : B → A) (f g : A → ℕ) (xs : List B) → pair_row f g (map h xs) ≡ pair_row (λ (x : B). f (h x)) (λ (x : B). g (h x)) xs
unfolding pair_row
pair_row_map h f g [] = refl
pair_row_map h f g (x ∷ xs) = ap (λ (l : List ℕ). f (h x) ∷ g (h x) ∷ l) (pair_row_map h f g xs)

-- ---- the nodes of lines
-- the nodes of i of the lines are written: writing those of the others too gives all
pub record Filling (read : List LineNodes) (old l : List ℕ) (i : ℕ) : Type 0 where
  pub few : i ≤ length read
  pub as_long : length l ≡ length old
  pub same : over_lines i (drop i read) l ≡ over_lines 0 read old

pub filling_begins : (read : List LineNodes) (old : List ℕ) → Filling read old old 0
filling_begins read old = record { few = omega arith; as_long = refl; same = refl }

-- a row that is written to the part of a buffer from an element on
part_over : (a : ℕ) (row xs : List ℕ) {ys : List ℕ} → ys ≡ over row (tail a xs) → put_mid a (length xs - a) xs ys ≡ over_at a row xs
part_over a row xs {ys} e =
    let n : length (drop a xs) ≤ length xs - a = omega (arith, length-drop a xs) in
    ap (λ (z : List ℕ). take a xs ++ (ys ++ z)) (drop_of_length-le (drop a xs) {i = length xs - a} n)
    ∙ ap (λ (z : List ℕ). take a xs ++ z) (append-nil ys ∙ e ∙ ap (over row) (tail_is a xs))

module _ {read : List LineNodes} {old l : List ℕ} {i : ℕ} (x : LineNodes) (w : Filling read old l i) (h : i < length read) (e : x ≡ get_or read i x) where
  -- the nodes of line i are written to the buffer's part from their place on
  pub filling_on : (ys : List ℕ) → length ys ≡ length (mid_of (128 * i) (length l - 128 * i) l)
      → ys ≡ over (node_row (take x.m x.nodes)) (tail (128 * i) l) → Filling read old (put_mid (128 * i) (length l - 128 * i) l ys) (i + 1)
  unfolding over_lines
  filling_on ys k y =
      let rest = drop (suc i) read in
      let put = part_over (128 * i) (node_row (take x.m x.nodes)) l y in
      record {
        few = omega arith;
        as_long = same_len_mid (128 * i) (length l - 128 * i) l ys k ∙ w.as_long;
        same = ap₂ (λ (a : ℕ) (t : List ℕ). over_lines (i + 1) (drop a read) t) (add-one i) put
            ∙ ap (λ (t : List LineNodes). over_lines i t l) (sym (drop-cons read i x h ∙ ap (λ (z : LineNodes). z ∷ rest) (sym e))) ∙ w.same;
      }

pub filling_ends : {read : List LineNodes} {old l : List ℕ} {i : ℕ} → Filling read old l i → length read ≤ i → l ≡ over_lines 0 read old
unfolding over_lines
filling_ends {read} {old} {l} {i} w h = ap (λ (t : List LineNodes). over_lines i t l) (sym (drop_of_length-le read {i = i} h)) ∙ w.same
