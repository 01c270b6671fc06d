-- Sums over the parts of a rule, record by record. Assumes nothing.
use mathlib.Core.Path.{◌≡◌, refl, sym, ap, ◌∙◌}
use mathlib.Core.Bool.{Bool, true, false, cond, ◌&&◌}
use mathlib.Core.Logic.{⊎_elim}
use mathlib.Core.List.{List, [], ◌∷◌, ◌++◌}
use Prim.Native.Nat.{ℕ, zero, suc, ◌+◌, ◌*◌, ◌≤◌, ◌<◌}
use native.Mathlib.Omega.{arith}
use native.Mathlib.Numerals.{add-one}
use native.Mathlib.Nat.{le_refl}
use native.Mathlib.Decide.{le_ind}
use lib.Dec.{ltb}
use lib.ListN.{length, get_or}
use Rattle.bits.specs.Runs.{indicator}
use Rattle.bits.proofs.Digits.{same_or_not}
use Rattle.event.specs.Event.{Word}
use Rattle.expression.specs.declared.Node.{Node}
use Rattle.expression.specs.Tree.{Tree, empty, epsilon, letter, union, intersection, concatenation, complement, star, offset, size, is_special}
use Rattle.moves.specs.Moves.{kind_at, special_kind}
use Rattle.walk.specs.Filled.{sum_below}
use Rattle.work.specs.Count.{special_walks}
use Rattle.work.specs.Table.{block_length}
use Rattle.work.specs.TableComputed.{special_parts}
use Rattle.owners.specs.Filling.{Recorded}
use Rattle.owners.specs.Parts.{all_parts, part_at}
use Rattle.owners.specs.Blocks.{offset_at, specials_before, first_at}
use Rattle.owners.specs.Turns.{own_walks}
use Rattle.owners.proofs.PartLaws.{all_length, special_is, offset_is}

-- ---- the numbers below k
sum_same : (f g : ℕ → ℕ) (k : ℕ) → ((i : ℕ) → i < k → f i ≡ g i) → sum_below f k ≡ sum_below g k
unfolding sum_below
sum_same f g zero h = refl
sum_same f g (suc k) h = let e = sum_same f g k (λ i l. h i (omega arith)) in let d = h k (omega arith) in omega arith

-- of two sums, term by term, the second is more by as many terms as are more
module _ (f g : ℕ → ℕ) (up : (i : ℕ) → f i ≤ g i) where
  sum_up : (k : ℕ) → sum_below f k ≤ sum_below g k
  unfolding sum_below
  sum_up zero = omega arith
  sum_up (suc k) = omega (arith, sum_up k, up k)

  sum_one_up : (k y : ℕ) → y < k → f y < g y → sum_below f k + 1 ≤ sum_below g k
  unfolding sum_below
  sum_one_up zero y h l = absurd (omega arith)
  sum_one_up (suc k) y h l =
      ⊎_elim (λ (e : y ≡ k). let d = rw e at l in omega (arith, sum_up k))
      (λ (n : y ≡ k → ⊥). omega (arith, sum_one_up k y (omega arith) l, up k)) (same_or_not y k)

  pub sum_two_up : (k y z : ℕ) → y < z → z < k → f y < g y → f z < g z → sum_below f k + 2 ≤ sum_below g k
  unfolding sum_below
  sum_two_up zero y z h i l m = absurd (omega arith)
  sum_two_up (suc k) y z h i l m =
      ⊎_elim (λ (e : z ≡ k). let d = rw e at m in omega (arith, sum_one_up k y (omega arith) l))
      (λ (n : z ≡ k → ⊥). omega (arith, sum_two_up k y z h (omega arith) l m, up k)) (same_or_not z k)

sum_shift : (g : ℕ → ℕ) (k : ℕ) → sum_below g (suc k) ≡ g 0 + sum_below (λ (y : ℕ). g (suc y)) k
unfolding sum_below
sum_shift g zero = refl
sum_shift g (suc k) = omega (arith, sum_shift g k)

-- ---- the parts

-- the sum of f over a list of parts
abbrev pub sum_over : (Tree → ℕ) → List Tree → ℕ
sum_over f [] = 0
sum_over f (u ∷ l) = f u + sum_over f l

sum_list : (f : Tree → ℕ) (l : List Tree) → sum_below (λ (y : ℕ). f (get_or l y (empty 0))) (length l) ≡ sum_over f l
unfolding sum_below
sum_list f [] = refl
sum_list f (u ∷ l) = sum_shift (λ (y : ℕ). f (get_or (u ∷ l) y (empty 0))) (length l) ∙ ap (f u +◌) (sum_list f l)

sum_append : (f : Tree → ℕ) (l m : List Tree) → sum_over f (l ++ m) ≡ sum_over f l + sum_over f m
sum_append f [] m = omega arith
sum_append f (u ∷ l) m = omega (arith, sum_append f l m)

sum_two : (f : Tree → ℕ) (l m : List Tree) (u : Tree) → sum_over f (l ++ m ++ (u ∷ [])) ≡ sum_over f l + (sum_over f m + f u)
sum_two f l m u = sum_append f (l ++ m) (u ∷ []) ∙ omega (arith, sum_append f l m)

sum_one : (f : Tree → ℕ) (l : List Tree) (u : Tree) → sum_over f (l ++ (u ∷ [])) ≡ sum_over f l + f u
sum_one f l u = sum_append f l (u ∷ []) ∙ omega arith

-- the special ones among all parts
abbrev pub if_special : (Tree → ℕ) → Tree → ℕ
if_special f u = cond (is_special u) (f u) 0

sum_special : (f : Tree → ℕ) (t : Tree) → sum_over (if_special f) (all_parts t) ≡ sum_over f (special_parts t)
unfolding all_parts
sum_special f (empty o) = refl
sum_special f (epsilon o) = refl
sum_special f (letter o c) = refl
sum_special f (union o a b) =
    sum_two (if_special f) (all_parts a) (all_parts b) (union o a b)
    ∙ omega (arith, sum_special f a, sum_special f b, sum_append f (special_parts a) (special_parts b))
sum_special f (intersection o a b) =
    sum_two (if_special f) (all_parts a) (all_parts b) (intersection o a b)
    ∙ omega (arith, sum_special f a, sum_special f b, sum_append f (special_parts a) (intersection o a b ∷ special_parts b))
sum_special f (concatenation o a b) =
    sum_two (if_special f) (all_parts a) (all_parts b) (concatenation o a b)
    ∙ omega (arith, sum_special f a, sum_special f b, sum_append f (special_parts a) (special_parts b))
sum_special f (complement o a) = sum_one (if_special f) (all_parts a) (complement o a) ∙ omega (arith, sum_special f a)
sum_special f (star o a) = sum_one (if_special f) (all_parts a) (star o a) ∙ omega (arith, sum_special f a)

-- ---- the special nodes before an offset

-- 1 for a part with an offset below o, 0 for any other
abbrev pub before : ℕ → Tree → ℕ
before o u = indicator (ltb (offset u) o)

-- how many special parts have an offset below o
unfoldable pub parts_before : Tree → ℕ → ℕ
parts_before t o = sum_over (before o) (special_parts t)

-- they are as many as the special records
pub records_before : (t : Tree) (o : ℕ) → sum_below (λ (y : ℕ). if_special (before o) (part_at t y)) (size t) ≡ parts_before t o
unfolding parts_before
records_before t o =
    ap (sum_below (λ (y : ℕ). if_special (before o) (part_at t y))) (sym (all_length t))
    ∙ sum_list (if_special (before o)) (all_parts t) ∙ sum_special (before o) t

and_cond : (a b : Bool) → indicator (a && b) ≡ cond a (indicator b) 0
and_cond true b = refl
and_cond false b = refl

module _ {t : Tree} {nodes : List Node} {m : ℕ} (r : Recorded t nodes m) where
  before_is : (o : ℕ) → specials_before nodes o m ≡ parts_before t o
  unfolding specials_before
  before_is o =
      sum_same (λ (y : ℕ). indicator (special_kind (kind_at nodes y) && ltb (offset_at nodes y) o))
      (λ (y : ℕ). if_special (before o) (part_at t y)) m
      (λ i h. and_cond (special_kind (kind_at nodes i)) (ltb (offset_at nodes i) o) ∙ rw (special_is r i h, offset_is r i h) refl)
      ∙ ap (sum_below (λ (y : ℕ). if_special (before o) (part_at t y))) (sym r.long) ∙ records_before t o

  -- the first number that the records give is the part's
  pub first_is : (n special y : ℕ) → y < m
      → first_at nodes m n special y
      ≡ cond (is_special (part_at t y)) (special + parts_before t (offset (part_at t y)) * block_length n) 0
  unfolding first_at
  first_is n special y h = rw (special_is r y h, offset_is r y h, before_is (offset (part_at t y))) refl

-- ---- the walks of the special owners among the first k records
unfoldable pub walks_below : Word → Tree → ℕ → ℕ
walks_below w t k = sum_below (λ (y : ℕ). own_walks w (part_at t y)) k

own_list : (w : Word) (t : Tree) → sum_over (own_walks w) (all_parts t) ≡ special_walks w t
unfolding all_parts own_walks
own_list w (empty o) = refl
own_list w (epsilon o) = refl
own_list w (letter o c) = refl
own_list w (union o a b) = sum_two (own_walks w) (all_parts a) (all_parts b) _ ∙ omega (arith, own_list w a, own_list w b)
own_list w (intersection o a b) = sum_two (own_walks w) (all_parts a) (all_parts b) _ ∙ omega (arith, own_list w a, own_list w b)
own_list w (concatenation o a b) = sum_two (own_walks w) (all_parts a) (all_parts b) _ ∙ omega (arith, own_list w a, own_list w b)
own_list w (complement o a) = sum_one (own_walks w) (all_parts a) _ ∙ omega (arith, own_list w a)
own_list w (star o a) = sum_one (own_walks w) (all_parts a) _ ∙ omega (arith, own_list w a)

pub below_all : (w : Word) (t : Tree) → walks_below w t (size t) ≡ special_walks w t
unfolding walks_below
below_all w t =
    ap (sum_below (λ (y : ℕ). own_walks w (part_at t y))) (sym (all_length t)) ∙ sum_list (own_walks w) (all_parts t) ∙ own_list w t

pub below_none : (w : Word) (t : Tree) → walks_below w t 0 ≡ 0
unfolding walks_below sum_below
below_none w t = refl

pub below_more : (w : Word) (t : Tree) (k : ℕ) → walks_below w t (k + 1) ≡ own_walks w (part_at t k) + walks_below w t k
unfolding walks_below sum_below
below_more w t k = rw add-one refl

pub below_up : (w : Word) (t : Tree) (k n : ℕ) → k ≤ n → walks_below w t k ≤ walks_below w t n
unfolding walks_below sum_below
below_up w t k n h = le_ind (λ (m : ℕ). walks_below w t k ≤ walks_below w t m) (le_refl (walks_below w t k)) (λ m _ e. omega arith) n h
