-- Whose a state is. No walk asks: each goes from where its owner's walk begins; that it stays with its owner is `reaches_owner` in
-- proofs/StateOwners. Assumes nothing.
use Rattle.std.specs.Prelude.{◌≡◌, ◌⊎◌, ℕ, ◌+◌}
use Rattle.expression.specs.Tree.{Tree, union, intersection, concatenation, complement, star, size, below}
use Rattle.work.specs.Walk.{Owner, whole, special, entry, exit}

-- 01: "The owner of a state is the innermost special node that strictly contains the state's node, or the whole rule where there is none.
-- A special node's own two states thus belong to what surrounds it."
-- `Owns t u v y`: u owns the two states of the root of v, a part of the rule t whose records stand from y on.
pub data Owns (t : Tree) : Owner → Tree → ℕ → Type 0 where
  of_rule : Owns t whole t 0
  of_union_left : {u : Owner} {o x : ℕ} {a b : Tree} → Owns t u (union o a b) x → Owns t u a x
  of_union_right : {u : Owner} {o x : ℕ} {a b : Tree} → Owns t u (union o a b) x → Owns t u b (x + size a)
  of_concatenation_left : {u : Owner} {o x : ℕ} {a b : Tree} → Owns t u (concatenation o a b) x → Owns t u a x
  of_concatenation_right : {u : Owner} {o x : ℕ} {a b : Tree} → Owns t u (concatenation o a b) x → Owns t u b (x + size a)
  of_star : {u : Owner} {o x : ℕ} {a : Tree} → Owns t u (star o a) x → Owns t u a x
  of_intersection_left : {u : Owner} {o x : ℕ} {a b : Tree} → Owns t u (intersection o a b) x
      → Owns t (special (x + below (intersection o a b))) a x
  of_intersection_right : {u : Owner} {o x : ℕ} {a b : Tree} → Owns t u (intersection o a b) x
      → Owns t (special (x + below (intersection o a b))) b (x + size a)
  of_complement : {u : Owner} {o x : ℕ} {a : Tree} → Owns t u (complement o a) x → Owns t (special (x + below (complement o a))) a x

-- s is a state that u owns
pub record StateOf (t : Tree) (u : Owner) (s : ℕ) : Type 0 where
  pub part : Tree
  pub first : ℕ
  pub owns : Owns t u part first
  pub state : (s ≡ entry part first) ⊎ (s ≡ exit part first)
