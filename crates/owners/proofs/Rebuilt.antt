-- A run of records is that of one tree, which `tree_from` rebuilds. Assumes nothing.
use mathlib.Core.Path.{◌≡◌, refl, sym, ap, ◌∙◌}
use mathlib.Core.List.{List, [], ◌∷◌, ◌++◌, append_assoc, append-nil}
use Prim.Native.Nat.{ℕ}
use lib.Seq.{take_at}
use Rattle.expression.specs.declared.Kind.TheVariants.{Union, Intersection, Concatenation, Complement, Star}
use Rattle.expression.specs.declared.Node.{Node}
use Rattle.expression.specs.Tree.{Tree, empty, epsilon, letter, union, intersection, concatenation, complement, star, node_record, records}
use Rattle.expression.specs.TreeOf.{top}
use Rattle.expression.proofs.RecordLaws.{records_length}
use Rattle.owners.specs.Filling.{rebuilt, tree_from, Recorded}

regroup : (a b c d : List Node) → a ++ b ++ c ++ d ≡ a ++ (b ++ (c ++ d))
regroup a b c d = append_assoc (a ++ b) c d ∙ append_assoc a b (c ++ d)

-- the records of a tree leave the tree on the stack
rebuilt_records : (t : Tree) (st : List Tree) (l : List Node) → rebuilt st (records t ++ l) ≡ rebuilt (t ∷ st) l
unfolding records
rebuilt_records (empty o) st l = refl
rebuilt_records (epsilon o) st l = refl
rebuilt_records (letter o c) st l = refl
rebuilt_records (union o a b) st l =
    ap (rebuilt st) (regroup (records a) (records b) (node_record o Union) l)
    ∙ rebuilt_records a st (records b ++ (node_record o Union ++ l)) ∙ rebuilt_records b (a ∷ st) (node_record o Union ++ l)
rebuilt_records (intersection o a b) st l =
    ap (rebuilt st) (regroup (records a) (records b) (node_record o Intersection) l)
    ∙ rebuilt_records a st (records b ++ (node_record o Intersection ++ l)) ∙ rebuilt_records b (a ∷ st) (node_record o Intersection ++ l)
rebuilt_records (concatenation o a b) st l =
    ap (rebuilt st) (regroup (records a) (records b) (node_record o Concatenation) l)
    ∙ rebuilt_records a st (records b ++ (node_record o Concatenation ++ l)) ∙ rebuilt_records b (a ∷ st) (node_record o Concatenation ++ l)
rebuilt_records (complement o a) st l =
    ap (rebuilt st) (append_assoc (records a) (node_record o Complement) l) ∙ rebuilt_records a st (node_record o Complement ++ l)
rebuilt_records (star o a) st l =
    ap (rebuilt st) (append_assoc (records a) (node_record o Star) l) ∙ rebuilt_records a st (node_record o Star ++ l)

-- the tree that is rebuilt from the records of t is t
pub tree_from_lem : (t : Tree) (nodes : List Node) (m : ℕ) → Recorded t nodes m → tree_from nodes m ≡ t
unfolding tree_from
tree_from_lem t nodes m r =
    ap (λ l. tree_from l m) r.front
    ∙ ap (λ l. top (rebuilt [] l)) (take_at (records t) r.pad m (records_length t ∙ r.long) ∙ sym (append-nil (records t)))
    ∙ ap top (rebuilt_records t [] [])
