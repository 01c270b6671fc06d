-- The records of a part are the run of the rule's records that its states name. Assumes nothing.
use mathlib.Core.Path.{◌≡◌, sym, ap, ◌∙◌}
use mathlib.Core.List.{List, [], ◌++◌, append_assoc, append-nil}
use Prim.Native.Nat.{ℕ, ◌+◌}
use native.Mathlib.Omega.{arith}
use lib.ListN.{length, drop, length-append}
use lib.Seq.{slice, take_at, drop_at}
use Rattle.expression.specs.declared.Kind.TheVariants.{Union, Intersection, Concatenation, Complement, Star}
use Rattle.expression.specs.declared.Node.{Node}
use Rattle.expression.specs.Tree.{Tree, size, node_record, records}
use Rattle.expression.proofs.RecordLaws.{records_length}
use Rattle.work.specs.Walk.{Part, itself, union_left, union_right, intersection_left, intersection_right, concatenation_left}
use Rattle.work.specs.Walk.{concatenation_right, complement_inner, star_inner}

-- u's records stand in l behind `front`, which has as many records as lie between x and y
record Run (l : List Node) (x : ℕ) (u : Tree) (y : ℕ) : Type 0 where
  front : List Node
  rest : List Node
  whole : l ≡ front ++ (records u ++ rest)
  long : x + length front ≡ y

-- in a longer list, at its front or behind some records
in_front : {l : List Node} {x y : ℕ} {u : Tree} (m : List Node) → Run l x u y → Run (l ++ m) x u y
in_front {u = u} m r =
    record {
      front = r.front;
      rest = r.rest ++ m;
      whole = ap (◌++ m) r.whole ∙ append_assoc r.front (records u ++ r.rest) m ∙ ap (r.front ++◌)
          (append_assoc (records u) r.rest m);
      long = r.long;
    }

behind : {l : List Node} {x y : ℕ} {u : Tree} (a : Tree) → Run l (x + size a) u y → Run (records a ++ l) x u y
behind {x = x} {u = u} a r =
    record {
      front = records a ++ r.front;
      rest = r.rest;
      whole = ap (records a ++◌) r.whole ∙ sym (append_assoc (records a) r.front (records u ++ r.rest));
      long = omega (arith, length-append (records a) r.front, r.long, records_length a);
    }

run : {t u : Tree} {x y : ℕ} → Part t x u y → Run (records t) x u y
unfolding records
run {t} itself = record { front = []; rest = []; whole = sym (append-nil (records t)); long = omega arith }
run (union_left {o} {b = b} p) = in_front (node_record o Union) (in_front (records b) (run p))
run (union_right {o} {a = a} p) = in_front (node_record o Union) (behind a (run p))
run (intersection_left {o} {b = b} p) = in_front (node_record o Intersection) (in_front (records b) (run p))
run (intersection_right {o} {a = a} p) = in_front (node_record o Intersection) (behind a (run p))
run (concatenation_left {o} {b = b} p) = in_front (node_record o Concatenation) (in_front (records b) (run p))
run (concatenation_right {o} {a = a} p) = in_front (node_record o Concatenation) (behind a (run p))
run (complement_inner {o} p) = in_front (node_record o Complement) (run p)
run (star_inner {o} p) = in_front (node_record o Star) (run p)

-- a part's states are those of the records y to y + size u - 1, and these records are the part's
pub part_records : {t u : Tree} {y : ℕ} → Part t 0 u y → slice y (y + size u) (records t) ≡ records u
part_records {t} {u} {y} p =
    let r = run p in
    let f : length r.front ≡ y = omega (arith, r.long) in
    let e : length (r.front ++ records u) ≡ y + size u = length-append r.front (records u) ∙ omega (arith, f, records_length u) in
    ap (slice y (y + size u)) (r.whole ∙ sym (append_assoc r.front (records u) r.rest))
    ∙ ap (drop y) (take_at (r.front ++ records u) r.rest (y + size u) e)
    ∙ drop_at r.front (records u) y f
