-- Records that are pushed lie one after another. Assumes nothing.
use Prim.Native.Nat.{ℕ, ◌+◌, ◌≤◌}
use native.Mathlib.Omega.{arith}
use native.Mathlib.Numerals.{add-one}
use mathlib.Core.Path.{◌≡◌, refl, ap, ◌∙◌}
use mathlib.Core.List.{List, [], ◌∷◌, ◌++◌}
use lib.ListN.{length, drop, set, length-replicate}
use lib.Seq.{sets, sets-eq}
use Rattle.std.proofs.lemmas.List.{drop-replicate}
use borrow.Author.Tests.{lt-ltb}
use Rattle.expression.specs.Tree.{size, records}
use Rattle.expression.specs.Parse.{alt, measure}
use Rattle.expression.specs.TreeOf.{tree_of}
use Rattle.expression.specs.declared.Kind.TheVariants.{Empty}
use Rattle.expression.specs.declared.Node.{Node}
use Rattle.expression.proofs.RecordLaws.{records_length}
use Rattle.expression.proofs.Parses.{pushes, parse_whole}
use Rattle.rule.specs.RuleAnswer.{unused}
use Rattle.rule.specs.Reader.{State, Written, Done, add, Readable, nodes_read}

stored : (ns : List Node) (l : List Node) (n : ℕ) → n + length ns ≤ 64 → (pushes add (l, n) ns).0 ≡ sets l n ns
unfolding pushes
stored [] l n h = refl
stored (x ∷ ns) l n h =
    ap (λ (r : Written). (pushes add r ns).0) (simp (lt-ltb n 64 (omega arith)))
    ∙ stored ns (set l n x) (n + 1) (omega arith)
    ∙ ap (λ (i : ℕ). sets (set l n x) i ns) (add-one n)

-- 64 unused records into which a sentence was read
pub read_written : (s : List ℕ) (q : State) → Done alt s ((unused 64, 0), 0) q → Readable s → q.0.0 ≡ nodes_read s
read_written s q d r =
    let t = tree_of s in
    let n = records_length t in
    let z : 0 + length (records t) ≡ size t = omega arith in
    ap (λ (p : State). p.0.0)
    (d.same (measure alt s) (omega arith) ∙ parse_whole add r.sentence (unused 64, 0) (measure alt s) (omega arith))
    ∙ stored (records t) (unused 64) 0 (omega (arith, r.few))
    ∙ sets-eq (records t) (unused 64) 0 (omega (arith, r.few, length-replicate {A = Node} 64 (record { offset = 0; kind = Empty })))
    ∙ ap (λ (i : ℕ). records t ++ drop i (unused 64)) z
    ∙ ap (λ (l : List Node). records t ++ l) (drop-replicate (size t) 64 (record { offset = 0; kind = Empty }))
