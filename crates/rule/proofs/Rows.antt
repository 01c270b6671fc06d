-- What a call that reads a rule first makes of the row "Rule text": a refusal of the row, or a text that passes. Assumes nothing.
use Prim.Native.Nat.{ℕ, ◌≤◌}
use native.Mathlib.Omega.{arith}
use mathlib.Core.Path.{◌≡◌, refl, sym, ap, ap₂, ◌∙◌}
use mathlib.Core.List.{List}
use lib.ListN.{length, length-append, length-replicate}
use Rattle.expression.specs.Tree.{Tree}
use Rattle.expression.proofs.RecordLaws.{records_length}
use Rattle.verdict.specs.declared.Verdict.{Verdict}
use Rattle.verdict.proofs.ByReader.{ByReader, below_judge, above_judge}
use Rattle.rule.specs.RuleAnswer.{RuleAnswer, refusal, refusal_verdict, acceptance}
use Rattle.rule.specs.RuleMeaning.{Passed, RuleMeaning, ill_formed, double_star, many_nodes, many_specials, accepted}
use Rattle.rule.specs.declared.Refusal.{Refusal}
use Rattle.rule.specs.declared.Refusal.TheVariants.{EmptyText, LongText, ForeignByte, NoSentence, UnorderedSet, DoubleStar, ManyNodes, ManySpecials}
use Rattle.rule.proofs.Answered.{ill_formed_is}

pub in_row : (r : Refusal) → ByReader (refusal_verdict r)
in_row EmptyText = below_judge 1 0 (omega arith) (omega arith)
in_row LongText = below_judge 2 0 (omega arith) (omega arith)
in_row (ForeignByte n) = below_judge 3 n (omega arith) (omega arith)
in_row (NoSentence n) = below_judge 4 n (omega arith) (omega arith)
in_row (UnorderedSet n) = above_judge 20 n (omega arith)
in_row (DoubleStar n) = above_judge 21 n (omega arith)
in_row ManyNodes = below_judge 5 0 (omega arith) (omega arith)
in_row ManySpecials = below_judge 6 0 (omega arith) (omega arith)

-- which of the two an answer is
data Row (s : List ℕ) (a : RuleAnswer) : Type 0 where
  refused_by : (r : Refusal) → a ≡ refusal (refusal_verdict r).number (refusal_verdict r).place → Row s a
  passed_as : (t : Tree) → Passed s t → a ≡ acceptance t → Row s a

row : {s : List ℕ} {a : RuleAnswer} → RuleMeaning s a → Row s a
row (ill_formed u) =
    let x = ill_formed_is u in
    refused_by x.why (ap (λ (v : Verdict). refusal v.number v.place) (sym x.verdict))
row (double_star {n = n} f d) = refused_by (DoubleStar n) refl
row (many_nodes f d h) = refused_by ManyNodes refl
row (many_specials f d h g) = refused_by ManySpecials refl
row (accepted {t = t} p) = passed_as t p refl

number_of : {a b : RuleAnswer} → a ≡ b → a.number ≡ b.number
number_of e = ap (λ (x : RuleAnswer). x.number) e

-- an answer that accepts: the tree, and that it is no other answer
pub record Accepting (s : List ℕ) (a : RuleAnswer) : Type 0 where
  pub tree : Tree
  pub passed : Passed s tree
  pub same : a ≡ acceptance tree

pub accepting : {s : List ℕ} {a : RuleAnswer} → RuleMeaning s a → a.number ≡ 0 → Accepting s a
accepting {s} {a} m e = go (row m)
  where
    go : Row s a → Accepting s a
    go (refused_by r q) = absurd ((in_row r).number (sym (number_of q) ∙ e))
    go (passed_as t p q) = record { tree = t; passed = p; same = q }

-- an answer that refuses has its number and place, and nothing else
pub refusing : {s : List ℕ} {a : RuleAnswer} → RuleMeaning s a → (a.number ≡ 0 → ⊥) → a ≡ refusal a.number a.place
refusing {s} {a} m e = go (row m)
  where
    go : Row s a → a ≡ refusal a.number a.place
    go (refused_by r q) = q ∙ sym (ap₂ refusal (number_of q) (ap (λ (x : RuleAnswer). x.place) q))
    go (passed_as t p q) = absurd (e (number_of q))

-- no number of the row is one of the judge's own
pub row_apart : {s : List ℕ} {a : RuleAnswer} → RuleMeaning s a → 7 ≤ a.number → a.number ≤ 10 → ⊥
row_apart {s} {a} m h l = go (row m)
  where
    go : Row s a → ⊥
    go (refused_by r q) = let e = number_of q in (in_row r).apart (omega arith) (omega arith)
    go (passed_as t p q) = let e = number_of q in omega arith

-- a refusal has a number: the text that passes has a node
pub refused_number : {s : List ℕ} {n p : ℕ} → RuleMeaning s (refusal n p) → n ≡ 0 → ⊥
refused_number r e =
    let a = accepting r e in
    let m = ap (λ (x : RuleAnswer). x.m) a.same in
    omega arith

-- m and k of every answer
pub sizes : {s : List ℕ} {a : RuleAnswer} → RuleMeaning s a → (a.m ≤ 64) × (a.k ≤ 7)
sizes {s} {a} m = go (row m)
  where
    go : Row s a → (a.m ≤ 64) × (a.k ≤ 7)
    go (refused_by r q) =
        let e = ap (λ (x : RuleAnswer). x.m) q in
        let f = ap (λ (x : RuleAnswer). x.k) q in
        (omega arith, omega arith)
    go (passed_as t p q) =
        let e = ap (λ (x : RuleAnswer). x.m) q in
        let f = ap (λ (x : RuleAnswer). x.k) q in
        (omega (arith, p.nodes), omega (arith, p.special))

-- how many records every answer has
pub records_many : {s : List ℕ} {a : RuleAnswer} → RuleMeaning s a → length a.nodes ≡ 64
records_many {s} {a} m = go (row m)
  where
    go : Row s a → length a.nodes ≡ 64
    go (refused_by r q) = ap (λ (x : RuleAnswer). length x.nodes) q
    go (passed_as t p q) =
        let e = ap (λ (x : RuleAnswer). length x.nodes) q in
        let l : length (acceptance t).nodes ≡ 64 = simp (length-append, length-replicate) (omega (arith, records_length t, p.nodes)) in
        e ∙ l
