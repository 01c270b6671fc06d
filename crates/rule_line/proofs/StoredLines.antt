-- What is kept of the lines that have passed. Assumes nothing.
use Prim.Native.Nat.{ℕ, zero, suc, ◌-◌, ◌*◌, ◌≤◌}
use native.Mathlib.Omega.{arith}
use native.Mathlib.Nat.{mul-le-mul_left}
use mathlib.Core.Path.{◌≡◌, sym, ap, ◌∙◌}
use mathlib.Core.Bool.{true}
use mathlib.Core.List.{List, [], ◌∷◌, ◌++◌}
use lib.ListN.{length, take}
use lib.Seq.{take-append_seam}
use Rattle.std.specs.List.{AllZip}
use Rattle.expression.specs.Tree.{Tree, size, specials, records}
use Rattle.expression.specs.declared.Node.{Node}
use Rattle.expression.proofs.RecordLaws.{records_length}
use Rattle.rule.specs.RuleAnswer.{unused}
use Rattle.rule_line.specs.Lines.{Line, LineNodes}
use Rattle.rule_line.specs.LineComputed.{has, text_of, tree_named}
use Rattle.rule_line.specs.Offsets.{OffsetsWithin}
use Rattle.rule_line.specs.Coding.{rule_at}
use Rattle.rule_line.specs.Keeping.{Keeps, Each}
use Rattle.rule_line.specs.Passed.{PassedLine}
use Rattle.rule_line.proofs.ByName.{found, rule_found, Told}
use Rattle.rule_line.proofs.GraftWritten.{Below}

pub first_nodes : (t : Tree) → take (size t) (records t ++ unused (64 - size t)) ≡ records t
first_nodes t =
    ap (λ (n : ℕ). take n (records t ++ unused (64 - size t))) (sym (records_length t)) ∙ take-append_seam (records t) (unused (64 - size t))

-- a name's rule is kept as what it stands for
pub told : (lines : List PassedLine) (ls : List Line) → AllZip Keeps lines ls → (n : List ℕ) → has ls n ≡ true
    → Told lines (text_of ls) (tree_named ls) n
told lines ls e n h =
    let f = found lines ls e (λ (l : Line). Unit {0}) (any ls) n h in
    let s = f.keeps.stored in
    record {
      rule = f.kept.rule;
      at = rule_found lines ls e n h ∙ ap rule_at f.at;
      long = f.keeps.long ∙ ap length (sym f.text);
      nodes = ap (λ (x : LineNodes). x.m) s ∙ ap size (sym f.tree);
      special = ap (λ (x : LineNodes). x.k) s ∙ ap specials (sym f.tree);
      written = ap (λ (x : LineNodes). take x.m x.nodes) s ∙ first_nodes f.line.tree ∙ ap records (sym f.tree);
    }
  where
    any : (ls : List Line) → Each (λ (l : Line). Unit {0}) ls
    any [] = tt
    any (l ∷ ls) = (tt, any ls)

-- how long the replaced text of a line can be below fewer than r others, and so of one of 16 lines
pub text_bound : (r s n : ℕ) → s ≤ 64 → n ≤ 255 * r * s → n ≤ 16320 * r
text_bound r s n g l =
    let m : 255 * r * s ≤ 255 * r * 64 = mul-le-mul_left (255 * r) g in
    omega arith

pub text_most : (r s n : ℕ) → r ≤ 16 → s ≤ 64 → n ≤ 255 * r * s → n ≤ 261120
text_most r s n h g l = omega (arith, text_bound r s n g l)

-- ---- offsets
pub below_within : (m n : ℕ) → m ≤ n → (ns : List Node) → Below m ns → OffsetsWithin n ns
below_within m n h [] b i = omega arith
below_within m n h (x ∷ ns) b zero = omega (arith, b.0)
below_within m n h (x ∷ ns) b (suc i) = below_within m n h ns b.1 i

pub unused_within : (n k : ℕ) → OffsetsWithin n (unused k)
unused_within n zero i = omega arith
unused_within n (suc k) zero = omega arith
unused_within n (suc k) (suc i) = unused_within n k i

pub within_unused : (n k : ℕ) (ns : List Node) → OffsetsWithin n ns → OffsetsWithin n (ns ++ unused k)
within_unused n k [] h i = unused_within n k i
within_unused n k (x ∷ ns) h zero = h 0
within_unused n k (x ∷ ns) h (suc i) = within_unused n k ns (λ j. h (suc j)) i
