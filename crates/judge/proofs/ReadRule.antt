-- What a reader's records of a rule, with its m and k, are to the matcher. Assumes nothing.
use Prim.Native.Nat.{ℕ, ◌-◌, ◌≤◌}
use native.Mathlib.Omega.{arith}
use mathlib.Core.Path.{◌≡◌, sym, subst}
use mathlib.Core.List.{List, ◌++◌}
use Rattle.expression.specs.Tree.{Tree, size, specials, records}
use Rattle.expression.specs.declared.Node.{Node}
use Rattle.rule.specs.RuleAnswer.{unused}
use Rattle.work.specs.Table.{Rising}
use Rattle.work.specs.TableComputed.{special_parts}
use Rattle.owners.specs.Filling.{tree_from, Recorded}
use Rattle.owners.proofs.Rebuilt.{tree_from_lem}
use Rattle.matcher.specs.Given.{RuleRecords}

-- the records of a rule within the bounds, as both readers answer them
pub record ReadRule (t : Tree) (nodes : List Node) (m k : ℕ) : Type 0 where
  pub front : nodes ≡ records t ++ unused (64 - size t)
  pub long : m ≡ size t
  pub special : k ≡ specials t
  pub few_nodes : size t ≤ 64
  pub few_special : specials t ≤ 7
  pub rising : Rising 0 (special_parts t)

module _ {t : Tree} {nodes : List Node} {m k : ℕ} (a : ReadRule t nodes m k) where
  recorded : Recorded t nodes m
  recorded = record { pad = unused (64 - size t); front = a.front; long = sym a.long; few = omega (arith, a.long, a.few_nodes) }

  -- the rule that is rebuilt from the records is the rule that was read
  pub rebuilt : tree_from nodes m ≡ t
  rebuilt = tree_from_lem t nodes m recorded

  pub as_records : RuleRecords (tree_from nodes m) nodes m k
  as_records =
      subst (λ (u : Tree). RuleRecords u nodes m k) (sym rebuilt)
      (record { recorded = recorded; special = sym a.special; few = omega (arith, a.special, a.few_special); rising = a.rising })
