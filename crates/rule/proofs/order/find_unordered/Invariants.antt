-- `find_unordered` is `unordered_at`. Assumes nothing.
use Prim.Native.Nat.{◌+◌}
use mathlib.Core.Path.{◌≡◌}
use lib.ListN.{drop}
use Rattle.expression.specs.OrderComputed.{unordered_from, unordered_at}
use Rattle.rule.proofs.order.find_unordered.Given as goal

abbrev pub invariant-loop-i : goal.invariant-loop-i
invariant-loop-i l = unordered_at l.text ≡ l.i + unordered_from l.before (drop l.i l.text)
