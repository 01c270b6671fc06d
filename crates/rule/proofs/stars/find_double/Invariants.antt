-- `find_double` is `double_at`. Assumes nothing.
use Prim.Native.Nat.{◌+◌}
use mathlib.Core.Path.{◌≡◌}
use lib.ListN.{drop}
use Rattle.expression.specs.StarsComputed.{double_from, double_at}
use Rattle.rule.proofs.stars.find_double.Given as goal

abbrev pub invariant-loop-i : goal.invariant-loop-i
invariant-loop-i l = double_at l.text ≡ l.i + double_from l.before (drop l.i l.text)
