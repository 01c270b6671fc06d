-- `scan` is `scanned`: what the scan finds from where the loop has come is what it finds of the whole text. Assumes nothing.
use Prim.Native.Nat.{◌*◌, ◌≤◌}
use mathlib.Core.Path.{◌≡◌}
use lib.ListN.{drop}
use Rattle.expression.specs.Scan.{scanned, scan_from}
use Rattle.rule.proofs.scan.scan.Given as goal

abbrev pub invariant-loop-i : goal.invariant-loop-i
invariant-loop-i l =
    record {
      depth : l.q.depth ≤ l.i;
      nodes : l.q.nodes ≤ 2 * l.i;
      specials : l.q.specials ≤ l.i;
      rest : scanned l.text ≡ scan_from (drop l.i l.text) l.i l.q;
    }
