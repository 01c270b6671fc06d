-- Each turn goes on behind a letter that was printed.
use Rattle.std.proofs.Common.{◌-◌, ◌≤◌}
use Rattle.case_runner.proofs.show.print_set.Given as goal

abbrev pub invariant-loop-index : goal.invariant-loop-index
invariant-loop-index g l = l.from ≤ 52

abbrev pub decreases-loop-index : goal.decreases-loop-index
decreases-loop-index g l = 52 - l.from
