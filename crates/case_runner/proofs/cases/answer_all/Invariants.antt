-- Each case is taken from the front of the stream.
use Rattle.std.proofs.Common.{length}
use Rattle.case_runner.proofs.cases.answer_all.Given as goal

abbrev pub decreases-loop-behind : goal.decreases-loop-behind
decreases-loop-behind g l = length l.rest
