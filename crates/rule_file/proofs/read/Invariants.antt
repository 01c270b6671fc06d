-- `read` answers as `file_answer`, and so by the grammar. Assumes nothing.
use lib.ListN.{length}
use Rattle.rule_file.proofs.ReadLaws.{Going}
use Rattle.rule_file.proofs.read.Given as goal

abbrev pub invariant-loop-rest : goal.invariant-loop-rest
invariant-loop-rest l =
    Going l.file l.lines l.r l.rest

abbrev pub decreases-loop-rest : goal.decreases-loop-rest
decreases-loop-rest l =
    length l.rest
