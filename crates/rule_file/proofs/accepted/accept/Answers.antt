-- `accept` answers the records of the lines. Assumes nothing.
use Rattle.rule_file.proofs.KeptLines.{records_on}
use Rattle.rule_file.proofs.accepted.accept.Goals as goal

pub loop-i-preserved : goal.loop-i-preserved
loop-i-preserved c =
    records_on _ _ _ _ c.index-lines-i.is c.loop-i-test.true c.requires.1 c.loop-i.invariant
