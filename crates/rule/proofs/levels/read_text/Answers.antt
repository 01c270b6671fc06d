-- `read_text` writes the records of a sentence. Assumes nothing.
use Rattle.rule.proofs.Stored.{read_written}
use Rattle.rule.proofs.levels.read_text.Goals as goal

pub returns : goal.returns
returns c = read_written _ _ c.read_alt.ensures c.requires.1
