-- `lead` joins a state's row. Assumes nothing.
use Rattle.levels.proofs.Following.{led_law}
use Rattle.levels.proofs.free.lead.Goals as goal

pub returns : goal.returns
returns c = led_law _ _ c.row.ensures c.merge_row.ensures
