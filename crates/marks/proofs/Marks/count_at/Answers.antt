-- `count_at` counts the states at number j. Assumes nothing.
use mathlib.Core.Path.{◌∙◌}
use Rattle.bits.proofs.Tally.{tally_same}
use Rattle.marks.proofs.Marks.count_at.Goals as goal

pub returns : goal.returns
returns c = (c.size.ensures.0 ∙ tally_same 128 _ _ c.states_at.ensures, c.size.ensures.1)
