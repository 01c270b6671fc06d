-- `saturate` enters nothing where the set has no special entry. Assumes nothing.
use Rattle.levels.proofs.Saturating.{plain_saturated}
use Rattle.levels.proofs.automaton.Automaton.saturate.Goals as goal

pub returns : goal.returns
returns c = plain_saturated _ _ _ _ _ _ c.requires.begun (c.enters_special.ensures.0 c.if-enters_special.false)
