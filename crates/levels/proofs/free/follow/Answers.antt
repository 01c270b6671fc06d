-- `follow` follows the states of both numbers. Assumes nothing.
use Rattle.levels.proofs.Following.{follow_all}
use Rattle.levels.proofs.free.follow.Goals as goal

pub returns : goal.returns
returns c =
    follow_all c.follow_word.ensures c.follow_word-2.ensures c.requires.transitive
