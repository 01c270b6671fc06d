-- `move_up` doubles a number. Assumes nothing.
use native.Mathlib.Omega.{arith}
use Rattle.levels.proofs.EventLaws.{top_clear, up_law}
use Rattle.levels.proofs.events.move_up.Goals as goal

pub overflow_mul-result : goal.overflow_mul-result
overflow_mul-result c =
    let h = top_clear c.args.x (omega arith) c.requires in omega arith

pub returns : goal.returns
returns c =
    up_law _
