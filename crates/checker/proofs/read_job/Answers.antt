-- What was read behind the first bytes is what the reader gave after them. Assumes nothing.
use Rattle.std.proofs.Common.{rules, arith, subst}
use Rattle.std.specs.Io.KnownBytes.{Consumes}
use Rattle.std.proofs.KnownBytes.{Consumes-trans}
use Rattle.checker.proofs.Moved.{read_behind}
use Rattle.checker.proofs.read_job.Goals as goal

pub loop-done-preserved : goal.loop-done-preserved
loop-done-preserved g c =
    let before = c.loop-done.invariant in
    let within = c.in_ok-n.ensures.within in (
      search rules,
      search rules,
      subst (Consumes _ _) (read_behind _ _ _ _ _ _ (omega arith) before.0 within)
          (Consumes-trans _ _ _ _ _ before.2 c.in_ok-n.ensures.taken),
    )
