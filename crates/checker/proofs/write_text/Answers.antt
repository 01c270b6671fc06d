-- What was written behind the first bytes is the text that follows them. Assumes nothing.
use Rattle.std.proofs.Common.{◌-◌, length, drop, arith, subst, length-take}
use Rattle.std.specs.Io.KnownBytes.{Appends}
use Rattle.std.proofs.KnownBytes.{Appends-trans}
use Rattle.checker.proofs.Moved.{written_behind}
use Rattle.checker.proofs.write_text.Goals as goal

pub loop-done-preserved : goal.loop-done-preserved
loop-done-preserved g c =
    let done = c.loop-done.done in
    let n = c.in-Some.n in
    let xs = c.args.text.now in
    let before = c.loop-done.invariant in
    let fits = c.in-Some.ensures.within in
    let most = length-take (length xs - done) (drop done xs) in
    (omega arith, subst (Appends _ _) (written_behind done n xs (omega arith)) (Appends-trans _ _ _ _ _ before.1 c.in-Some.ensures.put))
