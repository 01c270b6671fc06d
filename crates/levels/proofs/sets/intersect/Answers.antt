-- `intersect` meets two sets, number by number. Assumes nothing.
use mathlib.Core.Path.{refl}
use Rattle.levels.proofs.SetLaws.{common_law}
use Rattle.levels.proofs.sets.intersect.Goals as goal

pub returns : goal.returns
returns c =
    common_law _ _ _ refl refl
