-- What stays of a rule's reading when its text is rewritten. Assumes nothing.
use Rattle.std.specs.Prelude.{◌≤◌, ◌≡◌, ◌↔◌, List, [], ◌∷◌}
use Rattle.event.specs.Event.{Word}
use Rattle.expression.specs.Tree.{Tree, size, specials}
use Rattle.expression.specs.Lang.{Lang}
use Rattle.work.specs.TableComputed.{special_parts}

-- 02 f): "the same language"
abbrev pub SameLang : Tree → Tree → Type 0
SameLang t u = (w : Word) → Lang t w ↔ Lang u w

-- one to one in order, each with the same language
abbrev pub SameParts : List Tree → List Tree → Type 0
SameParts [] [] = Unit {0}
SameParts [] (u ∷ k) = ⊥
SameParts (t ∷ l) [] = ⊥
SameParts (t ∷ l) (u ∷ k) = SameLang t u × SameParts l k

-- the reading u can stand for the reading t
pub record Same (t u : Tree) : Type 0 where
  pub lang : SameLang t u
  pub parts : SameParts (special_parts t) (special_parts u)
  pub nodes : size u ≤ size t  -- m no larger
  pub special : specials u ≡ specials t  -- k the same
