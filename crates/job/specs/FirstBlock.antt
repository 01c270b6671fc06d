-- The text that the first block of a rule and a word gives. Assumes nothing.
use Rattle.std.specs.Prelude.{List, ℕ, length}
use Rattle.event.specs.Event.{Word}
use Rattle.expression.specs.Tree.{Tree, size, specials}
use Rattle.work.specs.Count.{full_count}
use Rattle.work.specs.TableComputed.{block, found}
use Rattle.listing.specs.declared.Heading.{Heading}
use Rattle.listing.specs.Marked.{listing}

-- the fields of the `H` line
abbrev pub heading : Word → Tree → Heading
heading w t = record { n = length w; m = size t; k = specials t; found = found w t; count = full_count w t }

-- the `H` line and the `S` lines
abbrev pub text : Word → Tree → List ℕ
text w t = listing (heading w t) (block w t)
