-- `put` writes the byte behind what is written. Assumes nothing.
use Rattle.std.proofs.Common.{arith, refl}
use Rattle.listing.proofs.fields.Writer.put.Goals as goal

pub returns : goal.returns
returns c = record { same = refl; written = record { bytes = refl; upto = omega arith } }
