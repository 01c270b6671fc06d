-- What an automaton keeps, from how its parts are made. Assumes nothing.
use mathlib.Core.Path.{refl}
use mathlib.Core.List.{List}
use Prim.Native.Nat.{ℕ, ◌+◌, ◌*◌}
use native.Mathlib.Omega.{arith}
use lib.ListN.{replicate}
use Rattle.bits.specs.Runs.{Adds}
use Rattle.expression.specs.declared.Node.{Node}
use Rattle.moves.specs.Reached.{start}
use Rattle.moves.specs.Moves.{Closed, LetterEntry, SpecialEntry}
use Rattle.moves.proofs.Paths.{leads_on}
use Rattle.levels.specs.Sets.{Reflexive, Transitive, Entries, LetterEntries}
use Rattle.owners.proofs.Steps.{added}

pub closed_reflexive : {moves c : List ℕ} → Closed moves c → Reflexive c
closed_reflexive h s l = h.all s s l (start refl)

pub closed_transitive : {moves c : List ℕ} → Closed moves c → Transitive c
closed_transitive h x s u lx l k d e = h.all s u l (leads_on (h.only s x l lx d) (h.only x u lx k e))

pub letters_even : {nodes : List Node} {m : ℕ} {a : List ℕ} → Adds (replicate 512 0) (LetterEntry nodes m) a → LetterEntries a
letters_even h e s l b = let v = (added 512 (128 * e + s) h b).even in omega arith

pub specials_even : {nodes : List Node} {m : ℕ} {a : List ℕ} → Adds (replicate 2 0) (SpecialEntry nodes m) a → Entries a
specials_even h s l e = (added 2 s h e).even
