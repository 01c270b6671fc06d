-- What an automaton, a word and a table with room have for a walk. Assumes nothing.
use mathlib.Core.Path.{◌≡◌}
use mathlib.Core.Bool.{true}
use mathlib.Core.List.{List}
use Prim.Native.Nat.{ℕ, ◌+◌, ◌*◌, ◌%◌, ◌<◌, ◌≤◌}
use lib.ListN.{length}
use Rattle.bits.specs.Bit.{bit_at}
use Rattle.levels.specs.declared.automaton.Automaton.{Automaton}
use Rattle.levels.specs.Sets.{Entries, Reflexive, Transitive}
use Rattle.levels.specs.Exits.{Room}
use Rattle.walk.specs.Course.{Course, course_of, HasRoom}

pub record Ready (t : Course) : Type 0 where
  pub word : length t.word ≤ 255
  pub room : Room t.firsts (length t.word) (length t.table)
  pub reflexive : Reflexive t.closed
  pub transitive : Transitive t.closed
  pub special : Entries t.specials
  pub letter : (e s : ℕ) → s < 128 → bit_at t.letters (128 * e + s) ≡ true → s % 2 ≡ 0

pub ready_of : (a : Automaton) {w t : List ℕ} → HasRoom a w t → Ready (course_of a w t)
ready_of a h =
    record { word = h.0; room = h.1; reflexive = a.reflexive; transitive = a.transitive; special = a.special; letter = a.letter }
