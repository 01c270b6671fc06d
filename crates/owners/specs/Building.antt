-- The automaton of a rule, built from its records. Assumes nothing.
use Rattle.std.specs.Prelude.{ℕ, List, replicate}
use Rattle.bits.specs.Runs.{Adds}
use Rattle.expression.specs.declared.Node.{Node}
use Rattle.levels.specs.declared.automaton.Automaton.{Automaton}
use Rattle.moves.specs.Moves.{ClosedMoves, LetterEntry, SpecialEntry}

-- the automaton has the closed free moves of the first m records and the entries of their letters and of their special nodes
pub record Built (nodes : List Node) (m : ℕ) (lefts : List ℕ) (a : Automaton) : Type 0 where
  pub moves : ClosedMoves nodes lefts m a.closed
  pub letter : Adds (replicate 512 0) (LetterEntry nodes m) a.letters
  pub special : Adds (replicate 2 0) (SpecialEntry nodes m) a.specials
