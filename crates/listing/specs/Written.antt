-- Texts written into a buffer. Assumes nothing.
use Rattle.std.specs.Prelude.{ℕ, ◌+◌, ◌≡◌, List, length}
use Rattle.std.proofs.lemmas.List.Edits.{sets}

-- the text stands in the buffer from the offset `at` on, the rest is as it was, and `behind` is the offset behind the text
pub record Written (old : List ℕ) (at : ℕ) (text new : List ℕ) (behind : ℕ) : Type 0 where
  pub bytes : new ≡ sets old at text
  pub upto : behind ≡ at + length text
