-- Texts that a writer puts behind one another. Assumes nothing.
use Rattle.std.specs.Prelude.{ℕ, ◌+◌, ◌≤◌, ◌≡◌, List, length}
use Rattle.listing.specs.Written.{Written}
use Rattle.listing.specs.declared.fields.Writer.{Writer}

-- the text fits what is left of the writer's buffer
abbrev pub HasRoom : Writer → List ℕ → Type 0
HasRoom w text = w.at + length text ≤ length w.out.now

-- the text is written, behind what was, in the same buffer
pub record Puts (old : Writer) (text : List ℕ) (new : Writer) : Type 0 where
  pub same : new.out.ghost_name ≡ old.out.ghost_name
  pub written : Written old.out.now old.at text new.out.now new.at
