-- The walk over a tree reaches exactly the places of At;
-- and the root's exit at j, from i, exactly where span (i, j) obeys. Assumes nothing.
use mathlib.Core.Path.{◌≡◌, subst}
use mathlib.Core.Logic.{◌↔◌}
use Prim.Native.Nat.{ℕ, ◌≤◌}
use lib.ListN.{length}
use Rattle.event.specs.Event.{Word}
use Rattle.expression.specs.Tree.{Tree}
use Rattle.work.specs.Span.{Obeys}
use Rattle.work.specs.Walk.{exit}
use Rattle.work.proofs.At.{At}
use Rattle.work.proofs.Ranges.{at_exit}
use Rattle.work.proofs.TreeWalk.{TreeWalk, start, step}
use Rattle.work.proofs.Forward.{reached_at}
use Rattle.work.proofs.Backward.{at_in, through}

pub walked : (w : Word) (t : Tree) (x i s j : ℕ) → i ≤ length w → TreeWalk w t x i s j ↔ At w t x (λ k. k ≡ i) s j
walked w t x i s j l = (
  reached_at w l,
  at_in w (TreeWalk w t x i) t x (λ s j s' j' m r. step r m) (λ k. k ≡ i) (λ k e. rw e start) s j,
)

pub walked_exit : (w : Word) (t : Tree) (x i j : ℕ) → i ≤ length w → TreeWalk w t x i (exit t x) j ↔ Obeys w t i j
walked_exit w t x i j l = (
  λ r. let h = at_exit w t x (λ k. k ≡ i) j (reached_at w l r) in subst (λ k. Obeys w t k j) h.1 h.2,
  λ o. through w (TreeWalk w t x i) t x (λ s j s' j' m r. step r m) i j o start,
)
