-- What a special node's spans are by the walks over its sides. Assumes nothing.
use mathlib.Core.Logic.{◌↔◌}
use mathlib.Core.List.{[], ◌∷◌}
use Prim.Native.Nat.{ℕ, zero, suc, ◌≤◌}
use lib.ListN.{length, take, drop}
use lib.Seq.{slice}
use Rattle.event.specs.Event.{Word, Events}
use Rattle.expression.specs.Tree.{Tree, intersection, complement}
use Rattle.work.specs.Span.{Obeys}
use Rattle.work.specs.Walk.{exit}
use Rattle.work.proofs.TreeWalk.{TreeWalk}
use Rattle.work.proofs.Walked.{walked_exit}

-- a span of events is events
events_take : (k : ℕ) (w : Word) → Events w → Events (take k w)
events_take zero w h = tt
events_take (suc k) [] h = tt
events_take (suc k) (x ∷ w) h = (h.0, events_take k w h.1)

events_drop : (k : ℕ) (w : Word) → Events w → Events (drop k w)
events_drop zero w h = h
events_drop (suc k) [] h = tt
events_drop (suc k) (x ∷ w) h = events_drop k w h.1

events_slice : (i j : ℕ) (w : Word) → Events w → Events (slice i j w)
events_slice i j w h = events_drop i (take j w) (events_take j w h)

module _ (w : Word) (o x i j : ℕ) (a : Tree) (l : i ≤ length w) where
  -- a span obeys `&` where both sides' exits are reached
  pub intersection_obeys : (b : Tree) (y : ℕ)
      → Obeys w (intersection o a b) i j ↔ (TreeWalk w a x i (exit a x) j × TreeWalk w b y i (exit b y) j)
  intersection_obeys b y = (
    λ h. (
      (walked_exit w a x i j l).1 (record { order = h.order; inside = h.inside; word = h.word.0 }),
      (walked_exit w b y i j l).1 (record { order = h.order; inside = h.inside; word = h.word.1 }),
    ),
    λ h. let p = (walked_exit w a x i j l).0 h.0 in
        let q = (walked_exit w b y i j l).0 h.1 in
        record { order = p.order; inside = p.inside; word = (p.word, q.word) },
  )

  -- and `!` where the inner exit is not
  pub complement_obeys : Events w → Obeys w (complement o a) i j ↔ ((i ≤ j) × (j ≤ length w) × (TreeWalk w a x i (exit a x) j → ⊥))
  complement_obeys e = (
    λ h. (h.order, h.inside, λ r. h.word.1 ((walked_exit w a x i j l).0 r).word),
    λ h. record {
      order = h.0;
      inside = h.1;
      word = (
        events_slice i j w e,
        λ k. h.2 ((walked_exit w a x i j l).1 (record { order = h.0; inside = h.1; word = k })),
      );
    },
  )
