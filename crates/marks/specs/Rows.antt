-- The row of a start, as the marks of its walk have it. Assumes nothing.
use Rattle.std.specs.Prelude.{ℕ, ◌+◌, ◌*◌, ◌<◌, ◌≡◌, List, Bool, true, false, not, ◌&&◌, leb}
use Rattle.bits.specs.Bit.{has_bit, bit_at}
use Rattle.marks.specs.declared.target.Target.{Target}

-- both exits are reached, or, for a complement, not both are
abbrev pub decide : (left right complement : Bool) → Bool
decide true true c = not c
decide true false c = c
decide false right c = c

-- the walk that left the marks says that the span to number k obeys
abbrev pub judged : (marks : List ℕ) (o : Target) → ℕ → Bool
judged marks o k = decide (bit_at marks (128 * k + o.left)) (bit_at marks (128 * k + o.right)) o.complement

-- both exits are marked at number k
abbrev pub met : (marks : List ℕ) (o : Target) (k : ℕ) → Bool
met marks o k = bit_at marks (128 * k + o.left) && bit_at marks (128 * k + o.right)

-- and k is not before i
abbrev pub met_from : (marks : List ℕ) (o : Target) (i k : ℕ) → Bool
met_from marks o i k = leb i k && met marks o k

-- the row of a start i: the numbers from i to n to which the span obeys
unfoldable pub row_of : (marks : List ℕ) (o : Target) (i n : ℕ) → ℕ → Bool
row_of marks o i n k = leb i k && (leb k n && judged marks o k)

-- r is number w of the row that is as f says
abbrev pub Shows : (f : ℕ → Bool) (w r : ℕ) → Type 0
Shows f w r = (b : ℕ) → b < 64 → has_bit b r ≡ f (64 * w + b)
