-- The work of a rule's walks, spent or not. Assumes nothing.
use Rattle.std.specs.Prelude.{ℕ, ◌≡◌, Option, Some, None, IfSome}
use Rattle.marks.specs.declared.counting.Work.{Work}

-- what has been counted, which is the limit where that is spent
abbrev pub count_of : (limit : ℕ) → Option Work → ℕ
count_of limit None = limit
count_of limit (Some w) = w.count

-- what is left to count of goes by that limit
abbrev pub HasLimit : (limit : ℕ) → Option Work → Type 0
HasLimit limit r = IfSome r (λ w. w.limit ≡ limit)
