-- What the contracts of the program's reads and writes cite. Assumes nothing.
use Rattle.std.specs.Prelude.{ℕ, Option, Some, None, ◌≡◌, ◌<◌, ◌≤◌, List, length, take}
use Rattle.std.specs.Io.KnownBytes.{Keeps, Consumes, Appends, IsAtEnd}

-- what was moved lies within xs
abbrev pub Within : Option ℕ → List ℕ → Type 0
Within (Some n) xs = n ≤ length xs
Within None xs = Unit

-- what was read stands at the front of xs: where a reader's bytes are known, before and after, it gave just these
abbrev pub Taken : Option (List ℕ) → Option (List ℕ) → Option ℕ → List ℕ → Type 0
Taken old new (Some n) xs = Consumes old new (take n xs)
Taken old new None xs = Unit

-- nothing was read into a buffer with room, as that is the length of xs, only where the reader has no bytes left
abbrev pub NoneAtEnd : Option (List ℕ) → Option ℕ → List ℕ → Type 0
NoneAtEnd new (Some n) xs = n ≡ 0 → 0 < length xs → IsAtEnd new
NoneAtEnd new None xs = Unit

-- less was read than xs has room for only where the reader has no bytes left
abbrev pub LessAtEnd : Option (List ℕ) → Option ℕ → List ℕ → Type 0
LessAtEnd new (Some n) xs = n < length xs → IsAtEnd new
LessAtEnd new None xs = Unit

-- what was written is the front of xs, and nothing where that failed: where a writer's bytes are known, it took just these
abbrev pub Put : Option (List ℕ) → Option (List ℕ) → Option ℕ → List ℕ → Type 0
Put old new (Some n) xs = Appends old new (take n xs)
Put old new None xs = Keeps old new
