-- Texts: quoted ones as bytes, for worked cases; lines. Assumes nothing.
use Rattle.std.specs.Prelude.{ℕ, Bool, not, List, [], ◌∷◌, eqb}
use Prim.Native.Char.{code}
use Prim.Native.String.{String}
use Prim.Native.String as text

-- the bytes of a quoted text of ASCII characters
abbrev pub bytes : String → List ℕ
bytes text.[] = []
bytes (text.◌∷◌ c s) = code c ∷ bytes s

-- every byte but the newline
abbrev pub not_newline : ℕ → Bool
not_newline b = not (eqb b 10)
