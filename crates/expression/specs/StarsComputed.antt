-- The first star directly after a star, found byte after byte.
-- That it is the one of `FirstDouble` is `first_double`, `no_double_lem`, `first_is` and `none_is` in proofs/DoubleLaws. Assumes nothing.
use Rattle.std.specs.Prelude.{ℕ, suc, Bool, cond, ◌&&◌, List, [], ◌∷◌, eqb}

-- b is a star directly after the star p
abbrev pub doubles : ℕ → ℕ → Bool
doubles p b = eqb p 42 && eqb b 42

-- how many bytes stand before the first such star, all where there is none; p is the byte before the text
unfoldable pub double_from : ℕ → List ℕ → ℕ
double_from p [] = 0
double_from p (b ∷ s) = cond (doubles p b) 0 (suc (double_from b s))

-- before a text stands no star
abbrev pub double_at : List ℕ → ℕ
double_at s = double_from 0 s
