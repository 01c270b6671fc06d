-- The kind that a number stands for, as C is told kinds. Assumes nothing.
use Rattle.std.specs.Prelude.{ℕ, ◌%◌, cond, eqb}
use Rattle.expression.specs.declared.Kind.{Kind}
use Rattle.expression.specs.declared.Kind.TheVariants.{Empty, Epsilon, Letter, Union, Intersection, Concatenation, Complement, Star}

-- the kind that a number stands for
abbrev pub kind_of : ℕ → Kind
kind_of k =
    cond (eqb k 0) Empty
    (cond (eqb k 1) Epsilon
    (cond (eqb k 2) Union
    (cond (eqb k 3) Intersection
    (cond (eqb k 4) Concatenation
    (cond (eqb k 5) Complement
    (cond (eqb k 6) Star (Letter (record { bits = k % 4503599627370496 }))))))))
