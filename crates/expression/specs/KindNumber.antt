-- Kinds as numbers, where records are written as numbers. Assumes nothing.
use Rattle.std.specs.Prelude.{ℕ, ◌+◌, ◌%◌}
use Rattle.expression.specs.declared.Kind.{Kind}
use Rattle.expression.specs.declared.Kind.TheVariants.{Empty, Epsilon, Letter, Union, Intersection, Concatenation, Complement, Star}

-- wuzlevor.h: "Kinds: 0 empty, 1 epsilon, 2 union, 3 intersection, 4 concatenation, 5 complement, 6 star, or for a set of letters 2^63 + the
-- sum of 2^i over its letters, i = 0 to 25 for A to Z and 26 to 51 for a to z". 9223372036854775808 is 2^63 and
-- 4503599627370496 is 2^52: bits 52 to 63 of the field are left out
abbrev pub kind_number : Kind → ℕ
kind_number Empty = 0
kind_number Epsilon = 1
kind_number Union = 2
kind_number Intersection = 3
kind_number Concatenation = 4
kind_number Complement = 5
kind_number Star = 6
kind_number (Letter c) = 9223372036854775808 + c.bits % 4503599627370496
