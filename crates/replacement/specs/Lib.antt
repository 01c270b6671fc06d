-- Names in a rule text, and what they stand for.
pub mod Replaced
-- The same by computation: the pieces of a written text and its shape, and trees at the places of names.
pub mod Pieces
pub mod Graft
