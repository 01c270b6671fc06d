-- The free moves of a rule's states, closed, and the entries of its letters and special nodes.
pub mod Reached
pub mod Moves
-- What its private functions do.
pub mod Closing
