-- The answer on a rule file: what it means, and that no other means so.
pub mod FileAnswered
pub mod Replacement
pub mod FileRows
mod FileEdges
-- The loop over the lines, and one line's turn.
pub mod KeptLines
pub mod TurnLaws
pub mod ReadLaws
