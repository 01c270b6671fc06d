-- What is reached, and rows of pairs of states.
pub mod Paths
pub mod RowLaws
-- Laws that the proofs of its functions cite.
mod ClosingLaws
mod RecordLaws
mod LetterLaws
