-- What the reader's answer means.
pub mod Answered
pub mod Rows
pub mod ReadBytes
pub mod KindsAgain
mod Edges
-- Laws that the proofs of its functions cite.
mod ScanLaws
mod ReaderLaws
mod Stored
