-- Laws of the judge.
pub mod ReadRule
pub mod Joined
pub mod Answered
pub mod Determined
pub mod Results
mod Edges
-- The same of a rule file.
pub mod FileLines
pub mod FileAnswered
pub mod FileResults
pub mod FileJoined
mod FileEdges
-- What a verdict of it says.
pub mod Told
