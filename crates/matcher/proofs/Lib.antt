-- Laws of the judge of a rule that was read.
mod Limited
mod Words
pub mod Tested
pub mod Joined
pub mod Answered
pub mod Determined
pub mod Results
