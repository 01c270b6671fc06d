-- Laws of a job.
mod Steps
mod FirstLine
mod Parting
mod Days
pub mod Listed
mod Rows
pub mod Answered
pub mod Determined
pub mod Results
mod Edges
