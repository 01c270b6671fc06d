-- Laws of the day file's lines, and of the answer that they come to.
mod Edges
mod LineLaws
mod LineForm
mod Turns
pub mod Answered
pub mod Rows
mod Results
