-- The one day of two: laws.
pub mod MergedLaws
-- What the merging call's answer means; that it is a day's.
pub mod Answered
pub mod OneFile
mod Edges
-- Turns of the loop, and the steps of the call.
mod Turns
mod Steps
