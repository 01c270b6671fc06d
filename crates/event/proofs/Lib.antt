-- Laws of events, and of tests, of tails of slices and of `leading`, which the crates above share.
pub mod Tests
pub mod EventLaws
pub mod SetLaws
mod Edges
pub mod Tails
pub mod LeadingLaws
