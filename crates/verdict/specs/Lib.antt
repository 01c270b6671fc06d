-- What a verdict says.
pub mod Verdicts
