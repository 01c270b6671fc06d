-- What the bits of a number and of a run of numbers are.
pub mod Bit
pub mod Runs
