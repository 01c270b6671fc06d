-- The program's output.
pub mod Lines
pub mod Marked
pub mod Written
pub mod Writing
