-- The program's reads and writes, and what a run of it does.
pub mod Transfers
pub mod Runs
