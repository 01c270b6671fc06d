-- Marked places, the row of a start, the start whose walk goes no further than its initial states, and counted work.
pub mod Marks
pub mod Rows
pub mod Ends
pub mod Steps
pub mod Works
