-- What a line of a rule file is and means: the definitions to believe.
pub mod Lines
pub mod LineMeaning
-- The same by computation.
pub mod LineComputed
-- What the functions do, and what the reader keeps of the lines that have passed.
pub mod Offsets
pub mod Passed
pub mod Coding
pub mod Summing
pub mod Keeping
