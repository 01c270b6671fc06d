-- What a rule file is and means: the definitions to believe.
pub mod FileAnswer
pub mod FileMeaning
-- The same by computation.
pub mod FileComputed
-- What the private functions do.
pub mod Kept
pub mod Turns
