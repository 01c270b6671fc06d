-- What a walk goes by, its steps, and the block of an owner.
pub mod Course
pub mod Filled
-- What the private functions do.
pub mod Caches
pub mod Walks
pub mod Starts
