-- What each call makes of sets of states.
pub mod Sets
pub mod Exits
-- What the private functions do.
pub mod Private
