-- The judge on the rewritten text of a stored rule, and a job with it.
pub mod Judgements
pub mod Listings
