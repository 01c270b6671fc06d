-- Laws of sets of states.
pub mod SetLaws
-- Laws that the proofs of its functions cite.
mod Following
mod EventLaws
mod ExitLaws
mod Saturating
