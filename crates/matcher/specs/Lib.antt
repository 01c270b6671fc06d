-- What the judge answers of a rule that was read: by computation, and by the language and the collection of reached places.
pub mod MatchAnswer
pub mod MatchMeaning
pub mod MatchComputed
pub mod Agree
pub mod Given
