-- What an event is; sets of letters; how far a list passes a test; quoted texts.
pub mod Event
pub mod LetterSets
pub mod SetParts
pub mod Letters
pub mod Leading
pub mod Text
