-- What a day file is, what the day reader answers, as values and computed, and what the answer says by the form of the lines.
pub mod DayFile
pub mod DayAnswer
pub mod DayMeaning
pub mod DayComputed
-- The lines by computation.
pub mod DayLines
