-- Names and pieces; whether a replaced text is a sentence, seen from its shape.
pub mod NameLaws
pub mod PieceLaws
pub mod ShapeLaws
pub mod Ordering
pub mod SingleStars
-- The reading of a replaced text, from the reading of its shape.
pub mod Carried
pub mod Grafted
pub mod GraftRecords
pub mod Lengths
