-- What it is for answers and listings to be the same but for the count.
pub mod SameJudged
pub mod SameLines
