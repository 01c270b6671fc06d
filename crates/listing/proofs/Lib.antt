-- Laws of texts written into a buffer, of the lines of a block, of the next end of a row, and of the order in which the lines stand.
mod WrittenLaws
mod SpanLines
mod RowLaws
pub mod ListingLaws
