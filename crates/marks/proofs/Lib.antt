-- Laws of marks, of rows, and of a start whose walk goes no further.
pub mod MarkLaws
pub mod RowLaws
pub mod EndLaws
