-- Laws of the layout, for every crate that fills or reads a table.
pub mod LayoutLaws
-- Laws that the proofs of its functions cite.
mod Rows
