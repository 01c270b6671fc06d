-- Laws that the proofs of its functions cite.
mod RowLaws
mod ExportLaws
pub mod Determined
