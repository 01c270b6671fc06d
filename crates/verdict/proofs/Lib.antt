-- What holds of every refusal by a reader.
pub mod ByReader
