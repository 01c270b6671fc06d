-- Laws of decimal numerals.
pub mod NumeralLaws
mod Spelling
