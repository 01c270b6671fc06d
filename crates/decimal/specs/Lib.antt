-- Numbers as decimal texts.
pub mod Numeral
pub mod Decimal
pub mod Powers
