-- Laws of bits.
pub mod Tally
pub mod Packed
pub mod Digits
pub mod Laws
