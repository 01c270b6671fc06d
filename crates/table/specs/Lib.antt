-- Where the bits of spans stand.
pub mod Layout
