-- What is counted and listed: the definitions to believe. Their laws stand in proofs/.
pub mod Span
pub mod Spans
pub mod Walk
pub mod SizeOf
pub mod Table
pub mod KnownDays
pub mod Owned
-- The same by computation.
pub mod TableComputed
pub mod SpansComputed
pub mod Count
