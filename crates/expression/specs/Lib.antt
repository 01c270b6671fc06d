-- What a rule text is and means: the definitions to believe. Their laws stand in proofs/.
pub mod Tree
pub mod Grammar
pub mod Unordered
pub mod Stars
pub mod Plain
pub mod Lang
pub mod KindNumber
-- The same by computation.
pub mod Accept
pub mod Bytes
pub mod Leaves
pub mod Parse
pub mod TreeOf
pub mod Scan
pub mod OrderComputed
pub mod StarsComputed
