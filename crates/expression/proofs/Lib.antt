-- Laws of rule texts.
pub mod LangDecided
pub mod RecordLaws
pub mod Texts
pub mod LeafLaws
pub mod ScanAccepts
pub mod ScanSound
pub mod ScanDecides
pub mod Parses
pub mod OneReading
pub mod UnorderedLaws
pub mod DoubleLaws
pub mod PlainLaws
pub mod KindLaws
mod Edges
