-- Laws of the owners.
pub mod Rebuilt
pub mod PartLaws
pub mod SumLaws
pub mod BlockLaws
pub mod Automata
pub mod Steps
pub mod Walks
pub mod Counting
pub mod SideSpans
pub mod Walkers
pub mod Tables
pub mod Turning
pub mod SideLaws
pub mod FirstLoops
pub mod Settings
