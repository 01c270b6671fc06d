-- What the rewriter's answer means.
pub mod Answered
mod Edges
-- Laws of the rewritten text.
pub mod StarLaws
-- What stays: the language, the special parts, the spans; and that there are no more places.
pub mod SameLaws
pub mod Stays
pub mod Counts
pub mod Rewrites
pub mod RewrittenRules
-- Turns of the loops.
mod Turns
