-- A text with each run of stars made one star, and what stays of its reading: the definitions to believe.
pub mod Rewritten
pub mod Same
-- What the rewriter answers, as values, what the answer says, and computed.
pub mod RewriteAnswer
pub mod RewriteMeaning
pub mod RewriteComputed
-- What stays when a rule is rewritten.
pub mod RewrittenRule
