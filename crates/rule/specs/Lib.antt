-- What the rule reader answers, as values, by the grammar, and computed.
pub mod RuleAnswer
pub mod RuleMeaning
pub mod RuleComputed
pub mod KindOf
-- What its private functions do.
pub mod Reader
