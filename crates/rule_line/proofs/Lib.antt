-- The form of a line, names of lines, and what `judged` comes to.
pub mod LineNames
pub mod LineLaws
pub mod UsesLaws
pub mod JudgedLaws
pub mod ByShape
-- What the functions find: names, the shape and the origins, the sums, the records.
pub mod CodeLaws
pub mod SumLaws
pub mod ByName
pub mod GraftCode
pub mod GraftWritten
pub mod StoredLines
pub mod SentenceLaws
pub mod RuleJudged
