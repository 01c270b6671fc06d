-- What the judge answers: by computation, and by the grammar, the language and the collection of reached places.
pub mod JudgeAnswer
pub mod JudgeMeaning
pub mod JudgeComputed
-- The same of a rule file.
pub mod JudgeFileAnswer
pub mod JudgeFileMeaning
pub mod JudgeFileComputed
