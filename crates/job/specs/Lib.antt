-- What a job comes to: by computation, and by the grammar, the language and the collection of reached places.
pub mod JobAnswer
pub mod JobMeaning
pub mod JobComputed
pub mod FirstBlock
