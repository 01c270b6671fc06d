-- What the one day of two is, what the merging call answers, as values and computed, and what the answer says of the two files.
pub mod Merged
pub mod MergeAnswer
pub mod MergeMeaning
pub mod MergeComputed
