-- What the crate's code answers, in the numbers of code: the counts of columns, and one column by its kind.
pub mod Counting
pub mod Kinds
