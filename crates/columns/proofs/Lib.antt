-- Laws of one column and of the counts of columns.
pub mod Sums
pub mod ColumnBytes
pub mod Taken
