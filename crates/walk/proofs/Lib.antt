-- Laws of the walk over columns, in numbers modulo the prime. Read Walking, Filling, Meanings, ColumnTests, BitsOnly.
pub mod Walking
pub mod Filling
pub mod Storing
pub mod Parts
pub mod Meanings
pub mod ColumnTests
pub mod BitsOnly
pub mod InputElements
