-- Every legal return of a small sheet: the lists are the legal ones, each once, rising and counted, and making takes each.
pub mod Members
pub mod Order
pub mod Counted
pub mod Taken
