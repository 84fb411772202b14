-- Laws of the lists by number, of the loops that write them, and of the refusals.
pub mod Counting
pub mod Numbers
pub mod Products
pub mod Rows
pub mod Steps
pub mod Answers
