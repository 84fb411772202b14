-- Laws of what is written: runs of steps, columns, the walk over a sheet, the answers.
pub mod Puts
pub mod Runs
pub mod Columns
pub mod Walk
pub mod Answers
