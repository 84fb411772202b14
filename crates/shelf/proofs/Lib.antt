pub mod Refusals
pub mod Answers
pub mod Moving
pub mod Grids
