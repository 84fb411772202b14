-- Laws of round one.
pub mod FirstRound
