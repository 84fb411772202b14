-- Laws of round two.
pub mod SecondRound
