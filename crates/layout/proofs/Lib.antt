-- Laws of the places, and of what is written piece after piece.
pub mod Positions
pub mod Pieces
