-- Laws of the encoding and of its refusals.
pub mod Encodings
pub mod Parts
pub mod Answers
