-- Laws that the functions' proofs cite.
pub mod BodyTable
pub mod StepLaws
