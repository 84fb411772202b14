-- Laws that the proofs of the functions cite, and that callers may.
pub mod Extrapolation
pub mod Behind
pub mod Weighted
pub mod Backwards
pub mod Falls
pub mod CurveValues
pub mod Shifts
pub mod InPlace
pub mod Inputs
pub mod HRoom
