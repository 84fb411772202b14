-- Laws that the proofs of the functions cite, and that callers may.
pub mod Tested
pub mod Steps
pub mod Numbers
pub mod Signs
pub mod Products
pub mod Fours
pub mod Rising
pub mod Mirroring
